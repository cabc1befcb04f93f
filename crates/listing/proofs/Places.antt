-- The lines of places that are read chunk by chunk.
use Rattle.std.proofs.Common.{◌≡◌, ℕ, ◌*◌, ◌<◌, ◌≤◌, List, [], ◌∷◌, ◌++◌, length, take, drop, sym, refl, ap, ◌∙◌, append_assoc, arith}
use Rattle.std.proofs.lemmas.List.{append-nil, length-drop, length-take-le}
use Rattle.page.specs.declared.contents.Stack.{Stack}
use Rattle.page.specs.declared.contents.Place.{Place}
use Rattle.page.specs.declared.contents.Place.TheVariants.{Empty, Filled, Malformed}
use Rattle.page.specs.Places.{place_in}
use Rattle.page.specs.Pages.{stacks, stacks_in}
use Rattle.page.proofs.Texts.{places_in}
use Rattle.page.proofs.Places.{places_in_chunk, places_in_part}
use Rattle.listing.specs.Lines.{line, lines}

-- what is written of all lines, where the places of some bytes are still to come
pub record Unwritten (all written rest : List ℕ) : Type 0 where
  pub count : ℕ
  pub width : length rest ≡ 8 * count
  pub together : written ++ lines (stacks_in (places_in count rest)) ≡ all

pub unwritten_none :
    (page before : List ℕ) → 257 ≤ length page → Unwritten (before ++ lines (stacks page)) before (take 256 (drop 1 page))
unfolding stacks
unwritten_none page before long =
    record {
      count = 32;
      width = length-take-le 256 (drop 1 page) (omega (arith, length-drop 1 page));
      together = ap (λ (ps : List Place). before ++ lines (stacks_in ps)) (places_in_part page);
    }

none_unless_filled : (p : Place) (ps : List Place) → ((s : Stack) → p ≡ Filled s → ⊥) → lines (stacks_in (p ∷ ps)) ≡ []
none_unless_filled Empty ps other = refl
none_unless_filled (Filled s) ps other = absurd (other s refl)
none_unless_filled Malformed ps other = refl

module _ (all written rest chunk later : List ℕ) (split : rest ≡ chunk ++ later) (eight : length chunk ≡ 8) (unwritten : Unwritten all written rest) where
  first_place :
      (m : ℕ)
      × (length later ≡ 8 * m)
      × (places_in unwritten.count rest ≡ place_in chunk ∷ places_in m later)
  first_place = places_in_chunk rest chunk later split eight unwritten.count unwritten.width

  by_first : written ++ lines (stacks_in (place_in chunk ∷ places_in first_place.0 later)) ≡ all
  by_first = ap (λ (ps : List Place). written ++ lines (stacks_in ps)) (sym first_place.2) ∙ unwritten.together

  pub unwritten_more :
      (s : Stack) (after : List ℕ) → place_in chunk ≡ Filled s → after ≡ written ++ line s → Unwritten all after later
  unwritten_more s after is wrote =
      record {
        count = first_place.0;
        width = first_place.1;
        together =
            ap (λ (now : List ℕ). now ++ lines (stacks_in (places_in first_place.0 later))) wrote
            ∙ append_assoc written (line s) (lines (stacks_in (places_in first_place.0 later)))
            ∙ ap (λ (p : Place). written ++ lines (stacks_in (p ∷ places_in first_place.0 later))) (sym is)
            ∙ by_first;
      }

  pub unwritten_unfilled : (p : Place) → p ≡ place_in chunk → ((s : Stack) → p ≡ Filled s → ⊥) → written ≡ all
  unwritten_unfilled p is other =
      sym (append-nil written)
      ∙ ap (λ (more : List ℕ). written ++ more) (sym (none_unless_filled p (places_in first_place.0 later) other))
      ∙ ap (λ (q : Place). written ++ lines (stacks_in (q ∷ places_in first_place.0 later))) is
      ∙ by_first

pub unwritten_all : (all written rest : List ℕ) → length rest < 8 → Unwritten all written rest → written ≡ all
unfolding places_in
unwritten_all all written rest short unwritten =
    let none : unwritten.count ≡ 0 = omega (arith, unwritten.width) in
    sym (append-nil written)
    ∙ ap (λ (n : ℕ). written ++ lines (stacks_in (places_in n rest))) (sym none)
    ∙ unwritten.together
