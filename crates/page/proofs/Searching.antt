-- The search for a kind: what it answers, by the places of a bag's page that it has still to look at.
use Rattle.std.proofs.Common.{◌≡◌, ℕ, ◌+◌, ◌<◌, ◌≤◌, true, cond, ltb, eqb, List, [], ◌∷◌, length, Some, None, Option, refl, ap, ap₂, ◌∙◌, zero-add, add-zero, arith}
use Rattle.std.proofs.lemmas.Bool.{cond_both}
use Rattle.std.proofs.lemmas.Bool.Decides.{nat_tests}
use Rattle.page.specs.declared.contents.Place.{Place}
use Rattle.page.specs.declared.contents.Place.TheVariants.{Empty, Filled, Malformed}
use Rattle.page.specs.Pages.{is_bag, in_order, places, place_at, stacks, stacks_in}
use Rattle.page.specs.Stacks.{held, spot}
use Rattle.page.specs.Steps.{stops_with}
use Rattle.page.proofs.Finding.{spot_found, spot_most}
use Rattle.page.proofs.Texts.{bag_parts, lawful_stacks}
use Rattle.page.proofs.Places.{places_from, places_from_none, places_from_more, places_from_all}

-- what the search answers at place i, by what it makes of the place there, else by what it answers from the next one on
abbrev stop_or : ℕ → Option ℕ → ℕ × ℕ → ℕ × ℕ
stop_or i (Some amount) later = (i, amount)
stop_or i None later = later

abbrev search_from : ℕ → ℕ → List Place → ℕ × ℕ
search_from kind i [] = (i, 0)
search_from kind i (p ∷ ps) = stop_or i (stops_with kind p) (search_from kind (i + 1) ps)

-- the places still to come decide what is found
pub record Searched (page : List ℕ) (kind place : ℕ) : Type 0 where
  pub within : place ≤ 32
  pub finds : search_from kind place (places_from page place) ≡ (spot kind (stacks page), held kind (stacks page))

-- a kind below all those to come is absent
pub held_below : (kind above : ℕ) (ps : List Place) → kind ≤ above → in_order above ps ≡ true → held kind (stacks_in ps) ≡ 0
held_below kind above [] below ordered = refl
held_below kind above (Empty ∷ ps) below ordered = refl
held_below kind above (Filled s ∷ ps) below ordered =
    let rest = held_below kind s.kind ps in
    grind (arith, nat_tests)
held_below kind above (Malformed ∷ ps) below ordered = refl

-- the search among places in order finds where the kind stands among their stacks, and how many items of it there are
finds_stack :
    (kind above i : ℕ) (ps : List Place)
    → in_order above ps ≡ true
    → search_from kind i ps ≡ (i + spot kind (stacks_in ps), held kind (stacks_in ps))
finds_stack kind above i [] ordered = rw add-zero refl
finds_stack kind above i (Empty ∷ ps) ordered = rw add-zero refl
finds_stack kind above i (Filled s ∷ ps) ordered =
    let absent = held_below kind s.kind ps in
    let later : in_order s.kind ps ≡ true → search_from kind (i + 1) ps ≡ (i + 1 + spot kind (stacks_in ps), held kind (stacks_in ps)) =
    finds_stack kind s.kind (i + 1) ps in
    cond_both
    (ltb s.kind kind)
    None
    (Some (cond (eqb s.kind kind) s.amount 0))
    (λ stop. stop_or i stop (search_from kind (i + 1) ps) ≡ (i + spot kind (s ∷ stacks_in ps), held kind (s ∷ stacks_in ps)))
    (λ smaller. later (grind (arith, nat_tests)) ∙ ap₂ (λ (n k : ℕ). (n, k)) (grind (arith, nat_tests)) (grind (arith, nat_tests)))
    (λ larger. ap₂ (λ (n k : ℕ). (n, k)) (grind (arith, nat_tests)) (grind (arith, nat_tests)))
finds_stack kind above i (Malformed ∷ ps) ordered = rw add-zero refl

pub searched_none : (page : List ℕ) (kind : ℕ) → is_bag page ≡ true → Searched page kind 0
unfolding stacks
searched_none page kind bag =
    let finds = finds_stack kind 0 0 (places page) (bag_parts page bag).ordered in
    record { within = omega arith; finds = rw (places_from_none page) (rw zero-add at finds) }

-- what the search has to answer
abbrev pub Stopped : List ℕ → ℕ → ℕ → ℕ → Type 0
Stopped page kind at count =
    record {
      place : at ≡ spot kind (stacks page);
      amount : count ≡ held kind (stacks page);
      found : 0 < count → at < 32;
      room : length (stacks page) < 32 → at < 32;
    }

module _ (page : List ℕ) (bag : is_bag page ≡ true) (kind place : ℕ) (so_far : Searched page kind place) where
  -- the search stops at a place, with an amount
  stopped : (amount : ℕ) → search_from kind place (places_from page place) ≡ (place, amount) → Stopped page kind place amount
  stopped amount stops =
      let found = rw stops at so_far.finds in
      let there : place ≡ spot kind (stacks page) = ap (λ (p : ℕ × ℕ). p.0) found in
      let all : amount ≡ held kind (stacks page) = ap (λ (p : ℕ × ℕ). p.1) found in
      let lawful = lawful_stacks page bag in
      record {
        place = there;
        amount = all;
        found = λ some. omega (arith, spot_found kind 0 (stacks page) lawful.1 (omega arith), lawful.0);
        room = λ few. omega (arith, spot_most kind (stacks page));
      }

  pub stopped_at_end : 32 ≤ place → Stopped page kind place 0
  stopped_at_end past = stopped 0 (rw (places_from_all page place past) refl)

  -- the search stops at a place that gives an amount
  pub stopped_at :
      (amount : ℕ) → place < 32 → Some amount ≡ stops_with kind (place_at page place) → Stopped page kind place amount
  stopped_at amount within stops = stopped amount (rw (places_from_more page place within, ← stops) refl)

  pub searched_more : place < 32 → None ≡ stops_with kind (place_at page place) → Searched page kind (place + 1)
  searched_more within stops =
      record { within = omega arith; finds = rw (places_from_more page place within, ← stops) at so_far.finds }
