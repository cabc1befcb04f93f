-- The places of a page as a reader that goes through the page meets them: by their numbers, or chunk by chunk.
use Rattle.std.proofs.Common.{◌≡◌, ℕ, zero, suc, ◌+◌, ◌-◌, ◌*◌, ◌<◌, ◌≤◌, Bool, true, false, ◌&&◌, eqb, List, [], ◌∷◌, ◌++◌, map, length, get_or, take, drop, Some, None, Option, sym, refl, ap, arith}
use Rattle.std.specs.List.{range_with_len}
use Rattle.page.specs.declared.contents.Place.{Place}
use Rattle.std.proofs.lemmas.Bool.{le-leb}
use Rattle.std.proofs.lemmas.List.{drop-take, drop_at, length-append, length-drop, length-take-le, take-take, take_at}
use Rattle.page.specs.Steps.{kind_at, may_follow}
use Rattle.page.specs.Places.{place_in}
use Rattle.page.specs.declared.contents.Place.TheVariants.{Empty, Filled, Malformed}
use Rattle.page.specs.Pages.{all_empty, is_bag, in_order, place_at, places}
use Rattle.page.proofs.Texts.{places_in, places_of}

unfoldable pub places_from : List ℕ → ℕ → List Place
places_from page i = map (place_at page) (range_with_len i (32 - i))

pub places_from_none : (page : List ℕ) → places_from page 0 ≡ places page
unfolding places_from places
places_from_none page = refl

pub places_from_more : (page : List ℕ) (i : ℕ) → i < 32 → places_from page i ≡ place_at page i ∷ places_from page (i + 1)
unfolding places_from
places_from_more page i within =
    let left : 32 - i ≡ suc (32 - (i + 1)) = omega arith in rw left refl

pub places_from_all : (page : List ℕ) (i : ℕ) → 32 ≤ i → places_from page i ≡ []
unfolding places_from
places_from_all page i past =
    let left : 32 - i ≡ 0 = omega arith in rw left refl

-- what is left to test of a page that is long enough
pub is_bag_long :
    (page : List ℕ) → 257 ≤ length page → is_bag page ≡ (eqb (get_or page 0 0) 201 && in_order 0 (places page))
unfolding is_bag
is_bag_long page long = rw (le-leb 257 (length page) long)

pub places_in-take : (n : ℕ) (bytes : List ℕ) → places_in n (take (8 * n) bytes) ≡ places_in n bytes
unfolding places_in
places_in-take zero bytes = refl
places_in-take (suc n) bytes =
    let width : 8 * suc n ≡ 8 + 8 * n = omega arith in
    rw
    (width, take-take 8 (8 + 8 * n) bytes (omega arith), drop-take 8 (8 * n) bytes, places_in-take n (drop 8 bytes))
    refl

-- the 256 bytes after the tag, as all places
pub places_in_part : (page : List ℕ) → places_in 32 (take 256 (drop 1 page)) ≡ places page
places_in_part page = rw (places_in-take 32 (drop 1 page)) (sym (places_of page))

-- the places of some bytes whose first chunk is split off
pub places_in_chunk :
    (rest chunk later : List ℕ)
    → rest ≡ chunk ++ later
    → length chunk ≡ 8
    → (n : ℕ)
    → length rest ≡ 8 * n
    → (m : ℕ) × (length later ≡ 8 * m) × (places_in n rest ≡ place_in chunk ∷ places_in m later)
unfolding places_in
places_in_chunk rest chunk later split eight zero width =
    absurd (omega (arith, ap length split, length-append chunk later))
places_in_chunk rest chunk later split eight (suc m) width = (
  m,
  omega (arith, ap length split, length-append chunk later),
  rw (split, take_at chunk later 8 eight, drop_at chunk later 8 eight) refl,
)

-- whether the places to come are what a bag's reader expects: kinds above one, or nothing more
abbrev pub meets : Option ℕ → List Place → Bool
meets (Some above) ps = in_order above ps
meets None ps = all_empty ps

-- the first place decides by itself, and by what may follow it
meets_more :
    (above : Option ℕ) (p : Place) (ps : List Place) → meets above (p ∷ ps) ≡ (may_follow above p && meets (kind_at p) ps)
meets_more (Some kind) Empty ps = refl
meets_more None Empty ps = refl
meets_more (Some kind) (Filled s) ps = refl
meets_more None (Filled s) ps = refl
meets_more (Some kind) Malformed ps = refl
meets_more None Malformed ps = refl

-- what is still to come of a page whose places are read chunk by chunk
pub record Unread (page rest : List ℕ) (above : Option ℕ) : Type 0 where
  pub count : ℕ
  pub width : length rest ≡ 8 * count
  -- the places still to come decide
  pub decides : meets above (places_in count rest) ≡ in_order 0 (places page)

pub unread_none : (page : List ℕ) → 257 ≤ length page → Unread page (take 256 (drop 1 page)) (Some 0)
unread_none page long =
    record {
      count = 32;
      width = length-take-le 256 (drop 1 page) (omega (arith, length-drop 1 page));
      decides = ap (in_order 0) (places_in_part page);
    }

module _ (page rest chunk later : List ℕ) (above : Option ℕ) (split : rest ≡ chunk ++ later) (eight : length chunk ≡ 8) where
  -- what the first place that is still to come decides
  first_decides :
      Unread page rest above
      → (m : ℕ)
      × (length later ≡ 8 * m)
      × ((may_follow above (place_in chunk) && meets (kind_at (place_in chunk)) (places_in m later)) ≡ in_order 0 (places page))
  first_decides unread =
      let first = places_in_chunk rest chunk later split eight unread.count unread.width in
      (first.0, first.1, rw (first.2, meets_more above (place_in chunk) (places_in first.0 later)) at unread.decides)

  -- a place that may follow leaves the later ones to decide
  pub unread_more :
      may_follow above (place_in chunk) ≡ true → Unread page rest above → Unread page later (kind_at (place_in chunk))
  unread_more may unread =
      let first = first_decides unread in
      record { count = first.0; width = first.1; decides = rw may at first.2 }

  pub unread_spoilt : may_follow above (place_in chunk) ≡ false → Unread page rest above → false ≡ in_order 0 (places page)
  unread_spoilt may_not unread = rw may_not at (first_decides unread).2

-- a page that is read to its end is in order
pub unread_all :
    (page rest : List ℕ) (above : Option ℕ) → length rest < 8 → Unread page rest above → true ≡ in_order 0 (places page)
unfolding places_in
unread_all page rest (Some kind) short unread =
    let none : unread.count ≡ 0 = omega (arith, unread.width) in rw none at unread.decides
unread_all page rest None short unread =
    let none : unread.count ≡ 0 = omega (arith, unread.width) in rw none at unread.decides
