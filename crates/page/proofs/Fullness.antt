-- A bag has 32 stacks exactly where its last place is filled.
use Rattle.std.proofs.Common.{◌≡◌, ℕ, suc, Bool, true, false, leb, List, [], ◌∷◌, ◌++◌, map, length, refl, arith}
use Rattle.std.specs.List.{range_with_len}
use Rattle.std.proofs.lemmas.List.FromFn.{map-range_with_len_more}
use Rattle.std.proofs.lemmas.Bool.Decides.{nat_tests}
use Rattle.page.specs.declared.contents.Place.{Place}
use Rattle.page.specs.declared.contents.Place.TheVariants.{Empty, Filled, Malformed}
use Rattle.page.specs.Pages.{all_empty, in_order, is_bag, place_at, places, stacks, stacks_in}
use Rattle.page.proofs.Texts.{bag_parts}

-- whether a place holds a stack
abbrev pub is_filled : Place → Bool
is_filled Empty = false
is_filled (Filled s) = true
is_filled Malformed = false

empty_last : (ps : List Place) (p : Place) → all_empty (ps ++ (p ∷ [])) ≡ true → is_filled p ≡ false
empty_last [] Empty holds = refl
empty_last [] (Filled s) holds = cc
empty_last [] Malformed holds = refl
empty_last (Empty ∷ ps) p holds = empty_last ps p holds
empty_last (Filled s ∷ ps) p holds = cc
empty_last (Malformed ∷ ps) p holds = cc

-- all places hold stacks just where the last one does
full_by_last :
    (above : ℕ) (ps : List Place) (p : Place)
    → in_order above (ps ++ (p ∷ [])) ≡ true
    → leb (suc (length ps)) (length (stacks_in (ps ++ (p ∷ [])))) ≡ is_filled p
full_by_last above [] Empty holds = refl
full_by_last above [] (Filled s) holds = refl
full_by_last above [] Malformed holds = refl
full_by_last above (Empty ∷ ps) p holds = let none = empty_last ps p holds in grind (arith, nat_tests)
full_by_last above (Filled s ∷ ps) p holds = let rest = full_by_last s.kind ps p in grind (arith, nat_tests)
full_by_last above (Malformed ∷ ps) p holds = cc

pub bag_full : (page : List ℕ) → is_bag page ≡ true → leb 32 (length (stacks page)) ≡ is_filled (place_at page 31)
unfolding stacks places
bag_full page bag =
    let ps = map (place_at page) (range_with_len 0 31) in
    let split : places page ≡ ps ++ (place_at page 31 ∷ []) = map-range_with_len_more (place_at page) 0 31 31 refl in
    rw split (full_by_last 0 ps (place_at page 31) (rw split at (bag_parts page bag).ordered))
