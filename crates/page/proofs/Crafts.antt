-- A craft is a removal and then an adding: what its parts answer and leave.
use Rattle.std.proofs.Common.{◌≡◌, ℕ, ◌≤◌, true, List, [], ◌∷◌, Ok, Err, Result, sym, refl, ◌∙◌, arith}
use Rattle.std.proofs.lemmas.Bool.Decides.{nat_tests}
use Rattle.refusal.specs.Answers.{answer}
use Rattle.page.specs.declared.contents.Stack.{Stack}
use Rattle.page.specs.Calls.{add_tests, added_page, craft_tests, crafted_page, no_room, not_enough, recipe_tests, remove_tests, removed_page}
use Rattle.page.specs.Pages.{is_bag, stacks}
use Rattle.page.specs.Stacks.{InRange, held}
use Rattle.page.proofs.BagLaws.{crafted_page_is, in_range, removed-stacks, removed_bag}
use Rattle.page.proofs.Texts.{bag_parts}

module _ (page : List ℕ) (bag : is_bag page ≡ true) (items : Stack) (range : InRange items) where
  -- items in range are taken out of a bag unless it holds too few
  pub remove_in_bag : answer (remove_tests page items) (tt {0}) ≡ answer (not_enough items (stacks page) ∷ []) tt
  remove_in_bag = let long = (bag_parts page bag).long in rw bag (grind (arith, nat_tests))

  -- items in range are put into a bag unless it has no room
  pub add_in_bag : answer (add_tests page items) (tt {0}) ≡ answer (no_room items (stacks page) ∷ []) tt
  add_in_bag = let long = (bag_parts page bag).long in rw bag (grind (arith, nat_tests))

module _ (page : List ℕ) (out into : Stack) (recipe : Ok (tt {0}) ≡ answer (recipe_tests out into) tt) where
  -- a refusal of the removal is one of the craft
  pub craft_not_removed :
      (n : ℕ) → Err n ≡ answer (remove_tests page out) (tt {0}) → Err n ≡ answer (craft_tests page out into) (tt {0})
  craft_not_removed n refused = grind (arith, nat_tests)

  module _ (good : Ok (tt {0}) ≡ answer (remove_tests page out) tt) where
    bag : is_bag page ≡ true
    bag = grind (arith, nat_tests)

    enough : out.amount ≤ held out.kind (stacks page)
    enough = grind (arith, nat_tests)

    -- what the removal leaves is a bag again
    pub again : is_bag (removed_page page out) ≡ true
    again = removed_bag page bag out enough (removed_page page out) refl

    -- after the removal the craft answers as the adding does
    pub craft_after_removal :
        (answered : Result (Unit {0}) ℕ)
        → answered ≡ answer (add_tests (removed_page page out) into) tt
        → answered ≡ answer (craft_tests page out into) tt
    craft_after_removal answered is =
        let long = (bag_parts (removed_page page out) again).long in
        is ∙ rw (removed-stacks page bag out enough (removed_page page out) refl, again) (grind (arith, nat_tests))

    -- and the adding leaves what the craft does
    pub crafted_after_removal : (left : List ℕ) → left ≡ added_page (removed_page page out) into → left ≡ crafted_page page out into
    crafted_after_removal = crafted_page_is page bag out enough (removed_page page out) refl into

  -- the same in a bag, where the two edits have one test each left to make
  module _ (bag : is_bag page ≡ true) (removed : Ok (tt {0}) ≡ answer (not_enough out (stacks page) ∷ []) tt) where
    out_in_range : InRange out
    out_in_range = in_range out (grind (arith, nat_tests)) (grind (arith, nat_tests))

    into_in_range : InRange into
    into_in_range = in_range into (grind (arith, nat_tests)) (grind (arith, nat_tests))

    pub removal_good : Ok (tt {0}) ≡ answer (remove_tests page out) tt
    removal_good = removed ∙ sym (remove_in_bag page bag out out_in_range)

    pub craft_in_bag :
        (answered : Result (Unit {0}) ℕ)
        → answered ≡ answer (no_room into (stacks (removed_page page out)) ∷ []) tt
        → answered ≡ answer (craft_tests page out into) tt
    craft_in_bag answered is =
        let after = add_in_bag (removed_page page out) (again removal_good) into into_in_range in
        craft_after_removal removal_good answered (is ∙ sym after)
