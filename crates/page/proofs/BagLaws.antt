-- The pages that edits leave are bags again, of the edited stacks.
use Rattle.std.proofs.Common.{◌≡◌, ℕ, ◌+◌, ◌≤◌, true, false, List, [], ◌++◌, length, take, drop, Ok, refl, ◌∙◌, arith}
use Rattle.std.proofs.lemmas.List.{drop_at, take-append-drop}
use Rattle.std.proofs.lemmas.Bool.Decides.{nat_tests}
use Rattle.page.specs.declared.contents.Stack.{Stack}
use Rattle.page.specs.Pages.{is_bag, stacks, render, rewritten}
use Rattle.page.specs.Stacks.{InRange, Lawful, held, added, crafted, removed}
use Rattle.refusal.specs.Answers.{answer}
use Rattle.page.specs.Calls.{add_tests, added_page, blank_page, craft_tests, crafted_page, no_room, no_such_amount, no_such_kind, remove_tests, removed_page}
use Rattle.page.specs.Holdings.{BagAgain, Emptied, Exchanged, Lowered, Raised, held_in}
use Rattle.page.proofs.Amounts.{held-added, held-removed}
use Rattle.page.proofs.Counting.{length-added, length_removed}
use Rattle.page.proofs.Rising.{rising_added, rising_removed}
use Rattle.page.proofs.Texts.{is_bag-render, lawful_stacks, length-render, stacks-render}

-- what a removal leaves can stand in a bag
pub lawful_removed :
    (items : Stack) (ss : List Stack) → items.amount ≤ held items.kind ss → Lawful ss → Lawful (removed items ss)
lawful_removed items ss enough lawful =
    (omega (arith, length_removed items ss, lawful.0), rising_removed items 0 ss enough lawful.1)

-- what an adding leaves can stand in a bag, where there is room
pub lawful_added :
    (items : Stack) (ss : List Stack) → InRange items → (no_room items ss).0 ≡ false → Lawful ss → Lawful (added items ss)
lawful_added items ss range room lawful =
    let below : held items.kind ss + items.amount ≤ 99999 = grind (arith, nat_tests) in
    let count = length-added items 0 ss lawful.1 in
    let few = lawful.0 in
    let within : length (added items ss) ≤ 32 = grind (arith, nat_tests) in
    (within, rising_added items range 0 ss range.0.0 below lawful.1)

-- items that pass the tests of their kind and their amount are in range
pub in_range : (items : Stack) → (no_such_kind items.kind).0 ≡ false → (no_such_amount items.amount).0 ≡ false → InRange items
in_range items kind amount = (
  (grind (arith, nat_tests), grind (arith, nat_tests)),
  (grind (arith, nat_tests), grind (arith, nat_tests)),
)

-- a page rewritten with other stacks, of any kinds

-- it has the bytes after the page that it had
pub rewritten_rest : (page : List ℕ) (ss : List Stack) → drop 257 (rewritten page ss) ≡ drop 257 page
rewritten_rest page ss = drop_at (render ss) (drop 257 page) 257 (length-render ss)

-- of two rewritings the second stands
pub rewritten_again : (page : List ℕ) (ss new : List Stack) → rewritten (rewritten page ss) new ≡ rewritten page new
rewritten_again page ss new = rw (rewritten_rest page ss) refl

-- its first bytes put back, it is as it was
pub put_back : (page : List ℕ) (ss : List Stack) → take 257 page ++ drop 257 (rewritten page ss) ≡ page
put_back page ss = rw (rewritten_rest page ss) (take-append-drop 257 page)

-- a page rewritten with lawful stacks

module _ (page : List ℕ) (ss : List Stack) (lawful : Lawful ss) where
  -- it is a bag, of those stacks
  pub rewritten_bag : is_bag (rewritten page ss) ≡ true
  rewritten_bag = is_bag-render ss (drop 257 page) lawful

  pub rewritten-stacks : stacks (rewritten page ss) ≡ ss
  rewritten-stacks = stacks-render ss (drop 257 page) lawful

  pub bag_again : BagAgain page (rewritten page ss)
  bag_again = record { bag = rewritten_bag; kept = rewritten_rest page ss }

  pub held_in-rewritten : (kind : ℕ) → held_in kind (rewritten page ss) ≡ held kind ss
  held_in-rewritten kind = rw (rewritten_bag, rewritten-stacks) refl

-- a bag's page after a removal

module _ (page : List ℕ) (bag : is_bag page ≡ true) (items : Stack) (enough : items.amount ≤ held items.kind (stacks page)) where
  lawful_after : Lawful (removed items (stacks page))
  lawful_after = lawful_removed items (stacks page) enough (lawful_stacks page bag)

  module _ (left : List ℕ) (is : left ≡ removed_page page items) where
    -- it is a bag, of the stacks that are left
    pub removed_bag : is_bag left ≡ true
    removed_bag = rw is (rewritten_bag page (removed items (stacks page)) lawful_after)

    pub removed-stacks : stacks left ≡ removed items (stacks page)
    removed-stacks = rw is (rewritten-stacks page (removed items (stacks page)) lawful_after)

    -- its first bytes put back, it is as it was
    pub removed_put_back : take 257 page ++ drop 257 left ≡ page
    removed_put_back = rw is (put_back page (removed items (stacks page)))

    -- and after an adding to that
    pub crafted_page_is : (into : Stack) (done : List ℕ) → done ≡ added_page left into → done ≡ crafted_page page items into
    crafted_page_is into done done_is = done_is ∙ rw (removed-stacks, is, rewritten_rest page (removed items (stacks page))) refl

pub blank_empties : (page : List ℕ) → Emptied page (blank_page page)
blank_empties page =
    let lawful : Lawful [] = (omega arith, tt) in
    record { again = bag_again page [] lawful; holds = held_in-rewritten page [] lawful }

-- what adding, removing and crafting make of what a bag holds

module _ (page : List ℕ) (bag : is_bag page ≡ true) where
  pub add_raises :
      (items : Stack) → InRange items → (no_room items (stacks page)).0 ≡ false → Raised page (added_page page items) items
  add_raises items range room =
      let lawful = lawful_stacks page bag in
      let after = lawful_added items (stacks page) range room lawful in
      record {
        again = bag_again page (added items (stacks page)) after;
        holds = λ kind.
            rw
            (held_in-rewritten page (added items (stacks page)) after kind, bag)
            (held-added kind items 0 (stacks page) lawful.1);
      }

  pub remove_lowers :
      (items : Stack) → items.amount ≤ held items.kind (stacks page) → Lowered page (removed_page page items) items
  remove_lowers items enough =
      let lawful = lawful_stacks page bag in
      let after = lawful_removed items (stacks page) enough lawful in
      record {
        again = bag_again page (removed items (stacks page)) after;
        holds = λ kind.
            rw
            (held_in-rewritten page (removed items (stacks page)) after kind, bag)
            (held-removed kind items 0 (stacks page) lawful.1 enough);
      }

  pub craft_exchanges :
      (out into : Stack)
      → InRange into
      → out.amount ≤ held out.kind (stacks page)
      → (no_room into (removed out (stacks page))).0 ≡ false
      → Exchanged page (crafted_page page out into) out into
  craft_exchanges out into range enough room =
      let lawful = lawful_stacks page bag in
      let between = lawful_removed out (stacks page) enough lawful in
      let after = lawful_added into (removed out (stacks page)) range room between in
      record {
        again = bag_again page (crafted out into (stacks page)) after;
        holds = λ kind.
            let more = held-added kind into 0 (removed out (stacks page)) between.1 in
            let fewer = held-removed kind out 0 (stacks page) lawful.1 enough in
            rw (held_in-rewritten page (crafted out into (stacks page)) after kind, bag) (omega arith);
      }

-- what a good call makes of what a page holds: that its tests pass says all that is needed

module _ (page : List ℕ) where
  pub good_add_raises : (items : Stack) → Ok (tt {0}) ≡ answer (add_tests page items) tt → Raised page (added_page page items) items
  good_add_raises items good =
      let range = in_range items (grind (arith, nat_tests)) (grind (arith, nat_tests)) in
      add_raises page (grind (arith, nat_tests)) items range (grind (arith, nat_tests))

  pub good_remove_lowers :
      (items : Stack) → Ok (tt {0}) ≡ answer (remove_tests page items) tt → Lowered page (removed_page page items) items
  good_remove_lowers items good = remove_lowers page (grind (arith, nat_tests)) items (grind (arith, nat_tests))

  pub good_craft_exchanges :
      (out into : Stack) → Ok (tt {0}) ≡ answer (craft_tests page out into) tt → Exchanged page (crafted_page page out into) out into
  good_craft_exchanges out into good =
      let range = in_range into (grind (arith, nat_tests)) (grind (arith, nat_tests)) in
      craft_exchanges page (grind (arith, nat_tests)) out into range (grind (arith, nat_tests)) (grind (arith, nat_tests))
