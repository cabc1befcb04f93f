-- The worked plays of the page's rules hold.
use Rattle.std.proofs.Common.{◌≡◌, ℕ, suc, ◌<◌, ◌≤◌, Bool, true, false, cond, List, ◌∷◌, length, Ok, Err, Result, sym, refl, ap, ◌∙◌, arith}
use Rattle.std.proofs.lemmas.List.{length-append}
use Rattle.std.proofs.lemmas.Bool.Decides.{nat_tests}
use Rattle.page.specs.declared.contents.Stack.{Stack}
use Rattle.refusal.specs.Answers.{on_ok}
use Rattle.page.specs.Calls.{crafted_page, no_room}
use Rattle.page.specs.Pages.{is_bag, stacks}
use Rattle.page.specs.Stacks.{RisingFrom, held, removed}
use Rattle.page.proofs.Amounts.{held_most, held-removed, kind_in_range}
use Rattle.page.proofs.Finding.{found}
use Rattle.page.proofs.Texts.{bag_parts, lawful_stacks}
use Rattle.page_laws.specs.Plays.{FullWithoutSix, Plays, add_one, craft_six, items}

-- how many stacks a removal leaves: one fewer where it takes a whole stack, else as many

length-removed_whole :
    (ss : List Stack) → RisingFrom 0 ss → 0 < held 5 ss → suc (length (removed (items (held 5 ss) 5) ss)) ≡ length ss
length-removed_whole ss rising some =
    let there = found 5 0 ss rising some in
    omega (
      arith,
      ap length (there.closed (items (held 5 ss) 5) refl (sym there.amount_is)),
      length-append there.front there.back,
      ap length there.split,
      length-append there.front (there.stack ∷ there.back),
    )

length-removed_part :
    (ss : List Stack) (out : ℕ) → RisingFrom 0 ss → out < held 5 ss → length (removed (items out 5) ss) ≡ length ss
length-removed_part ss out rising some =
    let there = found 5 0 ss rising (omega arith) in
    let part : there.stack.amount ≡ out → ⊥ = λ all. omega (arith, there.amount_is) in
    ap length (there.lowered (items out 5) refl part)
    ∙ length-append there.front _
    ∙ sym (ap length there.split ∙ length-append there.front (there.stack ∷ there.back))

module _ (page : List ℕ) (kind : ℕ) (bag : is_bag page ≡ true) where
  one_more_fits : held kind (stacks page) ≡ 99998 → add_one page kind ≡ Ok tt
  one_more_fits holds =
      let long = (bag_parts page bag).long in
      let range = kind_in_range kind 0 (stacks page) (lawful_stacks page bag).1 (omega arith) in
      grind (arith, nat_tests)

  one_too_many : held kind (stacks page) ≡ 99999 → add_one page kind ≡ Err 13
  one_too_many holds =
      let long = (bag_parts page bag).long in
      let range = kind_in_range kind 0 (stacks page) (lawful_stacks page bag).1 (omega arith) in
      grind (arith, nat_tests)

-- a full bag without kind 6, from which some of kind 5 are removed
module _ (page : List ℕ) (out into : ℕ) (start : FullWithoutSix page) where
  still_none : out ≤ held 5 (stacks page) → held 6 (removed (items out 5) (stacks page)) ≡ 0
  still_none enough =
      omega (arith, held-removed 6 (items out 5) 0 (stacks page) (lawful_stacks page start.bag).1 enough, start.none)

  -- what the craft's tests before the last one need
  rising : RisingFrom 0 (stacks page)
  rising = (lawful_stacks page start.bag).1

  long : 257 ≤ length page
  long = (bag_parts page start.bag).long

  most : held 5 (stacks page) ≤ 99999
  most = held_most 5 0 (stacks page) rising

  by_room :
      (room : Bool)
      → (no_room (items into 6) (removed (items out 5) (stacks page))).0 ≡ room
      → (1 ≤ out) × (out ≤ held 5 (stacks page))
      → (1 ≤ into) × (into ≤ 99999)
      → craft_six page out into ≡ cond room (Err 13) (Ok tt)
  by_room room is some into_some =
      let bag = start.bag in
      let enough = long in
      let few = most in
      grind (arith, nat_tests)

  all_crafted : out ≡ held 5 (stacks page) → 1 ≤ out → 1 ≤ into → into ≤ 99999 → craft_six page out into ≡ Ok tt
  all_crafted all some into_some into_few =
      let none = still_none (omega arith) in
      let fewer : suc (length (removed (items out 5) (stacks page))) ≡ 32 =
      ap (λ (n : ℕ). suc (length (removed (items n 5) (stacks page)))) all
      ∙ length-removed_whole (stacks page) rising (omega arith)
      ∙ start.full in
      by_room false (grind (arith, nat_tests)) (some, omega arith) (into_some, into_few)

  part_refused : 1 ≤ out → out < held 5 (stacks page) → 1 ≤ into → into ≤ 99999 → craft_six page out into ≡ Err 13
  part_refused some part into_some into_few =
      let none = still_none (omega arith) in
      let same : length (removed (items out 5) (stacks page)) ≡ 32 =
      length-removed_part (stacks page) out rising part ∙ start.full in
      by_room true (grind (arith, nat_tests)) (some, omega arith) (into_some, into_few)

pub plays : Plays
plays =
    record {
      small_stack = refl;
      large_stack = refl;
      one_more_fits = one_more_fits;
      one_too_many = one_too_many;
      all_crafted = λ page into start some. all_crafted page (held 5 (stacks page)) into start refl some;
      part_refused = λ page out into start some part into_some into_few.
          let refused = part_refused page out into start some part into_some into_few in
          (refused, ap (λ (r : Result (Unit {0}) ℕ). on_ok r (crafted_page page (items out 5) (items into 6)) page) refused);
    }
