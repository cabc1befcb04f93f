-- The place of a kind among stacks, and what the edits make of it.
use Rattle.std.proofs.Common.{◌≡◌, ℕ, ◌+◌, ◌-◌, ◌<◌, ◌≤◌, List, [], ◌∷◌, ◌++◌, length, refl, ⊎_elim, arith}
use Rattle.std.proofs.lemmas.Bool.{cases_order}
use Rattle.std.proofs.lemmas.Bool.Decides.{nat_tests}
use Rattle.page.specs.declared.contents.Stack.{Stack}
use Rattle.page.specs.Stacks.{RisingFrom, held, spot, added, removed}
use Rattle.page.proofs.Fronts.{amounting}
use Rattle.page.proofs.Rising.{held_absent}

-- the place of a kind that the stacks have, and what the edits make of the stack there

pub record Found (kind : ℕ) (ss : List Stack) : Type 0 where
  pub front : List Stack
  pub stack : Stack
  pub back : List Stack
  pub split : ss ≡ front ++ (stack ∷ back)
  pub place : spot kind ss ≡ length front
  pub kind_is : stack.kind ≡ kind
  pub amount_is : held kind ss ≡ stack.amount
  pub raised :
      (items : Stack) → items.kind ≡ kind → added items ss ≡ front ++ (amounting stack (stack.amount + items.amount) ∷ back)
  pub closed : (items : Stack) → items.kind ≡ kind → stack.amount ≡ items.amount → removed items ss ≡ front ++ back
  pub lowered :
      (items : Stack)
      → items.kind ≡ kind
      → (stack.amount ≡ items.amount → ⊥)
      → removed items ss ≡ front ++ (amounting stack (stack.amount - items.amount) ∷ back)

-- the place where a kind that the stacks lack belongs
pub record Absent (kind : ℕ) (ss : List Stack) : Type 0 where
  pub front : List Stack
  pub back : List Stack
  pub split : ss ≡ front ++ back
  pub place : spot kind ss ≡ length front
  pub inserted : (items : Stack) → items.kind ≡ kind → added items ss ≡ front ++ (items ∷ back)

module _ (kind : ℕ) (s : Stack) (ss : List Stack) where
  found_here : s.kind ≡ kind → Found kind (s ∷ ss)
  found_here same =
      record {
        front = [];
        stack = s;
        back = ss;
        split = refl;
        place = grind (arith, nat_tests);
        kind_is = same;
        amount_is = grind (arith, nat_tests);
        raised = λ items of_kind. grind (arith, nat_tests);
        closed = λ items of_kind all. grind (arith, nat_tests);
        lowered = λ items of_kind some. grind (arith, nat_tests);
      }

  found_past : s.kind < kind → Found kind ss → Found kind (s ∷ ss)
  found_past smaller rest =
      record {
        front = s ∷ rest.front;
        stack = rest.stack;
        back = rest.back;
        split = cc rest.split;
        place = let there = rest.place in grind (arith, nat_tests);
        kind_is = rest.kind_is;
        amount_is = let held_there = rest.amount_is in grind (arith, nat_tests);
        raised = λ items of_kind. let after = rest.raised items of_kind in grind (arith, nat_tests);
        closed = λ items of_kind all. let after = rest.closed items of_kind all in grind (arith, nat_tests);
        lowered = λ items of_kind some. let after = rest.lowered items of_kind some in grind (arith, nat_tests);
      }

  absent_here : kind < s.kind → Absent kind (s ∷ ss)
  absent_here larger =
      record {
        front = [];
        back = s ∷ ss;
        split = refl;
        place = grind (arith, nat_tests);
        inserted = λ items of_kind. grind (arith, nat_tests);
      }

  absent_past : s.kind < kind → Absent kind ss → Absent kind (s ∷ ss)
  absent_past smaller rest =
      record {
        front = s ∷ rest.front;
        back = rest.back;
        split = cc rest.split;
        place = let there = rest.place in grind (arith, nat_tests);
        inserted = λ items of_kind. let after = rest.inserted items of_kind in grind (arith, nat_tests);
      }

pub found : (kind above : ℕ) (ss : List Stack) → RisingFrom above ss → 0 < held kind ss → Found kind ss
found kind above [] rising some = absurd (omega arith)
found kind above (s ∷ ss) rising some =
    ⊎_elim
    (found_here kind s ss)
    (⊎_elim
    (λ smaller. found_past kind s ss smaller (found kind s.kind ss rising.1.1 (grind (arith, nat_tests))))
    (λ larger. let none = held_absent kind s.kind ss (omega arith) rising.1.1 in absurd (grind (arith, nat_tests))))
    (cases_order s.kind kind)

pub absent : (kind above : ℕ) (ss : List Stack) → RisingFrom above ss → held kind ss ≡ 0 → Absent kind ss
absent kind above [] rising none =
    record { front = []; back = []; split = refl; place = refl; inserted = λ items of_kind. refl }
absent kind above (s ∷ ss) rising none =
    ⊎_elim
    (λ same. absurd (grind (arith, nat_tests)))
    (⊎_elim
    (λ smaller. absent_past kind s ss smaller (absent kind s.kind ss rising.1.1 (grind (arith, nat_tests))))
    (absent_here kind s ss))
    (cases_order s.kind kind)

pub spot_most : (kind : ℕ) (ss : List Stack) → spot kind ss ≤ length ss
spot_most kind [] = omega arith
spot_most kind (s ∷ ss) = let rest = spot_most kind ss in grind (arith, nat_tests)

pub spot_found : (kind above : ℕ) (ss : List Stack) → RisingFrom above ss → 0 < held kind ss → spot kind ss < length ss
spot_found kind above [] rising some = absurd (omega arith)
spot_found kind above (s ∷ ss) rising some =
    let rest = spot_found kind s.kind ss rising.1.1 in
    grind (arith, nat_tests)
