-- How many items of each kind there are, before and after an edit.
use Rattle.std.proofs.Common.{◌≡◌, ℕ, ◌+◌, ◌<◌, ◌≤◌, cond, eqb, List, [], ◌∷◌, arith}
use Rattle.std.proofs.lemmas.Bool.Decides.{nat_tests}
use Rattle.page.specs.declared.contents.Stack.{Stack}
use Rattle.page.specs.Stacks.{RisingFrom, held, added, removed}
use Rattle.page.proofs.Fronts.{added_cases, removed_cases}
use Rattle.page.proofs.Rising.{held_absent}

pub held_most : (kind above : ℕ) (ss : List Stack) → RisingFrom above ss → held kind ss ≤ 99999
held_most kind above [] rising = omega arith
held_most kind above (s ∷ ss) rising = let rest = held_most kind s.kind ss rising.1.1 in grind (arith, nat_tests)

-- an adding adds the amount to what is held of its kind, and nothing to any other
pub held-added :
    (kind : ℕ) (items : Stack) (above : ℕ) (ss : List Stack)
    → RisingFrom above ss
    → held kind (added items ss) ≡ held kind ss + cond (eqb kind items.kind) items.amount 0
held-added kind items above [] rising = grind (arith, nat_tests)
held-added kind items above (s ∷ ss) rising =
    let after = held-added kind items s.kind ss rising.1.1 in
    added_cases
    items
    s
    ss
    (λ left. held kind left ≡ held kind (s ∷ ss) + cond (eqb kind items.kind) items.amount 0)
    (λ smaller. grind (arith, nat_tests))
    (λ same. grind (arith, nat_tests))
    (λ larger. let none = held_absent items.kind s.kind ss (omega arith) rising.1.1 in grind (arith, nat_tests))

-- a removal takes the amount from what is held of its kind, and nothing from any other
pub held-removed :
    (kind : ℕ) (items : Stack) (above : ℕ) (ss : List Stack)
    → RisingFrom above ss
    → items.amount ≤ held items.kind ss
    → held kind (removed items ss) + cond (eqb kind items.kind) items.amount 0 ≡ held kind ss
held-removed kind items above [] rising enough = grind (arith, nat_tests)
held-removed kind items above (s ∷ ss) rising enough =
    removed_cases
    items
    s
    ss
    (λ left. held kind left + cond (eqb kind items.kind) items.amount 0 ≡ held kind (s ∷ ss))
    (λ other. let after = held-removed kind items s.kind ss rising.1.1 (grind (arith, nat_tests)) in grind (arith, nat_tests))
    (λ same all. let none = held_absent s.kind s.kind ss (omega arith) rising.1.1 in grind (arith, nat_tests))
    (λ same some. grind (arith, nat_tests))

-- a kind of which there are items is one that a place can hold
pub kind_in_range :
    (kind above : ℕ) (ss : List Stack) → RisingFrom above ss → 0 < held kind ss → (above < kind) × (kind ≤ 999)
kind_in_range kind above [] rising some = absurd (omega arith)
kind_in_range kind above (s ∷ ss) rising some =
    let rest = kind_in_range kind s.kind ss rising.1.1 in
    (grind (arith, nat_tests), grind (arith, nat_tests))
