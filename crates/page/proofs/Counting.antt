-- How many stacks there are after an edit.
use Rattle.std.proofs.Common.{◌≡◌, ℕ, suc, ◌≤◌, cond, eqb, List, [], ◌∷◌, length, refl, arith}
use Rattle.std.proofs.lemmas.Bool.Decides.{nat_tests}
use Rattle.page.specs.declared.contents.Stack.{Stack}
use Rattle.page.specs.Stacks.{RisingFrom, held, added, removed}
use Rattle.page.proofs.Fronts.{added_cases, removed_cases}
use Rattle.page.proofs.Rising.{held_absent}

pub length_removed : (items : Stack) (ss : List Stack) → length (removed items ss) ≤ length ss
length_removed items [] = omega arith
length_removed items (s ∷ ss) =
    let after = length_removed items ss in
    removed_cases items s ss (λ left. length left ≤ suc (length ss)) (λ other. omega arith) (λ same all. omega arith) (λ same some. omega arith)

-- an adding makes a stack more just where the kind was absent
pub length-added :
    (items : Stack) (above : ℕ) (ss : List Stack)
    → RisingFrom above ss
    → length (added items ss) ≡ cond (eqb (held items.kind ss) 0) (suc (length ss)) (length ss)
length-added items above [] rising = refl
length-added items above (s ∷ ss) rising =
    let after = length-added items s.kind ss rising.1.1 in
    added_cases
    items
    s
    ss
    (λ left. length left ≡ cond (eqb (held items.kind (s ∷ ss)) 0) (suc (suc (length ss))) (suc (length ss)))
    (λ smaller. grind (arith, nat_tests))
    (λ same. grind (arith, nat_tests))
    (λ larger. let none = held_absent items.kind s.kind ss (omega arith) rising.1.1 in grind (arith, nat_tests))
