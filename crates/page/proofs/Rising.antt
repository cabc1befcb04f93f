-- Edits keep the order of stacks, and their ranges.
use Rattle.std.proofs.Common.{◌≡◌, ℕ, ◌+◌, ◌<◌, ◌≤◌, List, [], ◌∷◌, refl, arith}
use Rattle.std.proofs.lemmas.Bool.Decides.{nat_tests}
use Rattle.page.specs.declared.contents.Stack.{Stack}
use Rattle.page.specs.Stacks.{InRange, RisingFrom, held, added, removed}
use Rattle.page.proofs.Fronts.{added_cases, removed_cases}

pub rising_from_below : (low high : ℕ) (ss : List Stack) → low ≤ high → RisingFrom high ss → RisingFrom low ss
rising_from_below low high [] below rising = tt
rising_from_below low high (s ∷ ss) below rising = (omega arith, rising.1)

pub held_absent : (kind above : ℕ) (ss : List Stack) → kind ≤ above → RisingFrom above ss → held kind ss ≡ 0
held_absent kind above [] below rising = refl
held_absent kind above (s ∷ ss) below rising =
    let rest = held_absent kind s.kind ss (omega arith) rising.1.1 in
    grind (arith, nat_tests)

-- an adding keeps the order and the ranges
pub rising_added :
    (items : Stack) (range : InRange items) (above : ℕ) (ss : List Stack)
    → above < items.kind
    → held items.kind ss + items.amount ≤ 99999
    → RisingFrom above ss
    → RisingFrom above (added items ss)
rising_added items range above [] higher room rising = (higher, (range, tt))
rising_added items range above (s ∷ ss) higher room rising =
    added_cases
    items
    s
    ss
    (RisingFrom above)
    (λ smaller. (rising.0, (rising.1.0, rising_added items range s.kind ss smaller (grind (arith, nat_tests)) rising.1.1)))
    (λ same. (rising.0, ((rising.1.0.0, (omega (arith, range.1), grind (arith, nat_tests))), rising.1.1)))
    (λ larger. (higher, (range, (larger, rising.1))))

-- a removal keeps the order and the ranges
pub rising_removed :
    (items : Stack) (above : ℕ) (ss : List Stack)
    → items.amount ≤ held items.kind ss
    → RisingFrom above ss
    → RisingFrom above (removed items ss)
rising_removed items above [] enough rising = tt
rising_removed items above (s ∷ ss) enough rising =
    removed_cases
    items
    s
    ss
    (RisingFrom above)
    (λ other. (rising.0, (rising.1.0, rising_removed items s.kind ss (grind (arith, nat_tests)) rising.1.1)))
    (λ same all. rising_from_below above s.kind ss (omega arith) rising.1.1)
    (λ same some. (rising.0, ((rising.1.0.0, (grind (arith, nat_tests), omega (arith, rising.1.0.1))), rising.1.1)))
