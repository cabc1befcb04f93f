-- The place where a search stops parts the smaller kinds from the others, and the amount is that of the whole bag.
use Rattle.std.proofs.Common.{◌≡◌, ℕ, ◌<◌, ◌≤◌, ltb, suc, List, [], ◌∷◌, take, sum_by, refl, arith}
use Rattle.std.specs.List.{All}
use Rattle.std.proofs.lemmas.List.Elements.{All-cons, All-nil}
use Rattle.std.proofs.lemmas.List.Sums.{sum_by-cons}
use Rattle.std.proofs.lemmas.Bool.{cond_both, ltb-true, ltb-false}
use Rattle.std.proofs.lemmas.Bool.Decides.{nat_tests}
use Rattle.page.specs.declared.contents.Stack.{Stack}
use Rattle.page.specs.Holdings.{StopsAt, count_of}
use Rattle.page.specs.Stacks.{RisingFrom, held, spot}
use Rattle.page.proofs.Rising.{held_absent}

none_smaller : (kind above : ℕ) (ss : List Stack) → kind ≤ above → RisingFrom above ss → All (λ s. kind ≤ s.kind) ss
none_smaller kind above [] low rising = All-nil (λ (s : Stack). kind ≤ s.kind)
none_smaller kind above (s ∷ ss) low rising =
    All-cons (λ (s : Stack). kind ≤ s.kind) s ss (omega (arith, rising.0)) (none_smaller kind s.kind ss (omega (arith, rising.0)) rising.1.1)

rising_stops : (kind above : ℕ) (ss : List Stack) → RisingFrom above ss → StopsAt kind ss (spot kind ss) (held kind ss)
rising_stops kind above [] rising =
    record {
      before = All-nil (λ (s : Stack). s.kind < kind);
      after = All-nil (λ (s : Stack). kind ≤ s.kind);
      within = omega arith;
      total = refl;
    }
rising_stops kind above (s ∷ ss) rising =
    let rest = rising_stops kind s.kind ss rising.1.1 in
    let absent = held_absent kind s.kind ss in
    let first = sum_by-cons (count_of kind) s ss in
    let total_there = rest.total in
    let total : held kind (s ∷ ss) ≡ sum_by (count_of kind) (s ∷ ss) = grind (arith, nat_tests) in
    cond_both
    (ltb s.kind kind)
    (suc (spot kind ss))
    0
    (λ place. StopsAt kind (s ∷ ss) place (held kind (s ∷ ss)))
    (λ is.
    let before = All-cons (λ (s : Stack). s.kind < kind) s (take (spot kind ss) ss) (ltb-true _ _ is) rest.before in
    record { before = before; after = rest.after; within = omega (arith, rest.within); total = total })
    (λ is.
    let later = none_smaller kind s.kind ss (ltb-false _ _ is) rising.1.1 in
    let after = All-cons (λ (s : Stack). kind ≤ s.kind) s ss (ltb-false _ _ is) later in
    record { before = All-nil (λ (s : Stack). s.kind < kind); after = after; within = omega arith; total = total })

-- the spot and the amount held of a kind are what find says of stacks whose kinds rise
pub stops_at :
    (kind : ℕ) (ss : List Stack) (place amount : ℕ)
    → RisingFrom 0 ss
    → place ≡ spot kind ss
    → amount ≡ held kind ss
    → StopsAt kind ss place amount
stops_at kind ss place amount rising at is = rw (at, is) (rising_stops kind 0 ss rising)
