-- What edits make of stacks, by the kind of the stack at the front.
use Rattle.std.proofs.Common.{◌≡◌, ℕ, suc, ◌+◌, ◌-◌, ◌<◌, false, eqb, ltb, List, ◌∷◌, arith}
use Rattle.std.proofs.lemmas.Bool.{cond_both, eqb-true, eqb-false, ltb-true}
use Rattle.std.proofs.lemmas.Bool.Decides.{nat_tests}
use Rattle.page.specs.declared.contents.Stack.{Stack}
use Rattle.page.specs.Stacks.{added, removed, spot}

-- the same stack with another amount
abbrev pub amounting : Stack → ℕ → Stack
amounting s amount = record { kind = s.kind; amount = amount }

module _ (items s : Stack) (ss : List Stack) (P : List Stack → Type 0) where
  -- a fact of what an adding leaves, by where the kind belongs
  pub added_cases :
      (s.kind < items.kind → P (s ∷ added items ss))
      → (s.kind ≡ items.kind → P (amounting s (s.amount + items.amount) ∷ ss))
      → (items.kind < s.kind → P (items ∷ s ∷ ss))
      → P (added items (s ∷ ss))
  added_cases past here before =
      let rest = λ (not_smaller : ltb s.kind items.kind ≡ false).
      cond_both (eqb s.kind items.kind) _ _ P (λ is. here (eqb-true _ _ is)) (λ is. before (grind (arith, nat_tests))) in
      cond_both (ltb s.kind items.kind) _ _ P (λ is. past (ltb-true _ _ is)) rest

  -- a fact of what a removal leaves, by whether the kind is there and all of it goes
  pub removed_cases :
      ((s.kind ≡ items.kind → ⊥) → P (s ∷ removed items ss))
      → (s.kind ≡ items.kind → s.amount ≡ items.amount → P ss)
      → (s.kind ≡ items.kind → (s.amount ≡ items.amount → ⊥) → P (amounting s (s.amount - items.amount) ∷ ss))
      → P (removed items (s ∷ ss))
  removed_cases past whole part =
      let there = λ (same : s.kind ≡ items.kind).
      cond_both (eqb s.amount items.amount) _ _ P (λ is. whole same (eqb-true _ _ is)) (λ is. part same (eqb-false _ _ is)) in
      cond_both (eqb s.kind items.kind) _ _ P (λ is. there (eqb-true _ _ is)) (λ is. past (eqb-false _ _ is))

-- a search goes past a stack of a smaller kind
pub spot_past : (kind : ℕ) (s : Stack) (ss : List Stack) → s.kind < kind → spot kind (s ∷ ss) ≡ suc (spot kind ss)
spot_past kind s ss smaller = grind (arith, nat_tests)
