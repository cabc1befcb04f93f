-- Tests that stand in the order of their numbers answer with the first number that fits.
use Rattle.std.proofs.Common.{◌≡◌, ℕ, ◌≤◌, true, false, leb, List, [], ◌∷◌, refl, inl, inr, ⊎_elim, arith}
use Rattle.std.proofs.lemmas.Bool.{and_parts, false≢true}
use Rattle.std.proofs.lemmas.Bool.Decides.{nat_tests}
use Rattle.refusal.specs.Answers.{Test, answer}
use Rattle.refusal.specs.Order.{Fits, FirstThatFits, in_number_order}

-- a number that fits is no smaller than where the numbers begin
fits_from : (least : ℕ) (tests : List Test) (m : ℕ) → in_number_order least tests ≡ true → Fits tests m → least ≤ m
fits_from least [] m ordered none = absurd none
fits_from least (test ∷ tests) m ordered (inl here) = grind (arith, nat_tests)
fits_from least (test ∷ tests) m ordered (inr later) =
    let parts = and_parts (leb least test.1) (in_number_order test.1 tests) ordered in
    let after = fits_from test.1 tests m parts.1 later in
    grind (arith, nat_tests)

pub first_that_fits :
    {T : Type 0} (least : ℕ) (tests : List Test) (value : T)
    → in_number_order least tests ≡ true
    → FirstThatFits T tests (answer tests value)
first_that_fits least [] value ordered = record { refused = λ n is. cc; good = λ v is m none. none }
first_that_fits least ((true, first) ∷ tests) value ordered =
    let parts = and_parts (leb least first) (in_number_order first tests) ordered in
    record {
      refused = λ n is.
          let same : first ≡ n = cc in (
            inl (refl, same),
            λ m other. ⊎_elim (λ this. omega (arith, this.1)) (λ later. omega (arith, fits_from first tests m parts.1 later)) other,
          );
      good = λ v is m other. cc;
    }
first_that_fits least ((false, number) ∷ tests) value ordered =
    let parts = and_parts (leb least number) (in_number_order number tests) ordered in
    let after = first_that_fits number tests value parts.1 in
    record {
      refused = λ n is.
          let rest = after.refused n is in
          (inr rest.0, λ m other. ⊎_elim (λ this. absurd (false≢true this.0)) (λ later. rest.1 m later) other);
      good = λ v is m other. ⊎_elim (λ this. false≢true this.0) (λ later. after.good v is m later) other;
    }
