-- What a refused call leaves, how a call answers whose tests are made in parts, and what a call claims.
use Rattle.std.proofs.Common.{◌≡◌, ℕ, true, false, List, [], ◌∷◌, ◌++◌, Ok, Err, Result, sym, refl, ap, ◌∙◌}
use Rattle.std.specs.Result.{OnOk}
use Rattle.refusal.specs.declared.cases.Refusal.{Refusal}
use Rattle.refusal.specs.Numbers.{number}
use Rattle.refusal.specs.Answers.{Test, answer, by_number, on_ok}

-- what a refused call leaves is what was there
pub stays :
    {T E U : Type 0} (r : Result T E) (e : E) (left good before : U) → r ≡ Err e → left ≡ before → left ≡ on_ok r good before
stays (Ok value) e left good before refused same = cc
stays (Err refusal) e left good before refused same = same

-- of a refused call nothing is claimed
pub unclaimed : {T E : Type 0} (r : Result T E) (e : E) (fact : Type 0) → r ≡ Err e → OnOk r fact
unclaimed (Ok value) e fact refused = cc
unclaimed (Err refusal) e fact refused = tt

-- a refusal by the first tests is one by all of them
pub refused_early :
    {T : Type 0} (first later : List Test) (value : T) (n : ℕ)
    → Err n ≡ answer first (tt {0})
    → Err n ≡ answer (first ++ later) value
refused_early [] later value n refused = cc
refused_early ((true, m) ∷ first) later value n refused = cc
refused_early ((false, m) ∷ first) later value n refused = refused_early first later value n refused

-- where the first tests pass, the later ones answer
pub passed_early :
    {T : Type 0} (first later : List Test) (value : T)
    → Ok (tt {0}) ≡ answer first (tt {0})
    → answer (first ++ later) value ≡ answer later value
passed_early [] later value passed = refl
passed_early ((true, m) ∷ first) later value passed = cc
passed_early ((false, m) ∷ first) later value passed = passed_early first later value passed

-- what a call claims: its answer, what it leaves, and what holds where it was good
abbrev pub Claims : {T U : Type 0} → Result T Refusal → Result T ℕ → U → U → U → Type 0 → Type 0
Claims result answered left good before fact =
    record {
      answers : by_number result ≡ answered;
      leaves : left ≡ on_ok result good before;
      holds : OnOk result fact;
    }

-- the exit of a call whose part refused: the call returns `out`, the part refused with `refusal`
pub refused_exit :
    {T U : Type 0} (result : Result T Refusal) (out refusal : Refusal) (first later : List Test) (value : T)
    → (left good before : U) (fact : Type 0)
    → result ≡ Err out
    → out ≡ refusal
    → Err (number refusal) ≡ answer first (tt {0})
    → left ≡ before
    → Claims result (answer (first ++ later) value) left good before fact
refused_exit {T} result out refusal first later value left good before fact is same refused unchanged =
    record {
      answers =
          ap by_number (is ∙ ap {B = Result T Refusal} Err same) ∙ refused_early first later value (number refusal) refused;
      leaves = stays result out left good before is unchanged;
      holds = unclaimed result out fact is;
    }

-- the exit of a call whose first tests passed, and whose last part makes the claims
pub passed_exit :
    {T U : Type 0} (result : Result T Refusal) (first later : List Test) (value : T)
    → (left good before : U) (fact : Type 0)
    → Ok (tt {0}) ≡ answer first (tt {0})
    → Claims result (answer later value) left good before fact
    → Claims result (answer (first ++ later) value) left good before fact
passed_exit result first later value left good before fact passed claims =
    record {
      answers = claims.answers ∙ sym (passed_early first later value passed);
      leaves = claims.leaves;
      holds = claims.holds;
    }
