-- What it is to be refused with the first number that fits, and only then.
use Rattle.std.specs.Prelude.{◌≡◌, ℕ, ◌≤◌, Bool, true, ◌&&◌, ◌⊎◌, List, [], ◌∷◌, Ok, Err, Result, nat_le}
use Rattle.refusal.specs.Answers.{Test}

-- some test of that number fits
abbrev pub Fits : List Test → ℕ → Type 0
Fits [] n = ⊥
Fits (test ∷ tests) n = ((test.0 ≡ true) × (test.1 ≡ n)) ⊎ Fits tests n

-- the numbers of the tests never fall, from one number on
abbrev pub in_number_order : ℕ → List Test → Bool
in_number_order least [] = true
in_number_order least (test ∷ tests) = nat_le least test.1 && in_number_order test.1 tests

-- refused with a number that fits where no smaller one does, and good only where none fits
pub record FirstThatFits (T : Type 0) (tests : List Test) (answered : Result T ℕ) : Type 0 where
  pub refused : (n : ℕ) → answered ≡ Err n → Fits tests n × ((m : ℕ) → Fits tests m → n ≤ m)
  pub good : (value : T) → answered ≡ Ok value → (m : ℕ) → Fits tests m → ⊥
