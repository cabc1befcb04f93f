-- How a call answers: by the first of its tests that fits, or else by its value.
use Rattle.std.specs.Prelude.{ℕ, Bool, cond, List, [], ◌∷◌, Ok, Err, Result}
use Rattle.refusal.specs.declared.cases.Refusal.{Refusal}
use Rattle.refusal.specs.Numbers.{number}

-- one reason to refuse a call: whether it fits, and the number of its refusal
abbrev pub Test : Type 0
Test = Bool × ℕ

-- refused with the number of the first test that fits, else the value
abbrev pub answer : {T : Type 0} → List Test → T → Result T ℕ
answer [] value = Ok value
answer (test ∷ tests) value = cond test.0 (Err test.1) (answer tests value)

-- what a call returned, its refusal by its number
abbrev pub by_number : {T : Type 0} → Result T Refusal → Result T ℕ
by_number (Ok value) = Ok value
by_number (Err refusal) = Err (number refusal)

-- what a call leaves: the first where it was good, the second where it was refused
abbrev pub on_ok : {T E U : Type 0} → Result T E → U → U → U
on_ok (Ok value) good refused = good
on_ok (Err refusal) good refused = refused
