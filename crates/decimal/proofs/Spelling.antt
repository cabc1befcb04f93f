-- What is written in columns is read again, and columns that hold a number are its only text.
use Rattle.std.proofs.Common.{◌≡◌, ℕ, zero, suc, ◌+◌, ◌*◌, ◌/◌, ◌%◌, ◌^◌, ◌<◌, ◌≤◌, true, false, eqb, ◌⊎◌, List, [], ◌∷◌, ◌++◌, length, replicate, refl, ◌∙◌, inl, inr, append_assoc, mul_assoc, mul_comm, arith}
use native.Mathlib.Nat.{pow-succ'}
use Rattle.std.proofs.lemmas.List.{append-nil}
use Rattle.std.proofs.lemmas.List.Folds.{list_all-append}
use Rattle.std.proofs.lemmas.Bool.{cases_eq, and_parts, eqb-true, false≢true}
use Rattle.std.proofs.lemmas.Bool.Decides.{nat_tests}
use Rattle.decimal.specs.Columns.{last_column, columns, is_digit, is_space, blank, digits, numeral, digit, value_from, value}

-- a fact of every number in columns: it holds from the first digit on, and one more space on the left keeps it
numeral_induction :
    (P : List ℕ → Type 0)
    → ((bs : List ℕ) → P bs → P (32 ∷ bs))
    → ((b : ℕ) (bs : List ℕ) → 49 ≤ b → b ≤ 57 → digits bs ≡ true → P (b ∷ bs))
    → (bs : List ℕ) → numeral bs ≡ true → P bs
numeral_induction P space first [] holds = absurd (false≢true holds)
numeral_induction P space first (b ∷ bs) holds = by_space (cases_eq b 32) (λ inner. numeral_induction P space first bs inner)
  where
    by_space : (b ≡ 32) ⊎ (b ≡ 32 → ⊥) → (numeral bs ≡ true → P bs) → P (b ∷ bs)
    by_space (inl is) rest = rw is (space bs (rest (grind (arith, nat_tests))))
    by_space (inr other) rest = first b bs (grind (arith, nat_tests)) (grind (arith, nat_tests)) (grind (arith, nat_tests))

-- one more column on the right

value_from_push : (v : ℕ) (bs : List ℕ) (b : ℕ) → value_from v (bs ++ (b ∷ [])) ≡ 10 * value_from v bs + digit b
value_from_push v [] b = refl
value_from_push v (x ∷ bs) b = value_from_push (10 * v + digit x) bs b

digits_push : (bs : List ℕ) (b : ℕ) → digits bs ≡ true → is_digit b ≡ true → digits (bs ++ (b ∷ [])) ≡ true
digits_push bs b before last = rw (list_all-append is_digit bs (b ∷ []), before, last) refl

numeral_push : (bs : List ℕ) (b : ℕ) → numeral bs ≡ true → is_digit b ≡ true → numeral (bs ++ (b ∷ [])) ≡ true
numeral_push bs b before last =
    numeral_induction
    (λ bs. numeral (bs ++ (b ∷ [])) ≡ true)
    (λ bs whole. whole)
    (λ first bs least most after. let whole = digits_push bs b after last in grind (arith, nat_tests))
    bs
    before

-- the first digit right of spaces
numeral_first : (bs : List ℕ) (b : ℕ) → blank bs ≡ true → is_digit b ≡ true → eqb b 48 ≡ false → numeral (bs ++ (b ∷ [])) ≡ true
numeral_first [] b before last first = grind (arith, nat_tests)
numeral_first (x ∷ bs) b before last first =
    let parts = and_parts (eqb x 32) (blank bs) before in
    let rest : numeral (bs ++ (b ∷ [])) ≡ true = numeral_first bs b parts.1 last first in
    grind (arith, nat_tests)

-- what is written is read again

blank-columns : (w : ℕ) → blank (columns w 0) ≡ true
blank-columns zero = refl
blank-columns (suc w) = rw (list_all-append is_space (columns w 0) (32 ∷ []), blank-columns w) refl

pub numeral-columns : (w v : ℕ) → 0 < v → v < 10 ^ w → numeral (columns w v) ≡ true
numeral-columns zero v positive small = absurd (omega arith)
numeral-columns (suc w) v positive small =
    let wider = pow-succ' 10 w in
    by_rest (cases_eq (v / 10) 0) (λ more. numeral-columns w (v / 10) more (omega arith))
  where
    last_is_digit : is_digit (last_column v) ≡ true
    last_is_digit = grind (arith, nat_tests)

    by_rest :
        (v / 10 ≡ 0) ⊎ (v / 10 ≡ 0 → ⊥) → (0 < v / 10 → numeral (columns w (v / 10)) ≡ true) → numeral (columns (suc w) v) ≡ true
    by_rest (inl done) rest =
        let spaces : blank (columns w (v / 10)) ≡ true = rw done (blank-columns w) in
        let not_zero : eqb (last_column v) 48 ≡ false = grind (arith, nat_tests) in
        numeral_first (columns w (v / 10)) (last_column v) spaces last_is_digit not_zero
    by_rest (inr more) rest = numeral_push (columns w (v / 10)) (last_column v) (rest (omega arith)) last_is_digit

pub value-columns : (w v : ℕ) → v < 10 ^ w → value (columns w v) ≡ v
value-columns zero v small = omega arith
value-columns (suc w) v small =
    let wider = pow-succ' 10 w in
    let rest : value (columns w (v / 10)) ≡ v / 10 = value-columns w (v / 10) (omega arith) in
    let last : digit (last_column v) ≡ v % 10 = grind (arith, nat_tests) in
    value_from_push 0 (columns w (v / 10)) (last_column v) ∙ omega arith

-- columns that hold a number are its only text

-- the columns right of the text of v, one column further
kept_more :
    (w v b : ℕ) (bs : List ℕ)
    → (10 * v + digit b) / 10 ≡ v
    → last_column (10 * v + digit b) ≡ b
    → columns (suc w + length bs) (value_from (10 * v + digit b) bs) ≡ columns (suc w) (10 * v + digit b) ++ bs
    → columns (w + length (b ∷ bs)) (value_from v (b ∷ bs)) ≡ columns w v ++ (b ∷ bs)
kept_more w v b bs front last rest =
    let count : w + suc (length bs) ≡ suc w + length bs = omega arith in
    rw (count, rest, front, last) (append_assoc (columns w v) (b ∷ []) bs)

kept_end : (w v : ℕ) → columns (w + 0) v ≡ columns w v ++ []
kept_end w v = let count : w + 0 ≡ w = omega arith in rw (count, append-nil (columns w v))

digits_kept :
    (w v : ℕ) (bs : List ℕ) → 0 < v → digits bs ≡ true → columns (w + length bs) (value_from v bs) ≡ columns w v ++ bs
digits_kept w v [] positive all = kept_end w v
digits_kept w v (b ∷ bs) positive all =
    let rest = and_parts (is_digit b) (digits bs) all in
    kept_more
    w
    v
    b
    bs
    (grind (arith, nat_tests))
    (grind (arith, nat_tests))
    (digits_kept (suc w) (10 * v + digit b) bs (omega arith) rest.1)

numeral_kept : (w : ℕ) (bs : List ℕ) → numeral bs ≡ true → columns (w + length bs) (value bs) ≡ columns w 0 ++ bs
numeral_kept w bs holds =
    numeral_induction
    (λ bs. (w : ℕ) → columns (w + length bs) (value bs) ≡ columns w 0 ++ bs)
    (λ bs kept w. kept_more w 0 32 bs refl refl (kept (suc w)))
    (λ b bs least most after w. kept_more w 0 b bs (omega arith) (grind (arith, nat_tests)) (digits_kept (suc w) (10 * 0 + digit b) bs (omega arith) after))
    bs
    holds
    w

pub columns-value : (bs : List ℕ) → numeral bs ≡ true → columns (length bs) (value bs) ≡ bs
columns-value bs holds = let all = numeral_kept 0 bs holds in let count : 0 + length bs ≡ length bs = omega arith in rw count at all

-- how large a number columns can hold

value_from_at_least : (v : ℕ) (bs : List ℕ) → v ≤ value_from v bs
value_from_at_least v [] = omega arith
value_from_at_least v (b ∷ bs) = let rest = value_from_at_least (10 * v + digit b) bs in omega arith

digits_below : (limit v : ℕ) (bs : List ℕ) → v < limit → digits bs ≡ true → value_from v bs < limit * 10 ^ length bs
digits_below limit v [] below all = omega arith
digits_below limit v (b ∷ bs) below all =
    let rest = and_parts (is_digit b) (digits bs) all in
    let small : 10 * v + digit b < 10 * limit = grind (arith, nat_tests) in
    let inner = digits_below (10 * limit) (10 * v + digit b) bs small rest.1 in
    let same : 10 * limit * 10 ^ length bs ≡ limit * 10 ^ suc (length bs) =
    rw (pow-succ' 10 (length bs), mul_comm 10 limit) (mul_assoc limit 10 (10 ^ length bs)) in
    omega arith

pub value_above : (bs : List ℕ) → numeral bs ≡ true → 0 < value bs
value_above =
    numeral_induction
    (λ bs. 0 < value bs)
    (λ bs above. above)
    (λ b bs least most after. omega (arith, value_from_at_least (10 * 0 + digit b) bs))

pub value_below : (bs : List ℕ) → numeral bs ≡ true → value bs < 10 ^ length bs
value_below =
    numeral_induction
    (λ bs. value bs < 10 ^ length bs)
    (λ bs below. omega (arith, below, pow-succ' 10 (length bs)))
    (λ b bs least most after. omega (arith, digits_below 10 (10 * 0 + digit b) bs (omega arith) after, pow-succ' 10 (length bs)))

pub blank_is_spaces : (bs : List ℕ) → blank bs ≡ true → bs ≡ replicate (length bs) 32
blank_is_spaces [] holds = refl
blank_is_spaces (b ∷ bs) holds =
    let parts = and_parts (eqb b 32) (blank bs) holds in
    let space : b ≡ 32 = eqb-true b 32 parts.0 in
    let rest : bs ≡ replicate (length bs) 32 = blank_is_spaces bs parts.1 in
    cc
