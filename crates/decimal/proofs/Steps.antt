-- One column more: written from the right, read into a number of at most the largest u32, and told from those after it.
use Rattle.std.proofs.Common.{◌≡◌, ℕ, suc, ◌+◌, ◌-◌, ◌*◌, ◌/◌, ◌^◌, ◌<◌, Bool, true, false, cond, not, ◌&&◌, eqb, min, List, [], ◌∷◌, ◌++◌, length, get_or, take, drop, reverse, set, fold, refl, append_assoc, arith}
use Rattle.std.proofs.lemmas.List.{at_drop_more, reverse-append, take_more_set}
use Rattle.decimal.specs.Columns.{last_column, columns, is_digit, blank, digits, numeral, digit, value_from}

-- a number in columns, of which so many are written, the right one first
pub written_more :
    (width value count : ℕ) (written : List ℕ)
    → count < width
    → count < length written
    → columns (width - count) value ++ reverse (take count written) ≡ columns (width - (count + 1)) (value / 10) ++ reverse (take (count + 1) (set written count (last_column value)))
written_more width value count written more within =
    let one : width - count ≡ suc (width - (count + 1)) = omega arith in
    rw
    (one, take_more_set written count (last_column value) within, reverse-append (take count written) (last_column value ∷ []))
    (append_assoc (columns (width - (count + 1)) (value / 10)) (last_column value ∷ []) (reverse (take count written)))

-- one more column of a number that is at most the largest u32
abbrev pub capped_push : ℕ → ℕ → ℕ
capped_push v b = min (min (v * 10) (2 ^ 32 - 1) + digit b) (2 ^ 32 - 1)

capped_more : (v b : ℕ) → capped_push (min v (2 ^ 32 - 1)) b ≡ min (10 * v + digit b) (2 ^ 32 - 1)
capped_more v b = omega arith

pub fold-capped_push : (v : ℕ) (bs : List ℕ) → fold capped_push (min v (2 ^ 32 - 1)) bs ≡ min (value_from v bs) (2 ^ 32 - 1)
fold-capped_push v [] = refl
fold-capped_push v (b ∷ bs) = rw (capped_more v b) (fold-capped_push (10 * v + digit b) bs)

-- the columns from one place on are spaces if that column is one, and those after it are
pub blank_more : (xs : List ℕ) (i : ℕ) → i < length xs → blank (drop i xs) ≡ (eqb (get_or xs i 0) 32 && blank (drop (i + 1) xs))
blank_more xs i within = at_drop_more blank xs i 0 within

-- what is still owed of the columns to come: digits only once the number has begun, else a numeral
abbrev pub owed : Bool → List ℕ → Bool
owed true xs = digits xs
owed false xs = numeral xs

-- the same of a column and those after it: what the column has to be, and what those after it owe then
abbrev pub owed_cons : Bool → ℕ → List ℕ → Bool
owed_cons true b xs = is_digit b && digits xs
owed_cons false b xs = cond (eqb b 32) (numeral xs) (is_digit b && (not (eqb b 48) && digits xs))

-- what the columns from one place on owe, by that column and those after it
pub owed_more : (begun : Bool) (xs : List ℕ) (i : ℕ) → i < length xs → owed begun (drop i xs) ≡ owed_cons begun (get_or xs i 0) (drop (i + 1) xs)
owed_more true xs i within = at_drop_more digits xs i 0 within
owed_more false xs i within = at_drop_more numeral xs i 0 within
