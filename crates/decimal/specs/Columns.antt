-- A whole number as decimal text, right-justified in columns of one byte each.
use Rattle.std.specs.Prelude.{ℕ, zero, suc, ◌+◌, ◌-◌, ◌*◌, ◌/◌, ◌%◌, Bool, false, cond, not, ◌&&◌, List, [], ◌∷◌, ◌++◌, ◌==◌, nat_le}
use Rattle.std.specs.List.{list_all}

-- the column furthest right of a number: its last digit, or a space (32) where nothing is left to write
abbrev pub last_column : ℕ → ℕ
last_column v = cond (v == 0) 32 (48 + v % 10)

-- a number right-justified in that many columns, spaces on its left
abbrev pub columns : ℕ → ℕ → List ℕ
columns zero v = []
columns (suc width) v = columns width (v / 10) ++ (last_column v ∷ [])

-- a byte that is one of the digits 0 to 9
abbrev pub is_digit : ℕ → Bool
is_digit b = nat_le 48 b && nat_le b 57

-- a byte that is a space
abbrev pub is_space : ℕ → Bool
is_space b = b == 32

-- spaces only
abbrev pub blank : List ℕ → Bool
blank bs = list_all is_space bs

-- digits only
abbrev pub digits : List ℕ → Bool
digits bs = list_all is_digit bs

-- a number right-justified in its columns: spaces, then a digit other than 0 (48), then digits only
abbrev pub numeral : List ℕ → Bool
numeral [] = false
numeral (b ∷ bs) = cond (is_space b) (numeral bs) (is_digit b && (not (b == 48) && digits bs))

-- what a column adds to a number: its digit, and nothing for a space
abbrev pub digit : ℕ → ℕ
digit b = b - 48

-- the number that columns spell, where those on their left spell v
abbrev pub value_from : ℕ → List ℕ → ℕ
value_from v [] = v
value_from v (b ∷ bs) = value_from (10 * v + digit b) bs

-- the number that columns spell
abbrev pub value : List ℕ → ℕ
value bs = value_from 0 bs
