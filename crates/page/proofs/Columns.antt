-- The eight columns of a place, one by one.
use Rattle.std.proofs.Common.{◌≡◌, ℕ, true, false, ◌&&◌, List, [], ◌∷◌, length, get_or, refl, ap}
use Rattle.std.proofs.lemmas.List.FromFn.{fill_by_all}
use Rattle.decimal.specs.Columns.{blank, numeral, value}
use Rattle.page.specs.Places.{place_in, contents}
use Rattle.page.specs.declared.contents.Place.TheVariants.{Empty, Filled, Malformed}

abbrev pub kind_columns : List ℕ → List ℕ
kind_columns xs = get_or xs 0 0 ∷ get_or xs 1 0 ∷ get_or xs 2 0 ∷ []

abbrev pub amount_columns : List ℕ → List ℕ
amount_columns xs = get_or xs 3 0 ∷ get_or xs 4 0 ∷ get_or xs 5 0 ∷ get_or xs 6 0 ∷ get_or xs 7 0 ∷ []

abbrev pub eight_columns : List ℕ → List ℕ
eight_columns xs = get_or xs 0 0 ∷ get_or xs 1 0 ∷ get_or xs 2 0 ∷ amount_columns xs

eight : (xs : List ℕ) → length xs ≡ 8 → xs ≡ eight_columns xs
eight xs count = fill_by_all (λ k. get_or xs k 0) xs 8 0 count (λ k within. refl)

place_in_eight : (xs : List ℕ) → length xs ≡ 8 → place_in xs ≡ contents (eight_columns xs)
place_in_eight xs count = rw count (ap contents (eight xs count))

pub reads_empty : (xs : List ℕ) → length xs ≡ 8 → blank (eight_columns xs) ≡ true → Empty ≡ place_in xs
reads_empty xs count spaces = rw (place_in_eight xs count, spaces) refl

-- two numbers are a stack
pub reads_filled :
    (xs : List ℕ)
    → length xs ≡ 8
    → blank (eight_columns xs) ≡ false
    → numeral (kind_columns xs) ≡ true
    → numeral (amount_columns xs) ≡ true
    → Filled (record { kind = value (kind_columns xs); amount = value (amount_columns xs) }) ≡ place_in xs
reads_filled xs count filled kind amount = rw (place_in_eight xs count, filled, kind, amount) refl

-- neither spaces nor two numbers are no place
pub reads_malformed :
    (xs : List ℕ)
    → length xs ≡ 8
    → blank (eight_columns xs) ≡ false
    → (numeral (kind_columns xs) && numeral (amount_columns xs)) ≡ false
    → Malformed ≡ place_in xs
reads_malformed xs count filled other = rw (place_in_eight xs count, filled, other) refl
