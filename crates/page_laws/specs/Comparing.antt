-- Comparing two bags by their bytes.
use Rattle.std.specs.Prelude.{ℕ, Bool, List, [], ◌∷◌, take, Result}
use Rattle.std.specs.Str.{bytes_eq}
use Rattle.refusal.specs.Answers.{Test, answer}
use Rattle.page.specs.Calls.{not_bag, short_page}

-- what keeps two pages from being compared: both are tested at each number
abbrev pub comparing_tests : List ℕ → List ℕ → List Test
comparing_tests one other = short_page one ∷ short_page other ∷ not_bag one ∷ not_bag other ∷ []

-- whether the texts of two bags are the same
abbrev pub same_text : List ℕ → List ℕ → Result Bool ℕ
same_text one other = answer (comparing_tests one other) (bytes_eq (take 257 one) (take 257 other))
