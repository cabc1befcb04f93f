-- A page as lines of text.
use Rattle.std.specs.Prelude.{ℕ, List, [], ◌∷◌, ◌++◌, Ok, Err, Result}
use Rattle.std.specs.List.{flat_map}
use Rattle.refusal.specs.Answers.{answer}
use Rattle.refusal.specs.Numbers.{refused_line}
use Rattle.page.specs.declared.contents.Stack.{Stack}
use Rattle.page.specs.Places.{text}
use Rattle.page.specs.Pages.{stacks}
use Rattle.page.specs.Calls.{not_bag, short_page}

-- the line of a stack: its eight columns and a line feed (10)
abbrev pub line : Stack → List ℕ
line stack = text stack ++ (10 ∷ [])

-- the lines of stacks, one after another
abbrev pub lines : List Stack → List ℕ
lines ss = flat_map line ss

-- lines, or the line of the refusal that came in their place
abbrev pub lines_or : Result (List ℕ) ℕ → List ℕ
lines_or (Ok written) = written
lines_or (Err n) = refused_line n

-- what is printed of some bytes: a line for each stack of the bag, or the refusal of bytes that are none
abbrev pub dumped : List ℕ → List ℕ
dumped bytes = lines_or (answer (short_page bytes ∷ not_bag bytes ∷ []) (lines (stacks bytes)))
