-- A place: eight columns of a page's text, three for a kind and five for an amount.
use Rattle.std.specs.Prelude.{ℕ, cond, ◌&&◌, List, ◌++◌, length, take, drop, replicate, ◌==◌}
use Rattle.decimal.specs.Columns.{columns, blank, numeral, value}
use Rattle.page.specs.declared.contents.Stack.{Stack}
use Rattle.page.specs.declared.contents.Place.{Place}
use Rattle.page.specs.declared.contents.Place.TheVariants.{Empty, Filled, Malformed}

-- the text of a stack
abbrev pub text : Stack → List ℕ
text stack = columns 3 stack.kind ++ columns 5 stack.amount

-- the text of an empty place: eight spaces (32)
abbrev pub empty_text : List ℕ
empty_text = replicate 8 32

-- what eight columns hold
abbrev pub contents : List ℕ → Place
contents bytes =
    cond
    (blank bytes)
    Empty
    (cond
    (numeral (take 3 bytes) && numeral (drop 3 bytes))
    (Filled (record { kind = value (take 3 bytes); amount = value (drop 3 bytes) }))
    Malformed)

-- what a text holds as a place: nothing well-formed unless it has eight columns
abbrev pub place_in : List ℕ → Place
place_in bytes = cond (length bytes == 8) (contents bytes) Malformed
