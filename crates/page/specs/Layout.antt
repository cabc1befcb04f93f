-- The bytes of a page after its places were rewritten or moved.
use Rattle.std.specs.Prelude.{ℕ, ◌+◌, ◌-◌, ◌*◌, List, ◌++◌, length, take, drop}
use Rattle.page.specs.declared.contents.Stack.{Stack}
use Rattle.page.specs.Places.{text, empty_text}

-- a page with some bytes written over its own, from one position on
abbrev pub overwritten : List ℕ → ℕ → List ℕ → List ℕ
overwritten page start bytes = take start page ++ (bytes ++ drop (start + length bytes) page)

-- so many places copied over others
abbrev pub copied : List ℕ → ℕ → ℕ → ℕ → List ℕ
copied page from to count = overwritten page (1 + 8 * to) (take (8 * count) (drop (1 + 8 * from) page))

-- the places from one on moved to the right, and a stack written between
abbrev pub with_inserted : List ℕ → ℕ → Stack → List ℕ
with_inserted page place stack = overwritten (copied page place (place + 1) (31 - place)) (1 + 8 * place) (text stack)

-- the places after one moved to the left, over it, and the last one (at 249) emptied
abbrev pub with_closed : List ℕ → ℕ → List ℕ
with_closed page place = overwritten (copied page (place + 1) place (31 - place)) 249 empty_text
