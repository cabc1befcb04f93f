-- A page: a tag (201), then 32 places of eight columns each; later bytes belong to no rule.
use Rattle.std.specs.Prelude.{ℕ, zero, suc, ◌+◌, ◌*◌, Bool, true, false, ◌&&◌, List, [], ◌∷◌, ◌++◌, map, length, take, drop, ◌==◌, nat_le, nat_lt, slice_index}
use Rattle.std.specs.List.{range_with_len}
use Rattle.page.specs.declared.contents.Stack.{Stack}
use Rattle.page.specs.declared.contents.Place.{Place}
use Rattle.page.specs.declared.contents.Place.TheVariants.{Empty, Filled, Malformed}
use Rattle.page.specs.Places.{text, empty_text, place_in}

-- what place i of a page holds: its eight columns start at 1 + 8 × i
abbrev pub place_at : List ℕ → ℕ → Place
place_at page i = place_in (take 8 (drop (1 + 8 * i) page))

-- the 32 places of a page
unfoldable pub places : List ℕ → List Place
places page = map (place_at page) (range_with_len 0 32)

-- empty places only
abbrev pub all_empty : List Place → Bool
all_empty [] = true
all_empty (Empty ∷ ps) = all_empty ps
all_empty (Filled s ∷ ps) = false
all_empty (Malformed ∷ ps) = false

-- filled places first, with kinds that rise strictly from above a kind; after an empty place only empty ones
abbrev pub in_order : ℕ → List Place → Bool
in_order above [] = true
in_order above (Empty ∷ ps) = all_empty ps
in_order above (Filled s ∷ ps) = nat_lt above s.kind && in_order s.kind ps
in_order above (Malformed ∷ ps) = false

-- whether a page is a bag; only its first 257 bytes decide
unfoldable pub is_bag : List ℕ → Bool
is_bag page = nat_le 257 (length page) && (slice_index page 0 == 201 && in_order 0 (places page))

-- the stacks of the filled places that come first
abbrev pub stacks_in : List Place → List Stack
stacks_in [] = []
stacks_in (Empty ∷ ps) = []
stacks_in (Filled s ∷ ps) = s ∷ stacks_in ps
stacks_in (Malformed ∷ ps) = []

-- the stacks of a page
unfoldable pub stacks : List ℕ → List Stack
stacks page = stacks_in (places page)

-- the text of so many places: that of each stack, then empty places
unfoldable pub text_of : ℕ → List Stack → List ℕ
text_of zero ss = []
text_of (suc n) [] = empty_text ++ text_of n []
text_of (suc n) (s ∷ ss) = text s ++ text_of n ss

-- the 257 bytes of a page that hold some stacks
unfoldable pub render : List Stack → List ℕ
render ss = 201 ∷ text_of 32 ss

-- a page with other stacks in place of its own, its later bytes kept
abbrev pub rewritten : List ℕ → List Stack → List ℕ
rewritten page ss = render ss ++ drop 257 page
