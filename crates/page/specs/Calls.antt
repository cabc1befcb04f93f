-- What each call of the page answers, and what it leaves: the tests stand in the order of their numbers.
use Rattle.std.specs.Prelude.{ℕ, ◌+◌, Bool, not, ◌&&◌, ◌||◌, List, [], ◌∷◌, ◌++◌, length, Result, ◌==◌, nat_le, nat_lt}
use Rattle.refusal.specs.declared.cases.Refusal.{Refusal}
use Rattle.refusal.specs.declared.cases.Refusal.TheVariants.{
  ShortPage,
  NoSuchKind,
  NoSuchAmount,
  NamedTwice,
  NotABag,
  NotEnough,
  NoRoom,
}
use Rattle.refusal.specs.Numbers.{number}
use Rattle.refusal.specs.Answers.{Test, answer}
use Rattle.page.specs.declared.contents.Stack.{Stack}
use Rattle.page.specs.Stacks.{held, spot, added, removed, crafted}
use Rattle.page.specs.Pages.{is_bag, stacks, rewritten}

-- a page has fewer than 257 bytes
abbrev pub short_page : List ℕ → Test
short_page page = (nat_lt (length page) 257, number ShortPage)

-- a number is outside 1 to the largest
abbrev pub outside : ℕ → ℕ → Refusal → Test
outside n largest refusal = (not (nat_le 1 n && nat_le n largest), number refusal)

-- a kind is outside 1 to 999
abbrev pub no_such_kind : ℕ → Test
no_such_kind kind = outside kind 999 NoSuchKind

-- an amount is outside 1 to 99,999
abbrev pub no_such_amount : ℕ → Test
no_such_amount amount = outside amount 99999 NoSuchAmount

-- a craft names one kind twice
abbrev pub same_kind : Stack → Stack → Test
same_kind out into = ((out.kind == into.kind), number NamedTwice)

-- a page is not a bag
abbrev pub not_bag : List ℕ → Test
not_bag page = (not (is_bag page), number NotABag)

-- an amount is larger than what is held
abbrev pub held_too_few : ℕ → ℕ → Test
held_too_few amount less = (nat_lt amount less, number NotEnough)

-- more is to be removed than is held
abbrev pub not_enough : Stack → List Stack → Test
not_enough items ss = held_too_few (held items.kind ss) items.amount

-- a stack would pass 99,999 items
abbrev pub stack_too_large : ℕ → ℕ → Test
stack_too_large amount more = (nat_lt 99999 (amount + more), number NoRoom)

-- the stack would pass 99,999, or a new kind meets 32 stacks
abbrev pub no_room : Stack → List Stack → Test
no_room items ss = (
  nat_lt 99999 (held items.kind ss + items.amount) || (held items.kind ss == 0 && nat_le 32 (length ss)),
  number NoRoom,
)

-- read: what keeps a page from being read
abbrev pub read_tests : List ℕ → List Test
read_tests page = short_page page ∷ []

-- read answers whether the page is a bag
abbrev pub read_answer : List ℕ → Result Bool ℕ
read_answer page = answer (read_tests page) (is_bag page)

-- find: what keeps a kind from being looked for
abbrev pub find_tests : List ℕ → ℕ → List Test
find_tests page kind = short_page page ∷ no_such_kind kind ∷ not_bag page ∷ []

-- find answers the place where the search for a kind stops, and how many items of it there are
abbrev pub find_answer : List ℕ → ℕ → Result (ℕ × ℕ) ℕ
find_answer page kind = answer (find_tests page kind) (spot kind (stacks page), held kind (stacks page))

-- blank: what keeps a page from being made the blank page
abbrev pub blank_tests : List ℕ → List Test
blank_tests page = short_page page ∷ []

-- the page that blank leaves: a bag with no stacks
abbrev pub blank_page : List ℕ → List ℕ
blank_page page = rewritten page []

-- what keeps some items from being an edit of a page
abbrev pub edit_tests : List ℕ → Stack → List Test
edit_tests page items =
    short_page page ∷ no_such_kind items.kind ∷ no_such_amount items.amount ∷ not_bag page ∷ []

-- add: what keeps items from being added
abbrev pub add_tests : List ℕ → Stack → List Test
add_tests page items = edit_tests page items ++ (no_room items (stacks page) ∷ [])

-- the page that add leaves
abbrev pub added_page : List ℕ → Stack → List ℕ
added_page page items = rewritten page (added items (stacks page))

-- remove: what keeps items from being removed
abbrev pub remove_tests : List ℕ → Stack → List Test
remove_tests page items = edit_tests page items ++ (not_enough items (stacks page) ∷ [])

-- the page that remove leaves
abbrev pub removed_page : List ℕ → Stack → List ℕ
removed_page page items = rewritten page (removed items (stacks page))

-- what keeps two stacks from being a recipe: what is removed, and what is added
abbrev pub recipe_tests : Stack → Stack → List Test
recipe_tests out into =
    no_such_kind out.kind
    ∷ no_such_kind into.kind
    ∷ no_such_amount out.amount
    ∷ no_such_amount into.amount
    ∷ same_kind out into
    ∷ []

-- what keeps a recipe from being crafted in a bag: the room is that after the removal
abbrev pub bag_craft_tests : List ℕ → Stack → Stack → List Test
bag_craft_tests page out into = not_enough out (stacks page) ∷ no_room into (removed out (stacks page)) ∷ []

-- craft: what keeps items of one kind from being made into items of another
abbrev pub craft_tests : List ℕ → Stack → Stack → List Test
craft_tests page out into =
    short_page page ∷ (recipe_tests out into ++ (not_bag page ∷ bag_craft_tests page out into))

-- the page that craft leaves
abbrev pub crafted_page : List ℕ → Stack → Stack → List ℕ
crafted_page page out into = rewritten page (crafted out into (stacks page))
