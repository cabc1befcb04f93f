-- The text of a bag: what is written is read again, and stacks have no second text.
use Rattle.std.specs.Prelude.{◌≡◌, ℕ, true, List, ◌++◌, take}
use Rattle.page.specs.declared.contents.Stack.{Stack}
use Rattle.page.specs.Pages.{is_bag, stacks, render}
use Rattle.page.specs.Stacks.{Lawful}

pub record Texts : Type 0 where
  -- lawful stacks that are written to a page are read from it again, stack for stack, whatever bytes come after
  pub read_again :
      (ss : List Stack) (later : List ℕ)
      → Lawful ss
      → (is_bag (render ss ++ later) ≡ true) × (stacks (render ss ++ later) ≡ ss)
  -- a page that reads as a bag has lawful stacks, and its first 257 bytes are exactly their text
  pub only_text : (page : List ℕ) → is_bag page ≡ true → Lawful (stacks page) × (take 257 page ≡ render (stacks page))
