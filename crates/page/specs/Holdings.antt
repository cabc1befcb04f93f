-- What a page holds of each kind of item, and what a good call finds or makes of that.
use Rattle.std.specs.Prelude.{◌≡◌, ℕ, ◌+◌, ◌<◌, ◌≤◌, true, cond, List, length, take, drop, sum_by, ◌==◌}
use Rattle.std.specs.List.{All}
use Rattle.page.specs.declared.contents.Stack.{Stack}
use Rattle.page.specs.Stacks.{held}
use Rattle.page.specs.Pages.{is_bag, stacks}

-- how many items of a kind a page holds: none where it is no bag
abbrev pub held_in : ℕ → List ℕ → ℕ
held_in kind page = cond (is_bag page) (held kind (stacks page)) 0

-- how many of some items are of a kind: all of them or none
abbrev pub count_of : ℕ → Stack → ℕ
count_of kind items = cond (kind == items.kind) items.amount 0

-- what find says of a kind in a bag's stacks
pub record StopsAt (kind : ℕ) (ss : List Stack) (place amount : ℕ) : Type 0 where
  -- every stack before the place has a smaller kind, and none from the place on has
  pub before : All (λ s. s.kind < kind) (take place ss)
  pub after : All (λ s. kind ≤ s.kind) (drop place ss)
  pub within : place ≤ length ss
  -- the amount is what the stacks of that kind have together
  pub total : amount ≡ sum_by (count_of kind) ss

-- a page that a good call left: it is a bag, and the bytes after it are kept
pub record BagAgain (before after : List ℕ) : Type 0 where
  pub bag : is_bag after ≡ true
  pub kept : drop 257 after ≡ drop 257 before

-- add: so many more of that kind, and of every other kind as many as before
pub record Raised (before after : List ℕ) (items : Stack) : Type 0 where
  pub again : BagAgain before after
  pub holds : (kind : ℕ) → held_in kind after ≡ held_in kind before + count_of kind items

-- remove: so many fewer of that kind, and of every other kind as many as before
pub record Lowered (before after : List ℕ) (items : Stack) : Type 0 where
  pub again : BagAgain before after
  pub holds : (kind : ℕ) → held_in kind after + count_of kind items ≡ held_in kind before

-- craft: so many fewer of one kind and so many more of another, and of every third kind as many as before
pub record Exchanged (before after : List ℕ) (out into : Stack) : Type 0 where
  pub again : BagAgain before after
  pub holds : (kind : ℕ) → held_in kind after + count_of kind out ≡ held_in kind before + count_of kind into

-- blank: nothing of any kind
pub record Emptied (before after : List ℕ) : Type 0 where
  pub again : BagAgain before after
  pub holds : (kind : ℕ) → held_in kind after ≡ 0
