-- The small decisions of the calls: by a place, by an amount, by a trial.
use Rattle.std.specs.Prelude.{ℕ, ◌-◌, Bool, true, false, cond, List, Some, None, Option, ◌==◌, nat_lt}
use Rattle.page.specs.declared.contents.Place.{Place}
use Rattle.page.specs.declared.contents.Place.TheVariants.{Empty, Filled, Malformed}

-- whether a place may come after one whose stack has that kind, or after an empty one: a stack only with a larger kind
abbrev pub may_follow : Option ℕ → Place → Bool
may_follow above Empty = true
may_follow None (Filled s) = false
may_follow (Some kind) (Filled s) = nat_lt kind s.kind
may_follow above Malformed = false

-- the kind of the stack at a place, if there is one
abbrev pub kind_at : Place → Option ℕ
kind_at Empty = None
kind_at (Filled s) = Some s.kind
kind_at Malformed = None

-- the amount with which the search for a kind stops at a place; none where it goes on, past a smaller kind
abbrev pub stops_with : ℕ → Place → Option ℕ
stops_with kind Empty = Some 0
stops_with kind (Filled s) = cond (nat_lt s.kind kind) None (Some (cond (s.kind == kind) s.amount 0))
stops_with kind Malformed = Some 0

-- what is left of a stack that is lowered, if anything
abbrev pub left_of : ℕ → ℕ → Option ℕ
left_of amount less = cond (amount == less) None (Some (amount - less))

-- the page that a trial leaves: the one that it saved, or where nothing is saved any more, the page as it is
abbrev pub put_back : Option (List ℕ) → List ℕ → List ℕ
put_back (Some saved) page = saved
put_back None page = page
