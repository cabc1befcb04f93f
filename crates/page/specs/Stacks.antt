-- A bag as a list of stacks, and what adding and removing make of it.
use Rattle.std.specs.Prelude.{ℕ, suc, ◌+◌, ◌-◌, ◌<◌, ◌≤◌, cond, List, [], ◌∷◌, length, ◌==◌, nat_lt}
use Rattle.page.specs.declared.contents.Stack.{Stack}

-- items that a place can hold: of a kind from 1 to 999, and 1 to 99,999 of them
abbrev pub InRange : Stack → Type 0
InRange items = ((1 ≤ items.kind) × (items.kind ≤ 999)) × ((1 ≤ items.amount) × (items.amount ≤ 99999))

-- stacks that places can hold, with kinds that rise strictly from above a kind
abbrev pub RisingFrom : ℕ → List Stack → Type 0
RisingFrom above [] = Unit {0}
RisingFrom above (s ∷ ss) = (above < s.kind) × (InRange s × RisingFrom s.kind ss)

-- the stacks that a bag can hold: at most 32 of them
abbrev pub Lawful : List Stack → Type 0
Lawful stacks = (length stacks ≤ 32) × RisingFrom 0 stacks

-- how many items of a kind there are: 0 where the kind is absent
abbrev pub held : ℕ → List Stack → ℕ
held kind [] = 0
held kind (s ∷ ss) = cond (s.kind == kind) s.amount (held kind ss)

-- where the search for a kind stops: at the first stack whose kind is not smaller, else at the count of stacks
abbrev pub spot : ℕ → List Stack → ℕ
spot kind [] = 0
spot kind (s ∷ ss) = cond (nat_lt s.kind kind) (suc (spot kind ss)) 0

-- the stacks with some items more: their stack is raised, or a new one is put in its order
abbrev pub added : Stack → List Stack → List Stack
added items [] = items ∷ []
added items (s ∷ ss) =
    cond
    (nat_lt s.kind items.kind)
    (s ∷ added items ss)
    (cond
    (s.kind == items.kind)
    (record { kind = s.kind; amount = s.amount + items.amount } ∷ ss)
    (items ∷ s ∷ ss))

-- the stacks with some items less: their stack is lowered, or goes where nothing is left
abbrev pub removed : Stack → List Stack → List Stack
removed items [] = []
removed items (s ∷ ss) =
    cond
    (s.kind == items.kind)
    (cond (s.amount == items.amount) ss (record { kind = s.kind; amount = s.amount - items.amount } ∷ ss))
    (s ∷ removed items ss)

-- the stacks after a craft: one kind's items removed, then another's added
abbrev pub crafted : Stack → Stack → List Stack → List Stack
crafted out into stacks = added into (removed out stacks)
