-- Copying a sector of one sheet to a sector of another.
use Rattle.std.specs.Prelude.{ℕ, Bool, cond, ◌&&◌, List, [], length, nat_lt, slice_index_or, slice_set}

-- whether there are both sectors
abbrev pub can_copy : List (List ℕ) → ℕ → List (List ℕ) → ℕ → Bool
can_copy source from target to = nat_lt from (length source) && nat_lt to (length target)

-- the sectors of the target after a copy: one holds what the source's sector holds
abbrev pub copied : List (List ℕ) → ℕ → List (List ℕ) → ℕ → List (List ℕ)
copied source from target to = cond (can_copy source from target to) (slice_set target to (slice_index_or source from [])) target
