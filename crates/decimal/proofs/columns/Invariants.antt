use Rattle.std.proofs.Common.{◌≡◌, ◌-◌, ◌++◌, length, take, reverse}
use Rattle.decimal.specs.Columns.{columns}
use Rattle.decimal.proofs.columns.Given as goal

-- the columns written so far, from the right, stand right of those still to come
abbrev pub invariant-loop-column : goal.invariant-loop-column
invariant-loop-column g l =
    record {
      wide : length l.column-items ≡ g.row.WIDTH;
      whole : columns g.row.WIDTH l.fn.value ≡ columns (g.row.WIDTH - l.column-index) l.rest ++ reverse (take l.column-index l.column-items);
    }
