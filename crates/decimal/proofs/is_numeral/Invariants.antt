use Rattle.std.proofs.Common.{◌≡◌, length}
use Rattle.decimal.specs.Columns.{numeral}
use Rattle.decimal.proofs.is_numeral.Given as goal

-- spaces on the left change nothing
abbrev pub invariant-loop-number : goal.invariant-loop-number
invariant-loop-number l = numeral l.number ≡ numeral l.columns

abbrev pub decreases-loop-number : goal.decreases-loop-number
decreases-loop-number l = length l.number
