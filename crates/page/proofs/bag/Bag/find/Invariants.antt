use Rattle.std.proofs.Common.{◌-◌}
use Rattle.page.proofs.Searching.{Searched}
use Rattle.page.proofs.bag.Bag.find.Given as goal

abbrev pub invariant-loop-place : goal.invariant-loop-place
invariant-loop-place l = Searched l.self.page.now l.kind l.place

abbrev pub decreases-loop-place : goal.decreases-loop-place
decreases-loop-place l = 32 - l.place
