use Rattle.std.proofs.Common.{◌<◌, arith, rules}
use Rattle.page.proofs.Searching.{searched_none, searched_more, stopped_at, stopped_at_end}
use Rattle.page.proofs.bag.Bag.find.Goals as goal

pub loop-place-init : goal.loop-place-init
loop-place-init c = search (rules, searched_none)

pub loop-place-preserved : goal.loop-place-preserved
loop-place-preserved c = search (rules, searched_more)

pub returns-then-place-eq-PLACES : goal.returns-then-place-eq-PLACES
returns-then-place-eq-PLACES c = search (rules, stopped_at_end)

pub returns-in-Some : goal.returns-in-Some
returns-in-Some c =
    let within : c.loop-place.place < 32 = omega arith in
    stopped_at c.args.self.page.now c.args.self.is_bag c.args.kind c.loop-place.place c.loop-place.invariant c.in-Some.amount within (cc c.in-Some.ensures)
