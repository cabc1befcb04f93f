use Rattle.std.proofs.Common.{◌∙◌, rules, arith}
use Rattle.page.proofs.Places.{unread_none, unread_more, unread_spoilt, unread_all}
use Rattle.page.proofs.bag.is_in_order.Goals as goal

pub loop-columns-init : goal.loop-columns-init
loop-columns-init c =
    let chunks = c.chunks_exact-columns-items.ensures in
    rw
    c.into_iter-columns-iterator.ensures.into_iter_gives
    (chunks.size, rw chunks.rest (unread_none c.args.page.now (omega (arith, c.told-page))))

pub returns-then-not-may_follow : goal.returns-then-not-may_follow
returns-then-not-may_follow c =
    let chunk = c.in-Some.ensures.steps.1 in
    let may_not = c.if-not-may_follow.true in
    unread_spoilt c.args.page.now _ c.in-Some.columns.now _ c.loop-columns.above chunk.0 (chunk.1 ∙ c.loop-columns.invariant.0) (search (rules, may_not)) c.loop-columns.invariant.1

pub loop-columns-preserved : goal.loop-columns-preserved
loop-columns-preserved c = search (rules, unread_more)

pub returns : goal.returns
returns c =
    let short = c.in-None.ensures.steps.1 in
    unread_all c.args.page.now _ c.loop-columns.above (omega (arith, short, c.loop-columns.invariant.0)) c.loop-columns.invariant.1
