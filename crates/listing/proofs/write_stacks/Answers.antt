use Rattle.std.proofs.Common.{ℕ, List, ◌++◌, vec_items, sym, ◌∙◌, subst, arith, rules}
use Rattle.page.specs.Pages.{stacks}
use Rattle.listing.specs.Lines.{lines}
use Rattle.listing.proofs.Places.{Unwritten, unwritten_none, unwritten_more, unwritten_unfilled, unwritten_all}
use Rattle.listing.proofs.write_stacks.Goals as goal

pub loop-columns-init : goal.loop-columns-init
loop-columns-init c =
    let page = c.args.page.now in
    let before = vec_items c.args.lines.now in
    let chunks = c.chunks_exact-columns-items.ensures in
    rw
    c.into_iter-columns-iterator.ensures.into_iter_gives (
      chunks.size,
      subst (λ (rest : List ℕ). Unwritten (before ++ lines (stacks page)) before rest) (sym chunks.rest) (unwritten_none page before c.requires),
    )

pub loop-columns-preserved : goal.loop-columns-preserved
loop-columns-preserved c = search (rules, unwritten_more)

pub returns-in_default : goal.returns-in_default
returns-in_default c =
    let steps = c.in-Some.ensures.steps.1 in
    unwritten_unfilled
    _
    _
    _
    c.in-Some.columns.now
    _
    steps.0
    (steps.1 ∙ c.loop-columns.invariant.0)
    c.loop-columns.invariant.1
    c.read_place.result
    c.read_place.ensures
    c.in_default.not-Filled

pub returns-in-None : goal.returns-in-None
returns-in-None c =
    unwritten_all _ _ _ (omega (arith, c.in-None.ensures.steps.1, c.loop-columns.invariant.0)) c.loop-columns.invariant.1
