use Rattle.std.proofs.Common.{◌∙◌, rules, arith}
use Rattle.decimal.proofs.Steps.{written_more}
use Rattle.decimal.proofs.columns.Goals as goal

pub loop-column-preserved : goal.loop-column-preserved
loop-column-preserved g c =
    let before = c.loop-column in
    let more = c.loop-column-test.true in
    record {
      wide = search rules;
      whole = rw c.last_column.ensures (before.invariant.whole ∙ written_more g.row.WIDTH before.rest before.column-index before.column-items more (omega (arith, before.invariant.wide, more)));
    }
