use Rattle.std.proofs.Common.{rules, ◌∙◌}
use Rattle.std.proofs.lemmas.Iterator.{YieldsList-from_slice}
use Rattle.std.proofs.lemmas.Iterator.Consumers.{fold_from_yields_List}
use Rattle.decimal.proofs.Steps.{capped_push, fold-capped_push}
use Rattle.decimal.proofs.value.Goals as goal

pub returns : goal.returns
returns c =
    fold_from_yields_List _ capped_push 0 c.fold.result c.fold.ensures.ran (YieldsList-from_slice c.args.columns.now cc) (λ a x b q called. search rules)
    ∙ fold-capped_push 0 c.args.columns.now
