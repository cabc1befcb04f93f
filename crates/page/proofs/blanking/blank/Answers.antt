use Rattle.std.proofs.Common.{sym, refl, subst}
use Rattle.page.specs.Holdings.{Emptied}
use Rattle.page.proofs.BagLaws.{blank_empties}
use Rattle.page.proofs.TextEdits.{render_empty}
use Rattle.page.proofs.blanking.blank.Goals as goal

pub returns-clause-leaves : goal.returns-clause-leaves
returns-clause-leaves c = rw (c.clear.ensures, render_empty) refl

pub returns-clause-holds : goal.returns-clause-holds
returns-clause-holds c =
    let page = c.args.page.now in
    subst (Emptied page) (sym (returns-clause-leaves c)) (blank_empties page)
