use Rattle.std.proofs.Common.{◌≡◌, ◌+◌, ◌∙◌, arith}
use Rattle.std.proofs.lemmas.Bool.Decides.{nat_tests}
use Rattle.page.specs.Pages.{stacks}
use Rattle.page.specs.Stacks.{held}
use Rattle.page.proofs.BagEdits.{inserted_page, raised_page}
use Rattle.page.proofs.adding.raise.Goals as goal

pub returns-else-is_full-clause-leaves : goal.returns-else-is_full-clause-leaves
returns-else-is_full-clause-leaves c =
    let page = c.args.page.now in
    c.insert_stack.ensures
    ∙ inserted_page page c.requires.bag c.args.items c.find-place.result.0 (grind arith) (grind arith) (grind (arith, nat_tests))

pub returns-in_ok-amount-clause-leaves : goal.returns-in_ok-amount-clause-leaves
returns-in_ok-amount-clause-leaves c =
    let page = c.args.page.now in
    let items = c.args.items in
    let amount : c.in_ok-amount.amount ≡ held items.kind (stacks page) + items.amount = grind (arith, nat_tests) in
    c.write_stack.ensures ∙ rw amount (raised_page page c.requires.bag items (grind arith) c.find-place.result.0 (grind arith))
