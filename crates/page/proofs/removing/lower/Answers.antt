use Rattle.std.proofs.Common.{◌≡◌, ◌-◌, ◌∙◌, arith}
use Rattle.std.proofs.lemmas.Bool.Decides.{nat_tests}
use Rattle.page.specs.Pages.{stacks}
use Rattle.page.specs.Stacks.{held}
use Rattle.page.proofs.BagEdits.{closed_page, lowered_page}
use Rattle.page.proofs.removing.lower.Goals as goal

pub returns-in-Some-clause-leaves : goal.returns-in-Some-clause-leaves
returns-in-Some-clause-leaves c =
    let page = c.args.page.now in
    let items = c.args.items in
    let total = held items.kind (stacks page) in
    let part : total ≡ items.amount → ⊥ = λ all. grind (arith, nat_tests) in
    let amount : c.in-Some.amount ≡ total - items.amount = grind (arith, nat_tests) in
    c.write_stack.ensures
    ∙ rw amount (lowered_page page c.requires.bag items (grind (arith, nat_tests)) c.find-place.result.0 (grind arith) part)

pub returns-in-None-clause-leaves : goal.returns-in-None-clause-leaves
returns-in-None-clause-leaves c =
    let page = c.args.page.now in
    c.remove_stack.ensures
    ∙ closed_page page c.requires.bag c.args.items (grind (arith, nat_tests)) c.find-place.result.0 (grind arith) (grind (arith, nat_tests))
