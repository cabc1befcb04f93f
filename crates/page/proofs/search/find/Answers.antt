use Rattle.std.proofs.Common.{◌≡◌, ◌≤◌, true, length, arith}
use Rattle.std.proofs.lemmas.Bool.Decides.{nat_tests}
use Rattle.page.specs.Pages.{is_bag, stacks}
use Rattle.page.proofs.FirstBytes.{is_bag_first, stacks_first}
use Rattle.page.proofs.Spots.{stops_at}
use Rattle.page.proofs.Texts.{lawful_stacks}
use Rattle.page.proofs.search.find.Goals as goal

pub returns-in_err-check_kind-clause-answers : goal.returns-in_err-check_kind-clause-answers
returns-in_err-check_kind-clause-answers c =
    let long : 257 ≤ length c.args.page.now = grind arith in
    grind (arith, nat_tests)

pub returns-in_err-bag-clause-answers : goal.returns-in_err-bag-clause-answers
returns-in_err-bag-clause-answers c = grind (arith, nat_tests, is_bag_first)

pub returns-clause-answers : goal.returns-clause-answers
returns-clause-answers c = grind (arith, nat_tests, is_bag_first, stacks_first)

pub returns-clause-stops : goal.returns-clause-stops
returns-clause-stops c =
    let page = c.args.page.now in
    let bag : is_bag page ≡ true = grind (arith, nat_tests, is_bag_first) in
    let rising = (lawful_stacks page bag).1 in
    stops_at
    c.args.kind
    (stacks page)
    c.find.result.0
    c.find.result.1
    rising
    (grind (arith, stacks_first))
    (grind (arith, stacks_first))
