use Rattle.std.proofs.Common.{◌≡◌, true, rules, arith}
use Rattle.std.proofs.lemmas.Bool.Decides.{nat_tests}
use Rattle.std.proofs.lemmas.Result.{err_from_is_err_and}
use Rattle.page.specs.Calls.{crafted_page}
use Rattle.page.specs.Pages.{is_bag}
use Rattle.page.proofs.Crafts.{again, craft_in_bag, crafted_after_removal, removal_good}
use Rattle.page.proofs.crafting.exchange.Goals as goal

pub raise-requires-clause-bag : goal.raise-requires-clause-bag
raise-requires-clause-bag c =
    let page = c.args.page.now in
    let bag : is_bag page ≡ true = grind (arith, nat_tests) in
    let recipe = c.in_ok-check_recipe.ensures in
    let same = c.begin-trial.ensures.lends in
    let removed = rw same at c.in_ok-lower.ensures.answers in
    rw
    (c.in_ok-lower.ensures.leaves, same)
    (again page c.args.out c.args.into recipe (removal_good page c.args.out c.args.into recipe bag removed))

pub returns-in_err-raise-clause-answers : goal.returns-in_err-raise-clause-answers
returns-in_err-raise-clause-answers c =
    let page = c.args.page.now in
    let bag : is_bag page ≡ true = grind (arith, nat_tests) in
    let exit = c.from_residual-in_err-raise in
    let refused = err_from_is_err_and exit.result exit.ensures.1 in
    let same = c.begin-trial.ensures.lends in
    let removed = rw same at c.in_ok-lower.ensures.answers in
    let answered = rw (c.in_ok-lower.ensures.leaves, same) at c.in_err-raise.ensures.answers in
    rw
    (refused.1, refused.2)
    (craft_in_bag page c.args.out c.args.into c.in_ok-check_recipe.ensures bag removed _ answered)

pub returns : goal.returns
returns c =
    let page = c.args.page.now in
    let out = c.args.out in
    let into = c.args.into in
    let bag : is_bag page ≡ true = grind (arith, nat_tests) in
    let recipe = c.in_ok-check_recipe.ensures in
    let same = c.begin-trial.ensures.lends in
    let removed = rw same at c.in_ok-lower.ensures.answers in
    let answered = rw (c.in_ok-lower.ensures.leaves, same) at c.in_ok-raise.ensures.answers in
    let left = rw (c.in_ok-lower.ensures.leaves, same) at c.in_ok-raise.ensures.leaves in
    let kept : c.drop-trial-2.new.self.0 ≡ crafted_page page out into =
    rw
    (c.drop-trial-2.ensures, c.keep.ensures.kept, c.keep.ensures.lends)
    (crafted_after_removal page out into recipe (removal_good page out into recipe bag removed) _ left) in
    record {
      answers = craft_in_bag page out into recipe bag removed _ answered;
      leaves = search (rules, kept);
    }
