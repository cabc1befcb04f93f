use Rattle.std.proofs.Common.{ℕ, List, refl, arith}
use Rattle.page.specs.Calls.{add_tests}
use Rattle.page.specs.Stacks.{added}
use Rattle.page.specs.Holdings.{Raised}
use Rattle.page.proofs.BagLaws.{good_add_raises}
use Rattle.page.proofs.FirstBytes.{claims_first, is_bag_first, short_page_first, stacks_first}
use Rattle.page.proofs.adding.add.Goals as goal

pub returns : goal.returns
returns c =
    let page = c.args.page.now in
    let items = c.args.items in
    claims_first
    page
    (λ (p : List ℕ). add_tests p items)
    (added items)
    (λ (left : List ℕ). Raised page left items)
    (rw (short_page_first page, is_bag_first page, stacks_first page) refl)
    (good_add_raises page items)
    c.in_ok-bytes.bytes.now
    (grind arith)
    c.put.result
    c.put.new.page
    c.put.ensures.answers
    c.put.ensures.leaves
