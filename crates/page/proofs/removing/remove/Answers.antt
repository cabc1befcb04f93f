use Rattle.std.proofs.Common.{ℕ, List, refl, arith}
use Rattle.page.specs.Calls.{remove_tests}
use Rattle.page.specs.Stacks.{removed}
use Rattle.page.specs.Holdings.{Lowered}
use Rattle.page.proofs.BagLaws.{good_remove_lowers}
use Rattle.page.proofs.FirstBytes.{claims_first, is_bag_first, short_page_first, stacks_first}
use Rattle.page.proofs.removing.remove.Goals as goal

pub returns : goal.returns
returns c =
    let page = c.args.page.now in
    let items = c.args.items in
    claims_first
    page
    (λ (p : List ℕ). remove_tests p items)
    (removed items)
    (λ (left : List ℕ). Lowered page left items)
    (rw (short_page_first page, is_bag_first page, stacks_first page) refl)
    (good_remove_lowers page items)
    c.in_ok-bytes.bytes.now
    (grind arith)
    c.take.result
    c.take.new.page
    c.take.ensures.answers
    c.take.ensures.leaves
