use Rattle.std.proofs.Common.{ℕ, List, refl, arith}
use Rattle.page.specs.Calls.{craft_tests}
use Rattle.page.specs.Stacks.{crafted}
use Rattle.page.specs.Holdings.{Exchanged}
use Rattle.page.proofs.BagLaws.{good_craft_exchanges}
use Rattle.page.proofs.FirstBytes.{claims_first, is_bag_first, short_page_first, stacks_first}
use Rattle.page.proofs.crafting.craft.Goals as goal

pub returns : goal.returns
returns c =
    let page = c.args.page.now in
    let out = c.args.out in
    let into = c.args.into in
    claims_first
    page
    (λ (p : List ℕ). craft_tests p out into)
    (crafted out into)
    (λ (left : List ℕ). Exchanged page left out into)
    (rw (short_page_first page, is_bag_first page, stacks_first page) refl)
    (good_craft_exchanges page out into)
    c.in_ok-bytes.bytes.now
    (grind arith)
    c.exchange.result
    c.exchange.new.page
    c.exchange.ensures.answers
    c.exchange.ensures.leaves
