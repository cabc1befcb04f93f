use Rattle.std.proofs.Common.{◌≡◌, length, take, drop, refl, arith}
use Rattle.std.proofs.lemmas.List.{drop-drop, length-drop, length-take-le}
use Rattle.page.proofs.layout.empty_last.Goals as goal

pub returns : goal.returns
returns c =
    let page = c.args.page.now in
    let width : length (take 8 (drop 249 page)) ≡ 8 = length-take-le 8 (drop 249 page) (omega (arith, length-drop 249 page, c.told-page)) in
    rw (c.fill.ensures.after (λ y same. same), width, drop-drop 8 249 page) refl
