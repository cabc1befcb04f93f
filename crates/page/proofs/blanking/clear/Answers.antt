use Rattle.std.proofs.Common.{◌≡◌, ℕ, List, [], ◌∷◌, ◌++◌, length, take, drop, set, replicate, refl, arith}
use Rattle.std.proofs.lemmas.List.{drop_all, length-drop, length-set, length-take-le}
use Rattle.page.proofs.blanking.clear.Goals as goal

-- the tag over the first byte of a page, and spaces over all others
tag_and_spaces :
    (page : List ℕ)
    → length page ≡ 257
    → take 1 (set page 0 201) ++ (replicate 256 32 ++ drop 256 (drop 1 (set page 0 201))) ≡ 201 ∷ replicate 256 32
tag_and_spaces [] long = absurd (omega arith)
tag_and_spaces (x ∷ xs) long = rw (drop_all 256 xs (omega arith)) refl

pub returns : goal.returns
returns c =
    let page = c.args.page.now in
    let tagged = set page 0 201 in
    let width : length (take 256 (drop 1 tagged)) ≡ 256 =
    length-take-le 256 (drop 1 tagged) (omega (arith, length-drop 1 tagged, length-set page 0 201, c.told-page)) in
    rw (c.fill.ensures.after (λ y same. same), c.write_tag.ensures, width) (tag_and_spaces page c.told-page)
