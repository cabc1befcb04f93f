use Rattle.std.proofs.Common.{◌≡◌, ◌≤◌, length, take, ◌∙◌, ap₂, arith}
use Rattle.std.specs.Array.{IsFirstChunk}
use Rattle.std.specs.Str.{bytes_eq}
use Rattle.std.proofs.lemmas.Result.{err_from_is_err_and}
use Rattle.std.proofs.lemmas.Bool.Decides.{nat_tests}
use Rattle.page_laws.proofs.compare.Goals as goal

pub returns-in_err-other_text : goal.returns-in_err-other_text
returns-in_err-other_text c =
    let exit = c.from_residual-in_err-other_text in
    let refused = err_from_is_err_and exit.result exit.ensures.1 in
    let long : 257 ≤ length c.args.one.now = grind arith in
    grind (arith, nat_tests)

pub returns-then-other_bag : goal.returns-then-other_bag
returns-then-other_bag c =
    let one : IsFirstChunk c.args.one.now c.in_ok-one_text.one_text.now 257 = grind arith in
    let other : IsFirstChunk c.args.other.now c.in_ok-other_text.other_text.now 257 = grind arith in
    let same : c.have_one_text.result ≡ bytes_eq (take 257 c.args.one.now) (take 257 c.args.other.now) =
    c.have_one_text.ensures ∙ ap₂ bytes_eq one.same other.same in
    let long = one.enough in
    let other_long = other.enough in
    grind (arith, nat_tests)
