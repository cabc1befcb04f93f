use Rattle.std.proofs.Common.{arith}
use Rattle.std.proofs.lemmas.Bool.Decides.{nat_tests}
use Rattle.page.proofs.FirstBytes.{is_bag_first}
use Rattle.page.proofs.bag.read.Goals as goal

pub returns : goal.returns
returns c = grind (arith, nat_tests, is_bag_first)
