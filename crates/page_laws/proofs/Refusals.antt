use Rattle.std.proofs.Common.{refl}
use Rattle.refusal.proofs.First.{first_that_fits}
use Rattle.page.specs.Pages.{is_bag, stacks}
use Rattle.page.specs.Stacks.{held, spot}
use Rattle.page.specs.Calls.{add_tests, blank_tests, craft_tests, find_tests, read_tests, remove_tests}
use Rattle.page_laws.specs.Refusals.{RefusedFirst}

pub refused_first : RefusedFirst
refused_first =
    record {
      read = λ page. first_that_fits 1 (read_tests page) (is_bag page) refl;
      find = λ page kind. first_that_fits 1 (find_tests page kind) (spot kind (stacks page), held kind (stacks page)) refl;
      blank = λ page. first_that_fits 1 (blank_tests page) tt refl;
      add = λ page items. first_that_fits 1 (add_tests page items) tt refl;
      remove = λ page items. first_that_fits 1 (remove_tests page items) tt refl;
      craft = λ page out into. first_that_fits 1 (craft_tests page out into) tt refl;
    }
