use Rattle.std.proofs.Common.{◌≡◌, ◌++◌, vec_items}
use Rattle.std.specs.Slice.Iter.{chunks_exact_rest, chunks_exact_size}
use Rattle.page.specs.Pages.{stacks}
use Rattle.listing.specs.Lines.{lines}
use Rattle.listing.proofs.Places.{Unwritten}
use Rattle.listing.proofs.write_stacks.Given as goal

abbrev pub invariant-loop-columns : goal.invariant-loop-columns
invariant-loop-columns l =
    (chunks_exact_size l.columns-iterator ≡ 8)
    × Unwritten (vec_items l.initial.lines ++ lines (stacks l.page)) (vec_items l.lines) (chunks_exact_rest l.columns-iterator)
