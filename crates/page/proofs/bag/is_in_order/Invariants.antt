use Rattle.std.proofs.Common.{◌≡◌}
use Rattle.std.specs.Slice.Iter.{chunks_exact_rest, chunks_exact_size}
use Rattle.page.proofs.Places.{Unread}
use Rattle.page.proofs.bag.is_in_order.Given as goal

abbrev pub invariant-loop-columns : goal.invariant-loop-columns
invariant-loop-columns l =
    (chunks_exact_size l.columns-iterator ≡ 8) × Unread l.page (chunks_exact_rest l.columns-iterator) l.above
