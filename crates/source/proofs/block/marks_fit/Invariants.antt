use Rattle.std.proofs.Common.{◌≡◌}
use Rattle.std.specs.Slice.Iter.{chunks_exact_rest, chunks_exact_size}
use Rattle.source.proofs.Packets.{MarksLeft}
use Rattle.source.proofs.block.marks_fit.Given as goal

abbrev pub invariant-loop-record : goal.invariant-loop-record
invariant-loop-record l =
    (goal.iterator-loop-record).can_next l.record-iterator ×
    (goal.iterator-loop-record).is_finite l.record-iterator ×
    (chunks_exact_size l.record-iterator ≡ l.width) ×
    MarksLeft l.width l.records (chunks_exact_rest l.record-iterator)
