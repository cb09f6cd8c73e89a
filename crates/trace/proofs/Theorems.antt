-- The statements of specs/Theorems.antt. Assumes nothing.
use Rattle.std.proofs.Common.{ℕ, List, ◌++◌, sym, ap, ◌∙◌}
use Rattle.format.specs.Forms.{Shape, shape_of}
use Rattle.trace.specs.Layout.{records_bytes, header, filled, checked, arrivals_block, records_block}
use Rattle.trace.specs.Theorems.{RecordsByBytes, OneCheck}
use Rattle.trace.proofs.Records.{many_records}
use Rattle.trace.proofs.Checks.{right_checked}
pub use Rattle.trace.proofs.Accepted.{label_is_written, arrivals_are_written}
pub use Rattle.trace.proofs.ReadBack.{label_reads_back, arrivals_read_back}
pub use Rattle.trace.proofs.Rewritten.{spaced_reads}

pub records_by_bytes : RecordsByBytes
unfolding arrivals_block records_block
records_by_bytes form records ssrc =
    let shape : Shape = shape_of form in
    let s : List ℕ = records_bytes shape records in
    ap (λ (n : ℕ). checked (header shape.arrivals n ssrc ++ filled s)) (many_records shape records)

pub one_check : OneCheck
one_check b c ob oc lb lc rb rc e = right_checked b ob lb rb ∙ ap checked e ∙ sym (right_checked c oc lc rc)
