use Rattle.std.proofs.Common.{◌≡◌, ℕ, ◌+◌, length, ap, ◌∙◌, arith, length-set}
use Rattle.format.specs.Forms.{shape_of}
use Rattle.trace.proofs.Layouts.{record_stored}
use Rattle.trace.proofs.write.put_record.Goals.{After-slice_known-3-1}
use Rattle.trace.proofs.write.put_record.Goals as goal

long : (c : After-slice_known-3-1) → length c.write16.new.out ≡ length c.args.out.now
long c = c.write16.auto.out ∙ c.write_time.auto.out

pub bounds-out-behind-2 : goal.bounds-out-behind-2
bounds-out-behind-2 c = simp length-set (omega (arith, long (goal.at.bounds-out-behind-2 c).After-slice_known-3-1))

pub shape_of-out : goal.shape_of-out
shape_of-out c = simp length-set (long (goal.at.shape_of-out c).After-slice_known-3-1)

pub returns : goal.returns
returns c =
    let a = c.args in
    let time = c.write_time.ensures in
    record_stored (shape_of a.form) a.out.now a.at _ a.r (ap (λ (k : ℕ). a.at + k) c.time_bytes.ensures) time c.write16.ensures
