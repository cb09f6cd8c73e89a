use Rattle.std.proofs.Common.{◌≡◌, ℕ, ◌+◌, get_or, ap, ◌∙◌, arith}
use Rattle.format.specs.Forms.{shape_of}
use Rattle.numbers.specs.BigEndian.{word}
use Rattle.trace.specs.Layout.{record_at}
use Rattle.trace.proofs.read.record_in.Goals as goal

pub returns : goal.returns
unfolding record_at
returns c =
    let a = c.args in
    let time = c.time_bytes in
    let mark : a.at + time.result + 2 ≡ a.at + ((shape_of a.form).time + 2) = omega (arith, time.ensures) in
    λ i. record {
      time = c.read_time-time.ensures i;
      number = record { 0 = (c.read16.ensures ∙ ap (λ (k : ℕ). word 2 a.body.now (a.at + k)) time.ensures) i };
      mark = ap (λ (k : ℕ). get_or a.body.now k 0) mark i;
    }
