use Rattle.std.proofs.Common.{◌≡◌, ℕ, ◌-◌, length, take, sym, ap, ◌∙◌, arith, length-take-le}
use lib.Seq.{sets}
use Rattle.numbers.specs.BigEndian.{bytes}
use Rattle.trace.proofs.parts.put_check.Goals as goal

pub slice_bounds-ones_sum-end-2 : goal.slice_bounds-ones_sum-end-2
slice_bounds-ones_sum-end-2 c = sym (length-take-le 510 c.args.out.now (omega arith))

pub ones_sum-sum-requires : goal.ones_sum-sum-requires
ones_sum-sum-requires c =
    let whole : length (take 510 c.args.out.now) ≡ 510 = length-take-le 510 c.args.out.now (omega arith) in
    (rw whole, omega arith)

pub returns : goal.returns
returns c =
    let out = c.args.out.now in
    c.write16.ensures ∙ ap (λ (n : ℕ). sets out 510 (bytes 2 (65535 - n))) c.ones_sum-sum.ensures
