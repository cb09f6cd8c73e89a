use mathlib.Core.Path.{sym}
use native.Mathlib.Omega.{arith}
use lib.Seq.{length-take-le}
use Rattle.shell.proofs.failures.tell.Goals as goal

pub slice_bounds-fail-end : goal.slice_bounds-fail-end
slice_bounds-fail-end c =
    let joined = c.join-n in
    sym (length-take-le joined.result joined.new.out (omega (arith, joined.ensures.size, joined.auto.out)))
