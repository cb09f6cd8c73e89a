use mathlib.Core.Path.{◌≡◌}
use Prim.Native.Nat.{◌+◌, min}
use native.Mathlib.Omega.{arith}
use lib.ListN.{length}
use Rattle.shell.proofs.printing.Output.with_kept.Goals as goal

pub returns : goal.returns
returns c =
    let a = c.args in
    let used : c.least-used.result + c.least.result ≡ min (a.self.used + a.bytes) (length a.buffer.now) = omega arith in
    rw used
