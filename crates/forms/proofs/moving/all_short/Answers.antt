use mathlib.Core.Path.{◌≡◌, ◌∙◌}
use Prim.Native.Nat.{◌+◌, ◌-◌, ◌*◌}
use native.Mathlib.Omega.{arith}
use lib.ListN.{drop}
use Rattle.numbers.proofs.BigEndian.{Octets}
use Rattle.forms.proofs.Moved.{times_turn, times_done}
use Rattle.forms.proofs.moving.all_short.Goals as goal

pub loop-i-preserved : goal.loop-i-preserved
loop-i-preserved c =
    let loop = c.loop-i in
    let a = c.args in
    let body = a.body.now in
    let octets : Octets body = λ i. omega (arith, c.type_inv.body i) in
    let less : a.n - (loop.i + 1) ≡ a.n - loop.i - 1 = omega arith in (
      omega arith,
      omega (arith, c.join16.type_inv),
      rw less (times_turn (a.n - loop.i) (10 * loop.i) loop.sum c.join16.result body (omega (arith, c.loop-i-test.true)) (omega arith) octets c.join16.ensures ∙ loop.invariant.2),
    )

pub returns : goal.returns
returns c =
    let a = c.args in
    let loop = c.loop-i in
    times_done (a.n - loop.i) loop.sum a.n (drop (10 * loop.i) a.body.now) a.body.now (omega (arith, c.loop-i-test.false)) loop.invariant.2
