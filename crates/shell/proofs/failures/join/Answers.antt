use native.Mathlib.Omega.{arith}
use Rattle.shell.proofs.Joining.{joins}
use Rattle.shell.proofs.failures.join.Goals as goal

pub returns : goal.returns
returns c =
    let a = c.args in
    let colon = c.end_of-colon in
    let one = c.put_bytes in
    let from = c.end_of-from in
    let two = c.put_bytes-2 in
    let three = c.put_bytes-3 in
    joins a.first.now a.second.now a.out.now colon.result from.result c.end_of.result
    colon.ensures (omega (arith, from.ensures, one.auto.out)) (omega (arith, c.end_of.ensures, one.auto.out, two.auto.out, three.auto.out))
    one.ensures two.ensures three.ensures
