use mathlib.Core.Path.{ap, ◌∙◌}
use Prim.Native.Nat.{min}
use native.Mathlib.Omega.{arith}
use lib.Seq.{sets}
use Rattle.shell.proofs.Fronts.{front_clipped, front_long}
use Rattle.shell.proofs.printing.Output.with_printed.Goals as goal

pub move_front-requires : goal.move_front-requires
move_front-requires c =
    (omega (arith, c.least-end.ensures), omega (arith, c.least-used.ensures))

pub overflow_sub-next : goal.overflow_sub-next
overflow_sub-next c = omega (arith, c.least-end.ensures)

pub returns : goal.returns
returns c =
    let a = c.args in
    let used = c.least-used in
    let end = c.least-end in
    let printed = c.printed_now-printed.ensures in
    let old = a.buffer.now in
    record {
      same = printed.same;
      fewer = omega (arith, used.ensures, end.ensures);
      front = c.move_front.ensures ∙ ap (sets old 0) (front_clipped old used.result a.bytes end.ensures);
      whole = λ f. printed.whole f ∙ front_long old end.result (omega (arith, used.ensures, end.ensures)) ∙ end.ensures ∙ ap (min a.bytes) used.ensures;
      still = printed.still;
    }
