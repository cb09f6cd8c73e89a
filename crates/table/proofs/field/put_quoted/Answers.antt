use mathlib.Core.Path.{◌≡◌, ◌∙◌}
use Prim.Native.Nat.{◌+◌}
use native.Mathlib.Omega.{arith}
use lib.ListN.{length, length-set}
use Rattle.table.proofs.Texts.{length-quoted, quoted_stored}
use Rattle.table.specs.Field.{as_field, doubled}
use Rattle.table.proofs.field.put_quoted.Goals.{After-slice_known-2-1, Start}
use Rattle.table.proofs.field.put_quoted.Goals as goal

long : (c : Start) → length (as_field c.args.s.now) ≡ length (doubled c.args.s.now) + 2
long c = length-quoted c.args.s.now c.requires.0

kept : (c : After-slice_known-2-1) → length c.put_inner-end.new.out ≡ length c.args.out.now
kept c = c.put_inner-end.auto.out ∙ length-set c.args.out.now 0 34

pub bounds-out-0 : goal.bounds-out-0
bounds-out-0 c = omega (arith, long (goal.at.bounds-out-0 c).Start)

pub put_inner-end-requires : goal.put_inner-end-requires
put_inner-end-requires c = simp length-set (omega (arith, long (goal.at.put_inner-end-requires c).Start))

pub bounds-out-end : goal.bounds-out-end
bounds-out-end c = omega (arith, long (goal.at.bounds-out-end c).Start, kept (goal.at.bounds-out-end c).After-slice_known-2-1)

pub shape_of-out : goal.shape_of-out
shape_of-out c = simp length-set (kept (goal.at.shape_of-out c).After-slice_known-2-1)

pub returns : goal.returns
returns c =
    quoted_stored c.args.out.now 0 c.args.s.now c.requires.0 c.put_inner-end.ensures.written c.put_inner-end.ensures.value
