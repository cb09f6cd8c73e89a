use mathlib.Core.Path.{◌∙◌}
use native.Mathlib.Omega.{arith}
use lib.ListN.{length-set}
use Rattle.table.proofs.RefusedLines.{refused_stored}
use Rattle.table.proofs.refused.put_line.Goals as goal

pub bounds-out-size-2 : goal.bounds-out-size-2
bounds-out-size-2 c =
    simp length-set (omega (arith, c.put_counted-2.auto.out, c.put_counted.auto.out))

pub shape_of-out : goal.shape_of-out
shape_of-out c =
    simp length-set (c.put_counted-2.auto.out ∙ c.put_counted.auto.out)

pub returns : goal.returns
returns c =
    refused_stored c.args.number c.args.block c.args.out.now c.args.middle c.args.size c.requires.0 c.requires.1 c.put_counted.ensures c.put_counted-2.ensures
