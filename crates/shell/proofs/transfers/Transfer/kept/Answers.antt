use mathlib.Core.Path.{ap, ◌∙◌}
use native.Mathlib.Omega.{arith}
use lib.Seq.{sets}
use Rattle.shell.proofs.Lefts.{part_is, left_long}
use Rattle.shell.proofs.transfers.Transfer.kept.Goals as goal

pub returns : goal.returns
returns c =
    let a = c.args in
    let to = c.least-end in
    let from = c.least-start in
    let long = left_long a.self a.piece.now in
    (omega (arith, to.ensures, from.ensures), c.move_front.ensures ∙ ap (sets a.piece.now 0) (part_is a.piece.now a.self.from a.self.input.bytes to.ensures from.ensures))
