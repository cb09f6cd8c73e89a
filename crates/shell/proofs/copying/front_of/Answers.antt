use mathlib.Core.Path.{ap, ◌∙◌}
use lib.ListN.{take}
use Rattle.shell.proofs.Lefts.{front_is}
use Rattle.shell.proofs.copying.front_of.Goals as goal

pub returns : goal.returns
returns c =
    let a = c.args in
    let left = c.left-left in
    front_is left.result.now a.bytes c.least-end.ensures ∙ ap (take a.bytes) left.ensures
