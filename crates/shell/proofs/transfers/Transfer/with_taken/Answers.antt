use mathlib.Core.Path.{ap, ◌∙◌}
use native.Mathlib.Omega.{arith}
use lib.ListN.{length}
use Rattle.shell.proofs.Lefts.{left_long, none_taken_lem, some_taken}
use Rattle.shell.proofs.transfers.Transfer.with_taken.Goals as goal

pub overflow_add-next : goal.overflow_add-next
overflow_add-next c =
    let a = c.args in
    let long = ap length c.left-left.ensures ∙ left_long a.self a.piece.now in
    record { fits = omega (arith, c.least.ensures) }

pub returns-then-bytes-eq0 : goal.returns-then-bytes-eq0
returns-then-bytes-eq0 c =
    let a = c.args in
    none_taken_lem a.self a.ended a.bytes a.piece.now c.left-left.ensures c.least.ensures
    c.if-bytes-eq0.true

pub returns-else-bytes-eq0 : goal.returns-else-bytes-eq0
returns-else-bytes-eq0 c =
    let a = c.args in
    some_taken a.self a.ended a.bytes a.piece.now c.left-left.ensures c.least.ensures
    c.if-bytes-eq0.false c.goes_on.ensures
