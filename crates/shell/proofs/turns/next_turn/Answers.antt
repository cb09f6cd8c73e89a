use mathlib.Core.Path.{sym, ap, ◌∙◌}
use Prim.Native.Nat.{◌≤◌, ◌<◌}
use native.Mathlib.Omega.{arith}
use lib.ListN.{length}
use Rattle.shell.specs.Transfers.{left_of}
use Rattle.shell.proofs.Turning.{turn_stops, turn_prints, turn_finishes, turn_takes, turn_is_last}
use Rattle.shell.proofs.turns.next_turn.Goals as goal

pub returns-then-out : goal.returns-then-out
returns-then-out c = let a = c.args in turn_stops a.t a.piece.now c.if-out.true

pub returns-then-is_due : goal.returns-then-is_due
returns-then-is_due c =
    let a = c.args in
    turn_prints a.t a.piece.now c.if-out.false (sym c.is_due.ensures ∙ c.if-is_due.true)

pub returns-then-not-t : goal.returns-then-not-t
returns-then-not-t c =
    let a = c.args in
    turn_finishes a.t a.piece.now c.if-out.false (sym c.is_due.ensures ∙ c.if-is_due.false)
    c.if-not-t.true

pub returns-then-left-ge-BLOCK : goal.returns-then-left-ge-BLOCK
returns-then-left-ge-BLOCK c =
    let a = c.args in
    let long : 512 ≤ length (left_of a.t a.piece.now) = omega (arith, c.if-left-ge-BLOCK.true, ap length c.left-left.ensures) in
    turn_takes a.t a.piece.now c.if-out.false
    (sym c.is_due.ensures ∙ c.if-is_due.false) c.if-not-t.false long

pub returns : goal.returns
returns c =
    let a = c.args in
    let short : length (left_of a.t a.piece.now) < 512 = omega (arith, c.if-left-ge-BLOCK.false, ap length c.left-left.ensures) in
    c.last_turn.ensures
    ∙ turn_is_last a.t a.piece.now c.if-out.false
    (sym c.is_due.ensures ∙ c.if-is_due.false) c.if-not-t.false short
