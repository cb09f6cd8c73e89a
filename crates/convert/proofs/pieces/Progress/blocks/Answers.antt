use native.Mathlib.Omega.{arith}
use Rattle.answers.proofs.Conditions.{was_true, was_false}
use Rattle.convert.proofs.Taking.{takes_over, takes_malformed, takes_fitted}
use Rattle.convert.proofs.pieces.Progress.blocks.Goals as goal

pub returns-in_default : goal.returns-in_default
returns-in_default c =
    let a = c.args in
    rw c.none_taken.ensures (takes_over a.self a.zeroth.now a.piece.now a.out.now (omega (arith, c.well_formed)) c.in_default.is)

pub returns-then-not-is_sound : goal.returns-then-not-is_sound
returns-then-not-is_sound c =
    let a = c.args in
    rw c.none_taken-then-not-is_sound.ensures
    (takes_malformed a.self a.zeroth.now a.piece.now a.out.now c.in-None.is (was_false c.is_sound.ensures c.if-not-is_sound.true))

pub take_fitting-reach-requires : goal.take_fitting-reach-requires
take_fitting-reach-requires c = was_true c.is_sound.ensures c.if-not-is_sound.false

pub returns : goal.returns
returns c =
    let a = c.args in
    takes_fitted a.self a.zeroth.now a.piece.now a.out.now c.in-None.is (was_true c.is_sound.ensures c.if-not-is_sound.false)
    c.take_fitting-reach.ensures c.number_after.ensures
