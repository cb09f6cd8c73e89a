use mathlib.Core.Path.{subst⁻¹}
use native.Mathlib.Omega.{arith}
use Rattle.copies.proofs.Fronts.{front_next}
use Rattle.salvage.specs.Pieces.{Portion, TakesBy}
use Rattle.salvage.proofs.Calls.{portion_front, takes_over, takes_whole}
use Rattle.salvage.proofs.Progress.blocks.Goals as goal

pub returns-in_default : goal.returns-in_default
returns-in_default c =
    let a = c.args in
    takes_over a.self a.piece.now (omega (arith, c.well_formed)) c.in_default.is c.none_taken.ensures

pub without-requires : goal.without-requires
without-requires c =
    let a = c.args in
    let inside = front_next a.self.form a.self.ssrc a.piece.now c.sound_front-front.ensures c.in-Some.is in
    omega (arith, inside, c.well_formed)

pub returns-in-None-ended : goal.returns-in-None-ended
returns-in-None-ended c =
    let a = c.args in
    takes_whole a.self a.piece.now c.in-None.is c.sound_front-front.ensures c.in-None-ended.is c.moved.ensures

pub returns-in-Some : goal.returns-in-Some
returns-in-Some c =
    let a = c.args in
    let front = c.sound_front-front in
    let w = c.without in
    subst⁻¹ (λ (q : Portion). TakesBy a.self q a.err.now w.result w.new.err)
    (portion_front a.self a.piece.now c.in-None.is front.ensures c.in-Some.is)
    w.ensures
