use borrow.Author.Rules.{rules}
use Rattle.answers.proofs.Conditions.{was_true, was_false}
use Rattle.forms.proofs.PieceCalls.{not_ended, takes_none, takes_malformed, takes_some}
use Rattle.forms.proofs.pieces.Progress.blocks.Goals as goal

pub returns-then-is_some : goal.returns-then-is_some
returns-then-is_some c =
    let a = c.args in
    rw c.none_taken.ensures (takes_none a.self a.part.now a.piece.now a.out.now (search rules) (was_true c.is_some.ensures c.if-is_some.true))

pub returns-then-not-is_sound : goal.returns-then-not-is_sound
returns-then-not-is_sound c =
    let a = c.args in
    rw c.none_taken-then-not-is_sound.ensures
    (takes_malformed a.self a.part.now a.piece.now (not_ended a.self.ended (was_false c.is_some.ensures c.if-is_some.false)) a.out.now (was_false c.is_sound.ensures c.if-not-is_sound.true))

pub take_fitting-reach-requires : goal.take_fitting-reach-requires
take_fitting-reach-requires c = was_true c.is_sound.ensures c.if-not-is_sound.false

pub returns : goal.returns
returns c =
    let a = c.args in
    takes_some a.self a.part.now a.piece.now (not_ended a.self.ended (was_false c.is_some.ensures c.if-is_some.false)) a.out.now (was_true c.is_sound.ensures c.if-not-is_sound.false)
    c.take_fitting-reach.ensures c.number_after.ensures
