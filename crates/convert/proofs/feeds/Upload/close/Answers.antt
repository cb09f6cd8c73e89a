use mathlib.Core.Path.{refl}
use Rattle.answers.proofs.Conditions.{was_true, was_false}
use Rattle.convert.proofs.SoundUploads.{close_malformed, close_sound, closes_unchanged, closes_numbered}
use Rattle.convert.proofs.feeds.Upload.close.Goals as goal

pub returns-then-not-is_sound : goal.returns-then-not-is_sound
returns-then-not-is_sound c =
    let a = c.args in
    let both = closes_numbered (closes_unchanged (close_malformed a.self a.lent.now (was_false c.is_sound.ensures c.if-not-is_sound.true)) refl refl) in
    record { closes = both.0; numbered = both.1 }

pub returns-in-Some : goal.returns-in-Some
returns-in-Some c =
    let a = c.args in
    let e = was_true c.is_sound.ensures c.if-not-is_sound.false in
    let both = closes_numbered (closes_unchanged (close_sound a.self a.lent.now e c.in-Some.is) c.repeated.ensures.0 c.repeated.ensures.1) in
    record { closes = both.0; numbered = both.1 }

pub returns-in-None : goal.returns-in-None
returns-in-None c =
    let a = c.args in
    let e = was_true c.is_sound.ensures c.if-not-is_sound.false in
    let both = closes_numbered (rw (close_sound a.self a.lent.now e c.in-None.is) (c.closed.ensures a.lent.now)) in
    record { closes = both.0; numbered = both.1 }
