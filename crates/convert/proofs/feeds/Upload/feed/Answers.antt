use mathlib.Core.Path.{refl}
use lib.ListN.{length}
use Rattle.answers.proofs.Conditions.{was_true, was_false}
use Rattle.convert.proofs.SoundUploads.{feed_malformed, feed_sound, feeds_unchanged, feeds_numbered}
use Rattle.convert.proofs.feeds.Upload.feed.Goals as goal

pub returns-then-not-is_sound : goal.returns-then-not-is_sound
returns-then-not-is_sound c =
    let a = c.args in
    let e = was_false c.is_sound.ensures c.if-not-is_sound.true in
    let both = feeds_numbered (feeds_unchanged a.out.now (feed_malformed a.self a.lent.now a.stretch.now (length a.out.now) e) refl refl) in
    record { feeds = both.0; numbered = both.1 }

pub take_stretch-requires : goal.take_stretch-requires
take_stretch-requires c = (was_true c.is_sound.ensures c.if-not-is_sound.false, c.in-None.is)

pub returns-in-Some : goal.returns-in-Some
returns-in-Some c =
    let a = c.args in
    let e = was_true c.is_sound.ensures c.if-not-is_sound.false in
    let both = feeds_numbered (feeds_unchanged a.out.now (feed_sound a.self a.lent.now a.stretch.now (length a.out.now) e c.in-Some.is) c.repeated.ensures.0 c.repeated.ensures.1) in
    record { feeds = both.0; numbered = both.1 }

pub returns-in-None : goal.returns-in-None
returns-in-None c =
    let a = c.args in
    let e = was_true c.is_sound.ensures c.if-not-is_sound.false in
    let both = feeds_numbered (rw (feed_sound a.self a.lent.now a.stretch.now (length a.out.now) e c.in-None.is) c.take_stretch.ensures) in
    record { feeds = both.0; numbered = both.1 }
