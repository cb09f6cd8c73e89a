use mathlib.Core.Path.{refl}
use native.Mathlib.Omega.{arith}
use lib.ListN.{length}
use Rattle.convert.proofs.Completing.{kept_more_lem, past_most, within_most}
use Rattle.convert.proofs.SoundUploads.{well_formed, feeds_unchanged}
use Rattle.convert.proofs.feed_blocks.take_stretch.Goals as goal

pub overflow_mul-taken : goal.overflow_mul-taken
overflow_mul-taken c = omega (arith, (well_formed c.requires.0).few)

pub overflow_add-taken : goal.overflow_add-taken
overflow_add-taken c = omega (arith, (well_formed c.requires.0).few)

pub overflow_sub-taken : goal.overflow_sub-taken
overflow_sub-taken c = omega (arith, (well_formed c.requires.0).few)

pub returns-then-taken-stretch : goal.returns-then-taken-stretch
returns-then-taken-stretch c =
    let a = c.args in
    feeds_unchanged a.out.now (past_most a.u a.lent.now a.stretch.now (length a.out.now) (omega (arith, c.if-taken-stretch.true, (well_formed c.requires.0).few))) refl refl

pub overflow_sub-u : goal.overflow_sub-u
overflow_sub-u c = omega (arith, (well_formed c.requires.0).kept)

pub returns-then-stretch-u : goal.returns-then-stretch-u
returns-then-stretch-u c =
    let a = c.args in
    let w = well_formed c.requires.0 in
    kept_more_lem a.u a.lent.now a.stretch.now a.out.now w c.requires.1 (omega (arith, c.if-taken-stretch.false, w.few)) (omega (arith, c.if-stretch-u.true, w.kept)) c.keep_more.ensures

pub returns : goal.returns
returns c =
    let a = c.args in
    rw (within_most a.u a.lent.now a.stretch.now (length a.out.now) (omega (arith, c.if-taken-stretch.false, (well_formed c.requires.0).few))) c.complete.ensures
