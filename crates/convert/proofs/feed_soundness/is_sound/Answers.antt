use mathlib.Core.Path.{ap, ◌∙◌}
use native.Mathlib.Omega.{arith}
use borrow.Author.Tests.{lt-leb, le-ltb}
use lib.ListN.{length, length-take}
use Rattle.answers.proofs.Conditions.{all_false, was_true, was_false}
use Rattle.format.specs.Blocks.{block_bytes}
use Rattle.trace.specs.Contents.{every, is_zero}
use Rattle.convert.specs.Feeds.{lent_bytes, upload_conditions, sound_upload}
use Rattle.convert.proofs.Lents.{after_kept}
use Rattle.convert.proofs.SoundUploads.{upload_last}
use Rattle.convert.proofs.feed_soundness.is_sound.Goals as goal

pub returns-then-lent-lt-LENT : goal.returns-then-lent-lt-LENT
unfolding sound_upload
returns-then-lent-lt-LENT c = let a = c.args in all_false (upload_conditions a.u a.lent.now) 0 (lt-leb lent_bytes (length a.lent.now) c.if-lent-lt-LENT.true)

pub returns-then-u-ge-BLOCK : goal.returns-then-u-ge-BLOCK
unfolding sound_upload
returns-then-u-ge-BLOCK c = let a = c.args in all_false (upload_conditions a.u a.lent.now) 1 (le-ltb a.u.kept block_bytes c.if-u-ge-BLOCK.true)

pub returns-then-not-is_taken : goal.returns-then-not-is_taken
unfolding sound_upload
returns-then-not-is_taken c = let a = c.args in all_false (upload_conditions a.u a.lent.now) 2 (was_false c.is_taken.ensures c.if-not-is_taken.true)

pub returns-then-not-all_zero : goal.returns-then-not-all_zero
unfolding sound_upload
returns-then-not-all_zero c =
    let a = c.args in
    let same = ap (every is_zero) (after_kept a.lent.now a.u.kept) in
    all_false (upload_conditions a.u a.lent.now) 3 (same ∙ was_false c.all_zero.ensures c.if-not-all_zero.true)

pub returns-then-not-is_run : goal.returns-then-not-is_run
unfolding sound_upload
returns-then-not-is_run c = let a = c.args in all_false (upload_conditions a.u a.lent.now) 4 (was_false c.is_run.ensures c.if-not-is_run.true)

pub slice_bounds-is_run-end : goal.slice_bounds-is_run-end
slice_bounds-is_run-end c = omega (arith, c.if-lent-lt-LENT.false, length-take 512 c.args.lent.now)

pub is_run-requires : goal.is_run-requires
is_run-requires c = omega (arith, length-take 512 c.args.lent.now)

pub returns : goal.returns
returns c =
    let a = c.args in
    let zeros = ap (every is_zero) (after_kept a.lent.now a.u.kept) ∙ was_true c.all_zero.ensures c.if-not-all_zero.false in
    c.is_kept.ensures
    ∙ upload_last a.u a.lent.now (omega (arith, c.if-lent-lt-LENT.false)) (omega (arith, c.if-u-ge-BLOCK.false)) (was_true c.is_taken.ensures c.if-not-is_taken.false) zeros (was_true c.is_run.ensures c.if-not-is_run.false)
