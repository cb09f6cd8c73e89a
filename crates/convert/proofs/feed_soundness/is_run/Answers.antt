use mathlib.Core.Path.{sym, ap, ◌∙◌}
use borrow.Author.Tests.{eq-eqb, ne_eqb}
use Rattle.answers.specs.Conditions.{all}
use Rattle.answers.proofs.Conditions.{and_ends, and_goes, was_true, was_false}
use Rattle.trace.specs.Contents.{every, is_zero}
use Rattle.trace.specs.Places.{zeroth_of}
use Rattle.convert.specs.Runs.{sound_totals}
use Rattle.convert.specs.Feeds.{is_no_run, own_by, run_ok}
use Rattle.convert.proofs.feed_soundness.is_run.Goals as goal

pub returns-then-not-is_no_run : goal.returns-then-not-is_no_run
returns-then-not-is_no_run c =
    let a = c.args in
    let z = a.zeroth.now in
    and_ends (all (is_no_run a.run)) (every is_zero z) (was_false c.is_no_run.ensures c.if-not-is_no_run.true) ∙ sym (ap (run_ok a.run z) (eq-eqb a.blocks 0 c.if-blocks-eq0.true))

pub returns-then-blocks-eq0 : goal.returns-then-blocks-eq0
returns-then-blocks-eq0 c =
    let a = c.args in
    let z = a.zeroth.now in
    and_goes (all (is_no_run a.run)) (every is_zero z) c.all_zero.result (was_true c.is_no_run.ensures c.if-not-is_no_run.false) c.all_zero.ensures ∙ sym (ap (run_ok a.run z) (eq-eqb a.blocks 0 c.if-blocks-eq0.true))

pub returns-then-not-is_own : goal.returns-then-not-is_own
returns-then-not-is_own c =
    let a = c.args in
    let z = a.zeroth.now in
    and_ends (own_by a.run (zeroth_of z)) (all (sound_totals a.run.totals)) (was_false c.is_own.ensures c.if-not-is_own.true) ∙ sym (ap (run_ok a.run z) (ne_eqb a.blocks 0 c.if-blocks-eq0.false))

pub returns : goal.returns
returns c =
    let a = c.args in
    let z = a.zeroth.now in
    and_goes (own_by a.run (zeroth_of z)) (all (sound_totals a.run.totals)) c.are_sound.result (was_true c.is_own.ensures c.if-not-is_own.false) c.are_sound.ensures ∙ sym (ap (run_ok a.run z) (ne_eqb a.blocks 0 c.if-blocks-eq0.false))
