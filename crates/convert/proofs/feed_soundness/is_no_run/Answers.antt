use mathlib.Core.Path.{◌≡◌, sym}
use mathlib.Core.Bool.{true, and-true}
use native.Mathlib.Omega.{arith}
use borrow.Author.Tests.{eq-eqb, ne_eqb}
use lib.Dec.{eqb}
use Rattle.answers.proofs.Conditions.{all_false, was_true, was_false}
use Rattle.format.specs.Forms.{same_form}
use Rattle.format.specs.declared.Form.TheVariants.{One}
use Rattle.convert.specs.Feeds.{is_no_run}
use Rattle.convert.proofs.SoundUploads.{forms_differ, forms_agree}
use Rattle.convert.proofs.feed_soundness.is_no_run.Goals as goal

pub returns-then-ne : goal.returns-then-ne
returns-then-ne c = let run = c.args.run in all_false (is_no_run run) 0 (forms_differ run.form One c.if-ne.ensures)

pub returns-then-run-gt0 : goal.returns-then-run-gt0
returns-then-run-gt0 c = let run = c.args.run in all_false (is_no_run run) 1 (ne_eqb run.length 0 (λ e. omega (arith, c.if-run-gt0.true, e)))

pub returns-then-run-gt0-2 : goal.returns-then-run-gt0-2
returns-then-run-gt0-2 c = let run = c.args.run in all_false (is_no_run run) 2 (ne_eqb run.ssrc 0 (λ e. omega (arith, c.if-run-gt0-2.true, e)))

pub returns-then-not-is_fresh : goal.returns-then-not-is_fresh
returns-then-not-is_fresh c = let run = c.args.run in all_false (is_no_run run) 3 (was_false c.is_fresh.ensures c.if-not-is_fresh.true)

pub returns-then-run-gt0-3 : goal.returns-then-run-gt0-3
returns-then-run-gt0-3 c = let run = c.args.run in all_false (is_no_run run) 4 (ne_eqb run.totals.jumped 0 (λ e. omega (arith, c.if-run-gt0-3.true, e)))

pub returns : goal.returns
returns c =
    let run = c.args.run in
    let same : same_form run.form One ≡ true = forms_agree run.form One c.if-ne.ensures in
    let length : eqb run.length 0 ≡ true = eq-eqb run.length 0 (omega (arith, c.if-run-gt0.false)) in
    let ssrc : eqb run.ssrc 0 ≡ true = eq-eqb run.ssrc 0 (omega (arith, c.if-run-gt0-2.false)) in
    let jumped : eqb run.totals.jumped 0 ≡ true = eq-eqb run.totals.jumped 0 (omega (arith, c.if-run-gt0-3.false)) in
    rw (same, length, ssrc, was_true c.is_fresh.ensures c.if-not-is_fresh.false, jumped) (sym (and-true (eqb run.totals.restarts 0)))
