use mathlib.Core.Path.{◌≡◌, sym, ap, ◌∙◌}
use native.Mathlib.Omega.{arith}
use Prim.Native.Nat.{ℕ, ◌+◌, ◌-◌}
use borrow.Author.Tests.{lt-leb, eqb-true}
use lib.ListN.{length, take, drop}
use Rattle.answers.proofs.Conditions.{was_true, was_false, all_true, all_false}
use Rattle.format.specs.Blocks.{block_bytes, body_bytes}
use Rattle.trace.specs.Contents.{label_ok}
use Rattle.convert.specs.Runs.{own_label, run_conditions, sound_run}
use Rattle.convert.proofs.Kept.{sound_last}
use Rattle.convert.proofs.soundness.is_sound.Goals as goal

pub returns-then-not-is_own : goal.returns-then-not-is_own
unfolding sound_run
returns-then-not-is_own c = let a = c.args in all_false (run_conditions a.run a.zeroth.now) 0 (was_false c.is_own.ensures c.if-not-is_own.true)

pub returns-then-run-gt-BODY_BYTES : goal.returns-then-run-gt-BODY_BYTES
unfolding sound_run
returns-then-run-gt-BODY_BYTES c = let a = c.args in all_false (run_conditions a.run a.zeroth.now) 1 (lt-leb a.run.length body_bytes c.if-run-gt-BODY_BYTES.true)

pub slice_bounds-is_label-end : goal.slice_bounds-is_label-end
slice_bounds-is_label-end c =
    let a = c.args in
    let own = was_true c.is_own.ensures c.if-not-is_own.false in
    let whole = eqb-true (length a.zeroth.now) block_bytes (all_true (own_label a.run a.zeroth.now) 0 own) in
    omega arith

pub returns-then-not-is_label : goal.returns-then-not-is_label
unfolding sound_run
returns-then-not-is_label c =
    let a = c.args in
    let same : 8 + a.run.length - 8 ≡ a.run.length = omega arith in
    let label = ap (λ (k : ℕ). take k (drop 8 a.zeroth.now)) same in
    all_false (run_conditions a.run a.zeroth.now) 2 (ap label_ok (sym label) ∙ was_false c.is_label.ensures c.if-not-is_label.true)

pub returns : goal.returns
returns c =
    let a = c.args in
    let same : 8 + a.run.length - 8 ≡ a.run.length = omega arith in
    let label = ap (λ (k : ℕ). take k (drop 8 a.zeroth.now)) same in
    c.are_sound.ensures
    ∙ sound_last a.run a.zeroth.now (was_true c.is_own.ensures c.if-not-is_own.false) c.if-run-gt-BODY_BYTES.false (ap label_ok (sym label) ∙ was_true c.is_label.ensures c.if-not-is_label.false)
