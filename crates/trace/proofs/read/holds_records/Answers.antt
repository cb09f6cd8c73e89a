use Rattle.std.proofs.Common.{ℕ, ◌*◌, Bool, ◌&&◌, drop, sym, ap, ◌∙◌}
use Rattle.answers.proofs.Conditions.{was_false, was_true}
use Rattle.format.specs.Forms.{width}
use Rattle.trace.proofs.Decisions.{part_tail}
use Rattle.trace.specs.Contents.{every, is_zero}
use Rattle.trace.proofs.read.holds_records.Goals as goal

pub returns-then-not-good_ends : goal.returns-then-not-good_ends
returns-then-not-good_ends c =
    let a = c.args in
    λ shape e. sym (ap (λ (t : Bool). t && every is_zero (drop (a.n * width shape) a.body.now)) (was_false (c.good_ends.ensures shape e) c.if-not-good_ends.true))

pub returns : goal.returns
returns c =
    let a = c.args in
    let s = a.body.now in
    λ shape e. c.all_zero.ensures ∙ ap (every is_zero) (part_tail s (a.n * a.step) ∙ ap (λ (w : ℕ). drop (a.n * w) s) e)
    ∙ sym (ap (λ (t : Bool). t && every is_zero (drop (a.n * width shape) s)) (was_true (c.good_ends.ensures shape e) c.if-not-good_ends.false))
