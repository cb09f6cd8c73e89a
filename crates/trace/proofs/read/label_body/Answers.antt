use Rattle.std.proofs.Common.{sym, ap, ◌∙◌, arith, length-take-le}
use borrow.Author.Tests.{lt-leb}
use Rattle.trace.proofs.Decisions.{part_tail, text_false, text_rest}
use Rattle.answers.proofs.Conditions.{was_false, was_true}
use Rattle.trace.specs.Contents.{every, is_zero}
use Rattle.trace.proofs.read.label_body.Goals as goal

pub returns-then-n-gt-BODY_BYTES : goal.returns-then-n-gt-BODY_BYTES
returns-then-n-gt-BODY_BYTES c = text_false _ _ 0 (lt-leb _ 502 c.if-n-gt-BODY_BYTES.true)

pub slice_bounds-all_allowed-end : goal.slice_bounds-all_allowed-end
slice_bounds-all_allowed-end c = let a = c.args in sym (length-take-le a.n a.body.now (omega arith))

pub all_allowed-requires : goal.all_allowed-requires
all_allowed-requires c = let a = c.args in rw (length-take-le a.n a.body.now (omega arith)) (omega arith)

pub returns-then-not-all_allowed : goal.returns-then-not-all_allowed
returns-then-not-all_allowed c = text_false _ _ 1 (was_false c.all_allowed.ensures c.if-not-all_allowed.true)

pub returns : goal.returns
returns c =
    let a = c.args in
    text_rest a.n a.body.now c.if-n-gt-BODY_BYTES.false (was_true c.all_allowed.ensures c.if-not-all_allowed.false)
    (c.all_zero.ensures ∙ ap (every is_zero) (part_tail a.body.now a.n))
