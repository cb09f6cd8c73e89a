use Rattle.trace.proofs.Decisions.{label_long, label_rest}
use Rattle.trace.proofs.label.is_label.Goals as goal

pub returns-then-s-gt-BODY_BYTES : goal.returns-then-s-gt-BODY_BYTES
returns-then-s-gt-BODY_BYTES c = label_long _ c.if-s-gt-BODY_BYTES.true

pub returns : goal.returns
returns c = label_rest _ c.if-s-gt-BODY_BYTES.false c.all_allowed.ensures
