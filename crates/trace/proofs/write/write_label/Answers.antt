use Rattle.std.proofs.Common.{◌≡◌, true, sym, refl, arith}
use Rattle.answers.proofs.Stores.{wrote_refused, wrote_same}
use Rattle.answers.proofs.Conditions.{was_true, was_false}
use Rattle.format.specs.Forms.{shape_of}
use Rattle.trace.specs.Contents.{label_ok}
use Rattle.trace.specs.Layout.{label_block}
use Rattle.trace.proofs.Decisions.{label_refused, retired_refused, label_taken, label_short}
use Rattle.trace.proofs.write.write_label.Goals.{Else-not-is_label}
use Rattle.trace.proofs.write.write_label.Goals as goal

good : (c : Else-not-is_label) → label_ok c.args.label.now ≡ true
good c = was_true c.is_label.ensures c.if-not-is_label.false

pub returns-then-not-is_label : goal.returns-then-not-is_label
returns-then-not-is_label c =
    let a = c.args in
    wrote_refused (label_block (shape_of a.form) a.label.now a.ssrc) a.out.now (label_refused a.label.now (was_false c.is_label.ensures c.if-not-is_label.true))

pub returns-then-retired_in-gt0 : goal.returns-then-retired_in-gt0
returns-then-retired_in-gt0 c =
    let a = c.args in
    wrote_refused (label_block (shape_of a.form) a.label.now a.ssrc) a.out.now (retired_refused a.label.now (good (goal.at.returns-then-retired_in-gt0 c).Else-not-is_label) (omega (arith, c.retired_in.ensures, c.if-retired_in-gt0.true)))

pub put_label-requires : goal.put_label-requires
put_label-requires c = label_short c.args.label.now (good (goal.at.put_label-requires c).Else-not-is_label)

pub returns : goal.returns
returns c =
    let label = c.args.label.now in
    wrote_same (sym (label_taken label (good (goal.at.returns c).Else-not-is_label) (omega (arith, c.retired_in.ensures, c.if-retired_in-gt0.false)))) refl c.put_label.ensures
