use Rattle.std.proofs.Common.{◌≡◌, true}
use Rattle.answers.proofs.Conditions.{was_false, was_true}
use Rattle.format.specs.Forms.{shape_of}
use Rattle.trace.proofs.Decisions.{count_right, records_false, records_rest}
use Rattle.trace.specs.Contents.{count_ok}
use Rattle.trace.proofs.read.arrivals_body.Goals.{Else-not-is_count}
use Rattle.trace.proofs.read.arrivals_body.Goals as goal

count : (c : Else-not-is_count) → count_ok (shape_of c.args.form) c.args.n ≡ true
count c = was_true c.is_count.ensures c.if-not-is_count.false

pub returns-then-not-is_count : goal.returns-then-not-is_count
returns-then-not-is_count c = records_false (shape_of c.args.form) _ _ 0 (was_false c.is_count.ensures c.if-not-is_count.true)

pub form_records-requires : goal.form_records-requires
form_records-requires c = ((count_right _ _ (count (goal.at.form_records-requires c).Else-not-is_count)).1, c.requires)

pub returns : goal.returns
returns c =
    let a = c.args in
    records_rest (shape_of a.form) a.n a.body.now (count (goal.at.returns c).Else-not-is_count) c.form_records.ensures
