use Rattle.std.proofs.Common.{◌≡◌, true, length, arith, ne_eqb}
use Rattle.answers.proofs.Conditions.{was_true, was_false}
use Rattle.format.specs.Forms.{shape_of}
use Rattle.format.proofs.Fits.{fits}
use Rattle.trace.specs.Contents.{count_ok}
use Rattle.trace.proofs.Decisions.{count_right, lists_false, lists_rest}
use Rattle.trace.proofs.write.are_records.Goals.{Else-not-is_count}
use Rattle.trace.proofs.write.are_records.Goals as goal

count : (c : Else-not-is_count) → count_ok (shape_of c.args.form) (length c.args.times.now) ≡ true
count c = was_true c.is_count.ensures c.if-not-is_count.false

pub returns-then-numbers-n : goal.returns-then-numbers-n
returns-then-numbers-n c = let a = c.args in lists_false (shape_of a.form) a.times.now a.numbers.now a.marks.now 0 (ne_eqb _ _ c.if-numbers-n.true)

pub returns-then-marks-n : goal.returns-then-marks-n
returns-then-marks-n c = let a = c.args in lists_false (shape_of a.form) a.times.now a.numbers.now a.marks.now 1 (ne_eqb _ _ c.if-marks-n.true)

pub returns-then-not-is_count : goal.returns-then-not-is_count
returns-then-not-is_count c = let a = c.args in lists_false (shape_of a.form) a.times.now a.numbers.now a.marks.now 2 (was_false c.is_count.ensures c.if-not-is_count.true)

pub all_times-requires : goal.all_times-requires
all_times-requires c = omega (arith, (count_right _ _ (count (goal.at.all_times-requires c).Else-not-is_count)).1, (fits c.args.form).few)

pub returns-then-not-all_times : goal.returns-then-not-all_times
returns-then-not-all_times c = let a = c.args in lists_false (shape_of a.form) a.times.now a.numbers.now a.marks.now 3 (was_false c.all_times.ensures c.if-not-all_times.true)

pub all_marks-requires : goal.all_marks-requires
all_marks-requires c = omega (arith, (count_right _ _ (count (goal.at.all_marks-requires c).Else-not-is_count)).1, (fits c.args.form).few)

pub returns : goal.returns
returns c = let a = c.args in lists_rest (shape_of a.form) a.times.now a.numbers.now a.marks.now c.if-numbers-n.false c.if-marks-n.false (count (goal.at.returns c).Else-not-is_count) (was_true c.all_times.ensures c.if-not-all_times.false) c.all_marks.ensures
