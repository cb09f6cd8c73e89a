use Rattle.std.proofs.Common.{◌≡◌, ℕ, ◌/◌, ◌%◌, true, length, ap, ◌∙◌, div-add-mod', arith, ne_eqb}
use Rattle.answers.proofs.Conditions.{was_true, was_false}
use Rattle.format.specs.Forms.{shape_of, width}
use Rattle.trace.specs.Contents.{count_ok, good_records}
use Rattle.trace.proofs.Decisions.{count_right, body_false, body_rest}
use Rattle.trace.proofs.write.is_body.Lts.View.{up-After-width-width}
use Rattle.trace.proofs.write.is_body.Goals.{After-width-width, Else-not-is_count}
use Rattle.trace.proofs.write.is_body.Goals as goal

-- the bytes behind the last whole record, and the number of records
rest : (c : After-width-width) → length c.args.records.now % c.width-width.result ≡ length c.args.records.now % width (shape_of c.args.form)
rest c = ap (λ (w : ℕ). length c.args.records.now % w) c.width-width.ensures

many : (c : After-width-width) → length c.args.records.now / c.width-width.result ≡ length c.args.records.now / width (shape_of c.args.form)
many c = ap (λ (w : ℕ). length c.args.records.now / w) c.width-width.ensures

count : (c : Else-not-is_count) → count_ok (shape_of c.args.form) (length c.args.records.now / width (shape_of c.args.form)) ≡ true
count c = was_true (c.is_count.ensures ∙ ap (count_ok (shape_of c.args.form)) (many (up-After-width-width _ _ _ c.before.before.before.before))) c.if-not-is_count.false

pub returns-then-rest-gt0 : goal.returns-then-rest-gt0
returns-then-rest-gt0 c = let a = c.args in body_false (shape_of a.form) a.records.now 0 (ne_eqb (length a.records.now % width (shape_of a.form)) 0 (λ e. omega (arith, rest (goal.at.returns-then-rest-gt0 c).After-width-width)))

pub returns-then-not-is_count : goal.returns-then-not-is_count
returns-then-not-is_count c =
    let a = c.args in
    body_false (shape_of a.form) a.records.now 1 (was_false (c.is_count.ensures ∙ ap (count_ok (shape_of a.form)) (many (goal.at.returns-then-not-is_count c).After-width-width)) c.if-not-is_count.true)

pub all_records-requires : goal.all_records-requires
all_records-requires c =
    let a = c.args in
    let n = many (goal.at.all_records-requires c).After-width-width in
    let part = div-add-mod' (length a.records.now) (width (shape_of a.form)) in
    (omega (arith, n, (count_right _ _ (count (goal.at.all_records-requires c).Else-not-is_count)).1), rw n (omega (arith, part)))

pub returns : goal.returns
returns c =
    let a = c.args in
    body_rest (shape_of a.form) a.records.now (omega (arith, rest (goal.at.returns c).After-width-width)) (count (goal.at.returns c).Else-not-is_count) (c.all_records.ensures ∙ ap (λ (n : ℕ). good_records (shape_of a.form) n a.records.now) (many (goal.at.returns c).After-width-width))
