use Rattle.std.proofs.Common.{◌≡◌, ℕ, ◌+◌, ◌*◌, ◌≤◌, List, length, sym, ◌∙◌, ap₂, arith}
use Rattle.answers.proofs.Stores.{wrote_refused, wrote_short, wrote_all}
use Rattle.answers.proofs.Conditions.{was_true, was_false}
use Rattle.format.specs.Forms.{Shape, shape_of}
use Rattle.format.proofs.Fits.{fits, records_fit}
use Rattle.trace.proofs.Decisions.{lists_refused, lists_taken, Taken}
use Rattle.trace.proofs.Layouts.{length-arrivals_block, length-records_of, length-records, block_stored}
use Rattle.trace.specs.Layout.{arrivals_block, records_bytes}
use Rattle.trace.specs.Writing.{records_of, arrivals_ok}
use Rattle.trace.specs.declared.Record.{Record}
use Rattle.trace.proofs.write.write_arrivals.Goals.{After-width, Else-not-are_records}
use Rattle.trace.proofs.write.write_arrivals.Goals as goal

good : (c : Else-not-are_records) → Taken (shape_of c.args.form) c.args.times.now c.args.numbers.now c.args.marks.now
good c = lists_taken (shape_of c.args.form) c.args.times.now c.args.numbers.now c.args.marks.now (was_true c.are_records.ensures c.if-not-are_records.false)

many : (c : Else-not-are_records) → length (records_of c.args.times.now c.args.numbers.now c.args.marks.now) ≡ length c.args.times.now
many c = length-records_of c.args.times.now c.args.numbers.now c.args.marks.now (good c).numbers_long (good c).marks_long

whole : (c : Else-not-are_records) → length (arrivals_block (shape_of c.args.form) (records_of c.args.times.now c.args.numbers.now c.args.marks.now) c.args.ssrc) ≡ 512
whole c =
    length-arrivals_block (shape_of c.args.form) (records_of c.args.times.now c.args.numbers.now c.args.marks.now) c.args.ssrc (rw (many c) (records_fit (fits c.args.form) (good c).most))

room : (c : After-width) → length c.args.times.now * c.width.result ≤ 502
room c = rw c.width.ensures (records_fit (fits c.args.form) (lists_taken (shape_of c.args.form) c.args.times.now c.args.numbers.now c.args.marks.now (was_true c.are_records.ensures c.if-not-are_records.false)).most)

pub returns-then-not-are_records : goal.returns-then-not-are_records
returns-then-not-are_records c = let a = c.args in wrote_refused (arrivals_block (shape_of a.form) (records_of a.times.now a.numbers.now a.marks.now) a.ssrc) a.out.now (lists_refused (shape_of a.form) a.times.now a.numbers.now a.marks.now (was_false {t = arrivals_ok (shape_of a.form) a.times.now a.numbers.now a.marks.now} c.are_records.ensures c.if-not-are_records.true))

pub returns-then-out-lt-BLOCK : goal.returns-then-out-lt-BLOCK
returns-then-out-lt-BLOCK c = let a = c.args in wrote_short (arrivals_block (shape_of a.form) (records_of a.times.now a.numbers.now a.marks.now) a.ssrc) a.out.now (good (goal.at.returns-then-out-lt-BLOCK c).Else-not-are_records).no_fault (omega (arith, whole (goal.at.returns-then-out-lt-BLOCK c).Else-not-are_records)) (sym (whole (goal.at.returns-then-out-lt-BLOCK c).Else-not-are_records))

pub put_header-requires : goal.put_header-requires
put_header-requires c = omega (arith, (good (goal.at.put_header-requires c).Else-not-are_records).most, (fits c.args.form).few)

pub put_records-requires : goal.put_records-requires
put_records-requires c = let t = good (goal.at.put_records-requires c).Else-not-are_records in record { alike = (t.numbers_long, t.marks_long); has_room = (t.most, omega (arith, c.if-out-lt-BLOCK.false)) }

pub overflow_mul-times : goal.overflow_mul-times
overflow_mul-times c = omega (arith, room (goal.at.overflow_mul-times c).After-width)

pub overflow_add-times : goal.overflow_add-times
overflow_add-times c = omega (arith, room (goal.at.overflow_add-times c).After-width)

pub put_end-requires : goal.put_end-requires
put_end-requires c = (omega (arith, room (goal.at.put_end-requires c).After-width), omega (arith, c.if-out-lt-BLOCK.false))

pub returns : goal.returns
unfolding arrivals_block
returns c =
    let a = c.args in
    let shape : Shape = shape_of a.form in
    let rs : List Record = records_of a.times.now a.numbers.now a.marks.now in
    let size : length (records_bytes shape rs) ≡ length a.times.now * c.width.result =
    length-records shape rs ∙ ap₂ (λ (n w : ℕ). n * w) (many (goal.at.returns c).Else-not-are_records) (sym c.width.ensures) in
    let end : 8 + length a.times.now * c.width.result ≡ 8 + length (records_bytes shape rs) = omega (arith, size) in
    wrote_all (arrivals_block (shape_of a.form) (records_of a.times.now a.numbers.now a.marks.now) a.ssrc) a.out.now (good (goal.at.returns c).Else-not-are_records).no_fault (omega (arith, whole (goal.at.returns c).Else-not-are_records)) (sym (whole (goal.at.returns c).Else-not-are_records))
    (block_stored a.out.now (records_bytes shape rs) shape.arrivals (length rs) a.ssrc (omega (arith, size, room (goal.at.returns c).After-width)) c.if-out-lt-BLOCK.false c.arrivals.ensures (sym (many (goal.at.returns c).Else-not-are_records)) c.put_header.ensures c.put_records.ensures end c.put_end.ensures)
