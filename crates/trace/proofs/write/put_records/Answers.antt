use Rattle.std.proofs.Common.{◌≡◌, ℕ, ◌+◌, ◌*◌, ◌≤◌, List, get_or, drop, refl, ap, ◌∙◌, suc-mul, add-one, arith, rules}
use Rattle.answers.proofs.Stores.{sets-step}
use Rattle.format.specs.Forms.{Shape, shape_of, width}
use Rattle.format.proofs.Fits.{fits, record_fits}
use Rattle.trace.proofs.Layouts.{length-record, records_next, records_end}
use Rattle.trace.specs.Layout.{record_bytes, records_bytes}
use Rattle.trace.specs.Writing.{records_of}
use Rattle.trace.specs.declared.Record.{Record}
use Rattle.trace.proofs.write.put_records.Goals.{In-loop-i}
use Rattle.trace.proofs.write.put_records.Goals as goal

room : (c : In-loop-i) → c.loop-i.at + width (shape_of c.args.form) ≤ 510
room c = omega (arith, record_fits (fits c.args.form) c.requires.has_room.0 c.loop-i.i c.loop-i-test.true)

pub loop-i-init : goal.loop-i-init
loop-i-init c = (search rules, omega arith, refl, refl)

pub put_record-requires : goal.put_record-requires
put_record-requires c = omega (arith, room (goal.at.put_record-requires c).In-loop-i, c.loop-i.invariant.2, c.requires.has_room.1)

pub overflow_add-at : goal.overflow_add-at
overflow_add-at c = omega (arith, room (goal.at.overflow_add-at c).In-loop-i, c.width-width.ensures)

pub loop-i-preserved : goal.loop-i-preserved
unfolding records_bytes
loop-i-preserved c =
    let loop = c.loop-i in
    let a = c.args in
    let lists = c.requires.alike in
    let put = c.put_record in
    let shape : Shape = shape_of a.form in
    let one : Record = record { time = get_or a.times.now loop.i 0; number = record { 0 = get_or a.numbers.now loop.i 0 }; mark = get_or a.marks.now loop.i 0 } in
    let rest : List Record = records_of (drop (loop.i + 1) a.times.now) (drop (loop.i + 1) a.numbers.now) (drop (loop.i + 1) a.marks.now) in
    let next = records_next a.times.now a.numbers.now a.marks.now lists.0 lists.1 loop.i c.loop-i-test.true in
    let more : (loop.i + 1) * width shape ≡ loop.i * width shape + width shape = ap (λ (k : ℕ). k * width shape) (add-one loop.i) ∙ suc-mul loop.i (width shape) in (
      omega arith,
      omega (arith, more, loop.invariant.1, c.width-width.ensures),
      put.auto.out ∙ loop.invariant.2,
      sets-step loop.out loop.at (record_bytes shape one) (records_bytes shape rest) (ap (records_bytes shape) next) put.ensures (omega (arith, length-record shape one, c.width-width.ensures))
          ∙ loop.invariant.3,
    )

pub returns : goal.returns
unfolding records_bytes
returns c = let loop = c.loop-i in let a = c.args in rw (records_end a.times.now a.numbers.now a.marks.now loop.i c.loop-i-test.false) at loop.invariant.3
