use Rattle.std.proofs.Common.{◌≡◌, ℕ, ◌+◌, ◌*◌, ◌/◌, ◌≤◌, true, List, length, take, drop, sym, ap, ◌∙◌, mul-div_cancel, arith, length-drop, length-take, length-take-le}
use Rattle.answers.proofs.Stores.{wrote_refused, wrote_short, wrote_all}
use Rattle.answers.proofs.Conditions.{was_true, was_false}
use Rattle.format.specs.Forms.{Shape, shape_of, width}
use Rattle.format.proofs.Fits.{fits, records_fit}
use Rattle.trace.proofs.Decisions.{count_right, count_refused, count_taken}
use Rattle.trace.proofs.Layouts.{length-records_block, block_sealed}
use Rattle.trace.specs.Contents.{count_ok}
use Rattle.trace.specs.Layout.{records_block}
use Rattle.trace.proofs.write.seal.Goals.{After-width, Else-not-is_count}
use Rattle.trace.proofs.write.seal.Goals as goal

-- the records that stand in the output
abbrev records : Shape → ℕ → List ℕ → List ℕ
records shape n out = take (n * width shape) (drop 8 out)

module _ (c : Else-not-is_count) where
  good : count_ok (shape_of c.args.form) c.args.n ≡ true
  good = was_true c.is_count.ensures c.if-not-is_count.false

  fit : c.args.n * width (shape_of c.args.form) ≤ 502
  fit = records_fit (fits c.args.form) (count_right (shape_of c.args.form) c.args.n good).1

  whole : length (records_block (shape_of c.args.form) (records (shape_of c.args.form) c.args.n c.args.out.now) c.args.ssrc) ≡ 512
  whole = length-records_block (shape_of c.args.form) (records (shape_of c.args.form) c.args.n c.args.out.now) c.args.ssrc (simp length-take (omega (arith, fit)))

pub returns-then-not-is_count : goal.returns-then-not-is_count
returns-then-not-is_count c = wrote_refused (records_block (shape_of c.args.form) (records (shape_of c.args.form) c.args.n c.args.out.now) c.args.ssrc) c.args.out.now (count_refused (shape_of c.args.form) c.args.n (was_false c.is_count.ensures c.if-not-is_count.true))

pub returns-then-out-lt-BLOCK : goal.returns-then-out-lt-BLOCK
returns-then-out-lt-BLOCK c =
    wrote_short (records_block (shape_of c.args.form) (records (shape_of c.args.form) c.args.n c.args.out.now) c.args.ssrc) c.args.out.now (count_taken (shape_of c.args.form) c.args.n (good (goal.at.returns-then-out-lt-BLOCK c).Else-not-is_count)) (omega (arith, whole (goal.at.returns-then-out-lt-BLOCK c).Else-not-is_count)) (sym (whole (goal.at.returns-then-out-lt-BLOCK c).Else-not-is_count))

pub put_header-requires : goal.put_header-requires
put_header-requires c =
    let a = c.args in
    omega (arith, (count_right (shape_of a.form) a.n (good (goal.at.put_header-requires c).Else-not-is_count)).1, (fits a.form).few)

-- the records end in the body
room : (c : After-width) → c.args.n * c.width.result ≤ 502
room c = rw c.width.ensures (records_fit (fits c.args.form) (count_right (shape_of c.args.form) c.args.n (was_true c.is_count.ensures c.if-not-is_count.false)).1)

pub overflow_mul-n : goal.overflow_mul-n
overflow_mul-n c = omega (arith, room (goal.at.overflow_mul-n c).After-width)

pub overflow_add-n : goal.overflow_add-n
overflow_add-n c = omega (arith, room (goal.at.overflow_add-n c).After-width)

pub put_end-requires : goal.put_end-requires
put_end-requires c = (omega (arith, room (goal.at.put_end-requires c).After-width), omega (arith, c.if-out-lt-BLOCK.false))

pub returns : goal.returns
unfolding records_block
returns c =
    let a = c.args in
    let shape : Shape = shape_of a.form in
    let wide = c.width in
    let large = c.if-out-lt-BLOCK.false in
    let size : length (records (shape_of c.args.form) c.args.n c.args.out.now) ≡ a.n * width shape = length-take-le (a.n * width shape) (drop 8 a.out.now) (rw length-drop (omega (arith, fit (goal.at.returns c).Else-not-is_count, large))) in
    let count : a.n ≡ length (records (shape_of c.args.form) c.args.n c.args.out.now) / width shape = sym (ap (λ (k : ℕ). k / width shape) size ∙ mul-div_cancel a.n {n = width shape} (omega arith)) in
    let end : 8 + a.n * wide.result ≡ 8 + a.n * width shape = ap (λ (k : ℕ). 8 + a.n * k) wide.ensures in
    wrote_all (records_block shape (records (shape_of c.args.form) c.args.n c.args.out.now) a.ssrc) a.out.now (count_taken shape a.n (good (goal.at.returns c).Else-not-is_count)) (omega (arith, whole (goal.at.returns c).Else-not-is_count)) (sym (whole (goal.at.returns c).Else-not-is_count))
    (block_sealed a.out.now (a.n * width shape) shape.arrivals (length (records (shape_of c.args.form) c.args.n c.args.out.now) / width shape) a.ssrc (fit (goal.at.returns c).Else-not-is_count) large c.arrivals.ensures count c.put_header.ensures end c.put_end.ensures)
