use Rattle.std.proofs.Common.{◌≡◌, ℕ, ◌/◌, ◌≤◌, length, sym, refl, ap, arith}
use Rattle.answers.proofs.Stores.{wrote_refused, wrote_short, wrote_all}
use Rattle.answers.proofs.Conditions.{was_true, was_false}
use Rattle.format.specs.Forms.{Shape, shape_of, width}
use Rattle.format.proofs.Fits.{fits, records_fit}
use Rattle.trace.proofs.Decisions.{body_refused, body_taken, BodyTaken}
use Rattle.trace.proofs.Layouts.{length-records_block, block_stored}
use Rattle.trace.specs.Layout.{records_block}
use Rattle.trace.proofs.write.write_records.Goals.{After-width, Else-not-is_body}
use Rattle.trace.proofs.write.write_records.Goals as goal

good : (c : Else-not-is_body) → BodyTaken (shape_of c.args.form) c.args.records.now
good c = body_taken (shape_of c.args.form) c.args.records.now (was_true c.is_body.ensures c.if-not-is_body.false)

few : (c : Else-not-is_body) → length c.args.records.now ≤ 502
few c = omega (arith, (good c).whole, records_fit (fits c.args.form) (good c).most)

whole : (c : Else-not-is_body) → length (records_block (shape_of c.args.form) c.args.records.now c.args.ssrc) ≡ 512
whole c = length-records_block (shape_of c.args.form) c.args.records.now c.args.ssrc (few c)

many : (c : After-width) → length c.args.records.now / c.width.result ≡ length c.args.records.now / width (shape_of c.args.form)
many c = ap (λ (w : ℕ). length c.args.records.now / w) c.width.ensures

pub returns-then-not-is_body : goal.returns-then-not-is_body
returns-then-not-is_body c = let a = c.args in wrote_refused (records_block (shape_of a.form) a.records.now a.ssrc) a.out.now (body_refused (shape_of a.form) a.records.now (was_false c.is_body.ensures c.if-not-is_body.true))

pub returns-then-out-lt-BLOCK : goal.returns-then-out-lt-BLOCK
returns-then-out-lt-BLOCK c = let a = c.args in wrote_short (records_block (shape_of a.form) a.records.now a.ssrc) a.out.now (good (goal.at.returns-then-out-lt-BLOCK c).Else-not-is_body).no_fault (omega (arith, whole (goal.at.returns-then-out-lt-BLOCK c).Else-not-is_body)) (sym (whole (goal.at.returns-then-out-lt-BLOCK c).Else-not-is_body))

pub put_header-requires : goal.put_header-requires
put_header-requires c = omega (arith, many (goal.at.put_header-requires c).After-width, (good (goal.at.put_header-requires c).Else-not-is_body).most, (fits c.args.form).few)

pub put_end-requires : goal.put_end-requires
put_end-requires c = let short = few (goal.at.put_end-requires c).Else-not-is_body in (omega (arith, short), omega (arith, c.if-out-lt-BLOCK.false))

pub returns : goal.returns
unfolding records_block
returns c =
    let a = c.args in
    let s = a.records.now in
    let shape : Shape = shape_of a.form in
    wrote_all (records_block shape s a.ssrc) a.out.now (good (goal.at.returns c).Else-not-is_body).no_fault (omega (arith, whole (goal.at.returns c).Else-not-is_body)) (sym (whole (goal.at.returns c).Else-not-is_body))
    (block_stored a.out.now s shape.arrivals (length s / width shape) a.ssrc (few (goal.at.returns c).Else-not-is_body) c.if-out-lt-BLOCK.false c.arrivals.ensures (many (goal.at.returns c).After-width) c.put_header.ensures c.put_bytes.ensures refl c.put_end.ensures)
