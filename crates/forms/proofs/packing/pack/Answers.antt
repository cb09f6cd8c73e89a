use mathlib.Core.Path.{◌≡◌, ap, ◌∙◌}
use mathlib.Core.List.{List}
use Prim.Native.Nat.{ℕ, ◌+◌, ◌-◌, ◌*◌, ◌/◌, ◌≤◌, ◌<◌}
use native.Mathlib.Omega.{arith}
use lib.ListN.{length, drop}
use lib.Seq.{sets}
use Rattle.numbers.proofs.BigEndian.{Octets}
use Rattle.format.specs.Forms.{Shape, shape_of, width}
use Rattle.format.specs.declared.Form.{Form}
use Rattle.trace.specs.Contents.{good_records}
use Rattle.trace.specs.Layout.{records_bytes}
use Rattle.trace.specs.Theorems.{records_in}
use Rattle.trace.specs.declared.Record.{Record}
use Rattle.trace.proofs.Decisions.{part_tail}
use Rattle.forms.specs.Packing.{full_blocks}
use Rattle.forms.specs.Conversions.{to_shape}
use Rattle.forms.specs.Steps.{joined}
use Rattle.forms.proofs.Held.{is_sound_lem}
use Rattle.forms.proofs.Packed.{most_some}
use Rattle.forms.proofs.Parting.{all_fit, none_stored, all_kept, taken_is, blocks_hold, blocks_most, taken_fit, front_ready, rest_good, rest_long, rest_fit, full_stored, rest_left}
use Rattle.forms.proofs.Steps.{few_records}
use Rattle.forms.proofs.packing.pack.Goals.{After-most-most, After-width, After-width-2, Else-full-eq0}
use Rattle.forms.proofs.packing.pack.Goals as goal

most_is : (c : After-most-most) → c.most-most.result ≡ (to_shape c.args.c).most
most_is c = c.most-most.ensures ∙ ap (λ (f : Form). (shape_of f).most) c.other-to.ensures

pub overflow_add-full : goal.overflow_add-full
overflow_add-full c = omega (arith, (few_records c.requires.0).0)

pub nonzero_div-full : goal.nonzero_div-full
nonzero_div-full c = omega (arith, c.most-most.ensures, most_some c.other-to.result)

-- ---- no block is full

wide : (c : After-width) → c.width.result ≡ width (to_shape c.args.c)
wide c = c.width.ensures ∙ ap (λ (f : Form). width (shape_of f)) c.other-to.ensures

at-is : (c : After-width) → c.args.c.held * c.width.result ≡ c.args.c.held * width (to_shape c.args.c)
at-is c = ap (λ (k : ℕ). c.args.c.held * k) (wide c)

pub overflow_mul-c : goal.overflow_mul-c
overflow_mul-c c = omega (arith, at-is (goal.at.overflow_mul-c c).After-width, all_fit c.requires.0 (most_is (goal.at.overflow_mul-c c).After-most-most) c.if-full-eq0.true)

pub put_records-requires : goal.put_records-requires
put_records-requires c = (c.requires.0.good, c.requires.0.long, omega (arith, at-is (goal.at.put_records-requires c).After-width, all_fit c.requires.0 (most_is (goal.at.put_records-requires c).After-most-most) c.if-full-eq0.true))

pub returns-then-full-eq0 : goal.returns-then-full-eq0
returns-then-full-eq0 c =
    let octets : Octets c.args.part.now = λ i. omega (arith, c.slice_known-1.given i) in
    let none = c.if-full-eq0.true in
    record {
      stores = none_stored c.requires.0 (most_is (goal.at.returns-then-full-eq0 c).After-most-most) none c.args.c.ssrc c.args.out.now;
      keeps = all_kept c.requires.0 (most_is (goal.at.returns-then-full-eq0 c).After-most-most) none octets (at-is (goal.at.returns-then-full-eq0 c).After-width) c.put_records.ensures;
    }

-- ---- some are

some : (c : Else-full-eq0) → 0 < (c.args.c.held + c.args.n) / c.most-most.result
some c = omega (arith, c.if-full-eq0.false)

pub overflow_mul-taken : goal.overflow_mul-taken
overflow_mul-taken c = omega (arith, blocks_most c.requires.0 (most_is (goal.at.overflow_mul-taken c).After-most-most) (some (goal.at.overflow_mul-taken c).Else-full-eq0), (few_records c.requires.0).0)

pub overflow_sub-taken : goal.overflow_sub-taken
overflow_sub-taken c = blocks_hold c.requires.0 (most_is (goal.at.overflow_sub-taken c).After-most-most) (some (goal.at.overflow_sub-taken c).Else-full-eq0)

abbrev taken_by : ℕ → ℕ → ℕ → ℕ
taken_by held n most = (held + n) / most * most - held

abbrev taken : (c : Else-full-eq0) → ℕ
taken c = taken_by c.args.c.held c.args.n c.most-most.result

from_is : (c : After-width-2) → taken_by c.args.c.held c.args.n c.most-most.result * c.width-2.result ≡ taken_by c.args.c.held c.args.n c.most-most.result * width (shape_of c.args.c.form)
from_is c = ap (λ (k : ℕ). taken_by c.args.c.held c.args.n c.most-most.result * k) c.width-2.ensures

from-fit : (c : After-width-2) → taken_by c.args.c.held c.args.n c.most-most.result * c.width-2.result ≤ length c.args.body.now
from-fit c =
    let most = c.most-most.ensures ∙ ap (λ (f : Form). (shape_of f).most) c.other-to.ensures in
    omega (arith, from_is c, taken_fit c.requires.0 most (omega (arith, c.if-full-eq0.false)))

pub overflow_mul-from : goal.overflow_mul-from
overflow_mul-from c = omega (arith, from-fit (goal.at.overflow_mul-from c).After-width-2)

pub write_full-requires : goal.write_full-requires
write_full-requires c =
    let m = most_is (goal.at.write_full-requires c).After-most-most in
    let room = ap (λ (k : ℕ). (c.args.c.held + c.args.n) / k * 512) m in
    (omega (arith, (is_sound_lem c.requires.0.whole).few), rw (taken_is c.requires.0 m (some (goal.at.write_full-requires c).Else-full-eq0)) (front_ready c.requires.0 m (some (goal.at.write_full-requires c).Else-full-eq0)), omega (arith, room, c.requires.1))

pub overflow_sub-n : goal.overflow_sub-n
overflow_sub-n c = omega (arith, blocks_most c.requires.0 (most_is (goal.at.overflow_sub-n c).After-most-most) (some (goal.at.overflow_sub-n c).Else-full-eq0))

pub slice_bounds-put_records-count : goal.slice_bounds-put_records-count
slice_bounds-put_records-count c = from-fit (goal.at.slice_bounds-put_records-count c).After-width-2

pub slice_bounds-put_records-start : goal.slice_bounds-put_records-start
slice_bounds-put_records-start c = from-fit (goal.at.slice_bounds-put_records-start c).After-width-2

pub put_records-requires-2 : goal.put_records-requires-2
put_records-requires-2 c =
    let m = most_is (goal.at.put_records-requires-2 c).After-most-most in
    let body = c.args.body.now in
    let own : Shape = shape_of c.args.c.form in
    let left = c.args.n - taken (goal.at.put_records-requires-2 c).Else-full-eq0 in
    let from = taken (goal.at.put_records-requires-2 c).Else-full-eq0 * c.width-2.result in
    let good = ap (good_records own left) (part_tail body from) ∙ ap (λ (k : ℕ). good_records own left (drop k body)) (from_is (goal.at.put_records-requires-2 c).After-width-2) ∙ rest_good c.requires.0 m (some (goal.at.put_records-requires-2 c).Else-full-eq0) in
    let size = ap length (part_tail body from) ∙ ap (λ (k : ℕ). length (drop k body)) (from_is (goal.at.put_records-requires-2 c).After-width-2) in
    (good, omega (arith, size, rest_long c.requires.0 m (some (goal.at.put_records-requires-2 c).Else-full-eq0)), omega (arith, rest_fit c.requires.0 m (some (goal.at.put_records-requires-2 c).Else-full-eq0)))

pub returns : goal.returns
returns c =
    let m = most_is (goal.at.returns c).After-most-most in
    let body = c.args.body.now in
    let own : Shape = shape_of c.args.c.form in
    let to : Shape = to_shape c.args.c in
    let full = (c.args.c.held + c.args.n) / c.most-most.result in
    let left = c.args.n - taken (goal.at.returns c).Else-full-eq0 in
    let from = taken (goal.at.returns c).Else-full-eq0 * c.width-2.result in
    record {
      stores = c.write_full.ensures
          ∙ ap (λ (j : ℕ). sets c.args.out.now 0 (full_blocks to c.args.c.ssrc full (joined c.args.c.form c.args.c.held c.args.part.now j body))) (taken_is c.requires.0 m (some (goal.at.returns c).Else-full-eq0))
          ∙ ap (sets c.args.out.now 0) (full_stored c.requires.0 m (some (goal.at.returns c).Else-full-eq0) c.args.c.ssrc);
      keeps = c.put_records-2.ensures
          ∙ ap (λ (l : List ℕ). sets c.args.part.now 0 (records_bytes to (records_in own left l))) (part_tail body from ∙ ap (λ (j : ℕ). drop j body) (from_is (goal.at.returns c).After-width-2))
          ∙ ap (λ (l : List Record). sets c.args.part.now 0 (records_bytes to l)) (rest_left c.requires.0 m (some (goal.at.returns c).Else-full-eq0));
    }
