use mathlib.Core.Path.{◌≡◌, refl, ap, ◌∙◌}
use mathlib.Core.List.{◌++◌}
use Prim.Native.Nat.{ℕ, ◌+◌, ◌-◌, ◌*◌, ◌≤◌, ◌<◌}
use native.Mathlib.Nat.{add-mul}
use native.Mathlib.Omega.{arith}
use lib.ListN.{length, drop}
use Rattle.answers.proofs.Stores.{sets-step}
use Rattle.format.specs.Forms.{shape_of, width, other_form}
use Rattle.format.specs.declared.Form.{Form}
use Rattle.trace.specs.Layout.{records_bytes}
use Rattle.trace.specs.Theorems.{records_in}
use Rattle.trace.proofs.Layouts.{length-records}
use Rattle.trace.proofs.Records.{length-records_in, bytes_append}
use Rattle.trace.proofs.Tallies.{mul_turn}
use Rattle.forms.proofs.Moved.{good_turn, records_turn, none_left}
use Rattle.forms.proofs.moving.put_records.Goals.{In-loop-i}
use Rattle.forms.proofs.moving.put_records.Goals as goal

wide : (c : In-loop-i) → c.width-step.result ≡ width (shape_of (other_form c.args.form))
wide c = c.width-step.ensures ∙ ap (λ (f : Form). width (shape_of f)) c.other.ensures

-- the first of the records that are left lies in the body and in the output
room : (c : In-loop-i)
    → (c.loop-i.i * c.width-width.result + c.width-width.result ≤ length c.args.body.now)
    × (c.args.at + c.loop-i.i * c.width-step.result + c.width-step.result ≤ length c.args.out.now)
room c =
    let a = c.args in
    let w = c.width-width.result in
    let step = c.width-step.result in
    let i = c.loop-i.i in
    let left = a.n - i in
    let turn : 0 < left = omega (arith, c.loop-i-test.true) in
    let parts : a.n ≡ i + left = omega (arith, turn) in
    let body : a.n * w ≤ length a.body.now = rw c.width-width.ensures c.requires.1 in
    let out : a.at + a.n * step ≤ length a.out.now = rw (wide c) c.requires.2 in (
      omega (arith, body, ap (λ (k : ℕ). k * w) parts, add-mul i left w, mul_turn left w turn),
      omega (arith, out, ap (λ (k : ℕ). k * step) parts, add-mul i left step, mul_turn left step turn),
    )

pub put_record-requires : goal.put_record-requires
put_record-requires c =
    let a = c.args in
    let loop = c.loop-i in
    let left = a.n - loop.i in
    let more : left ≡ 1 + (left - 1) = omega (arith, c.loop-i-test.true) in
    let fits = room (goal.at.put_record-requires c).In-loop-i in (
      (good_turn (shape_of a.form) a.body.now 1 (left - 1) (loop.i * c.width-width.result) more refl loop.invariant.4).0,
      rw (← loop.invariant.0) fits.0,
      rw (← loop.invariant.1) (omega (arith, fits.1, loop.invariant.3)),
    )

pub loop-i-preserved : goal.loop-i-preserved
loop-i-preserved c =
    let a = c.args in
    let loop = c.loop-i in
    let w = c.width-width.result in
    let step = c.width-step.result in
    let put = c.put_record in
    let from = shape_of a.form in
    let to = shape_of (other_form a.form) in
    let left = a.n - loop.i in
    let more : left ≡ 1 + (left - 1) = omega (arith, c.loop-i-test.true) in
    let less : a.n - (loop.i + 1) ≡ left - 1 = omega arith in
    let next : (loop.i + 1) * w ≡ loop.i * w + 1 * width from = omega (arith, add-mul loop.i 1 w, loop.invariant.0) in
    let first = records_in from 1 (drop (loop.i * w) a.body.now) in
    let rest = records_in from (left - 1) (drop ((loop.i + 1) * w) a.body.now) in
    let size : length (records_bytes to first) ≡ step =
    length-records to first ∙ ap (λ (k : ℕ). k * width to) (length-records_in from 1 (drop (loop.i * w) a.body.now)) ∙ omega (arith, loop.invariant.1) in
    let both : records_bytes to (records_in from left (drop (loop.i * w) a.body.now)) ≡ records_bytes to first ++ records_bytes to rest =
    ap (records_bytes to) (records_turn from a.body.now 1 (left - 1) (loop.i * w) more next) ∙ bytes_append to first rest in (
      loop.invariant.0,
      loop.invariant.1,
      omega (arith, c.loop-i-test.true),
      put.auto.out ∙ loop.invariant.3,
      rw less (good_turn from a.body.now 1 (left - 1) (loop.i * w) more next loop.invariant.4).1,
      rw less
          (sets-step loop.out (a.at + loop.i * step) (records_bytes to first) (records_bytes to rest) both put.ensures (omega (arith, size, add-mul loop.i 1 step))
          ∙ loop.invariant.5),
    )

pub returns : goal.returns
returns c =
    let a = c.args in
    let loop = c.loop-i in
    none_left (shape_of a.form) (shape_of (other_form a.form)) (drop (loop.i * c.width-width.result) a.body.now) (a.n - loop.i) (omega (arith, c.loop-i-test.false)) loop.out
    (a.at + loop.i * c.width-step.result)
    ∙ loop.invariant.5
