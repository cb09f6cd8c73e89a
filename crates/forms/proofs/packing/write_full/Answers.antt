use mathlib.Core.Path.{◌≡◌, refl, ap, ◌∙◌}
use mathlib.Core.List.{List}
use Prim.Native.Nat.{ℕ, ◌+◌, ◌-◌, ◌*◌, ◌≤◌, ◌<◌}
use native.Mathlib.Omega.{arith}
use lib.ListN.{length, drop}
use lib.Seq.{sets}
use Rattle.answers.proofs.Stores.{sets-step}
use Rattle.format.specs.Forms.{Shape, shape_of, width, other_form}
use Rattle.format.specs.declared.Form.{Form}
use Rattle.trace.specs.Layout.{arrivals_block}
use Rattle.trace.proofs.Decisions.{part_tail}
use Rattle.forms.specs.Packing.{full_blocks}
use Rattle.forms.specs.Steps.{Joinable, joined}
use Rattle.forms.proofs.Blocks.{block_fits, block_ready, others_ready, full_turn, full_done, length-full_block}
use Rattle.forms.proofs.packing.write_full.Goals.{In-loop-i}
use Rattle.forms.proofs.packing.write_full.Goals as goal

most_is : (c : In-loop-i) → c.most-most.result ≡ (shape_of (other_form c.args.form)).most
most_is c = c.most-most.ensures ∙ ap (λ (f : Form). (shape_of f).most) c.other.ensures

-- the records of the next block lie in the body
inside : (c : In-loop-i) → c.loop-i.from + (c.most-most.result - c.loop-i.first) * c.width-width.result ≤ length c.args.body.now
inside c =
    let a = c.args in
    let loop = c.loop-i in
    let left = a.n - loop.i in
    let turn : 0 < left = omega (arith, c.loop-i-test.true) in
    let fits = block_fits a.form a.part.now a.body.now loop.first left loop.from loop.invariant.2 turn loop.invariant.1 refl in
    let same : (c.most-most.result - loop.first) * c.width-width.result ≡ ((shape_of (other_form a.form)).most - loop.first) * width (shape_of a.form) = rw (most_is c, c.width-width.ensures) in
    omega (arith, fits, same, loop.invariant.3)

pub put_block-requires : goal.put_block-requires
put_block-requires c =
    let a = c.args in
    let loop = c.loop-i in
    let left = a.n - loop.i in
    let turn : 0 < left = omega (arith, c.loop-i-test.true) in
    let ready : Joinable a.form loop.first a.part.now ((shape_of (other_form a.form)).most - loop.first) (drop loop.from a.body.now) = block_ready a.form a.part.now a.body.now loop.first left loop.from loop.invariant.2 turn loop.invariant.1 refl in
    (loop.invariant.1, rw (part_tail a.body.now loop.from) ready, omega (arith, turn, loop.invariant.4))

pub overflow_sub-from : goal.overflow_sub-from
overflow_sub-from c = omega (arith, most_is (goal.at.overflow_sub-from c).In-loop-i, c.loop-i.invariant.1)

pub overflow_mul-from : goal.overflow_mul-from
overflow_mul-from c = omega (arith, inside (goal.at.overflow_mul-from c).In-loop-i)

pub overflow_add-from : goal.overflow_add-from
overflow_add-from c = omega (arith, inside (goal.at.overflow_add-from c).In-loop-i)

pub loop-i-preserved : goal.loop-i-preserved
loop-i-preserved c =
    let a = c.args in
    let loop = c.loop-i in
    let left = a.n - loop.i in
    let turn : 0 < left = omega (arith, c.loop-i-test.true) in
    let less : a.n - (loop.i + 1) ≡ left - 1 = omega arith in
    let put = c.put_block in
    let to : Shape = shape_of (other_form a.form) in
    let part = a.part.now in
    let body = a.body.now in
    let step = (c.most-most.result - loop.first) * c.width-width.result in
    let next : loop.from + step ≡ loop.from + (to.most - loop.first) * width (shape_of a.form) = rw (most_is (goal.at.loop-i-preserved c).In-loop-i, c.width-width.ensures) in
    let block : List ℕ = arrivals_block to (joined a.form loop.first part (to.most - loop.first) (drop loop.from body)) a.ssrc in
    let rest : List ℕ = full_blocks to a.ssrc (left - 1) (joined a.form 0 part ((left - 1) * to.most - 0) (drop (loop.from + step) body)) in
    let stores : put.new.out ≡ sets loop.out (loop.i * 512) block = rw (part_tail body loop.from) at put.ensures in
    let long : length block ≡ 512 = length-full_block a.form loop.first part (drop loop.from body) loop.invariant.1 a.ssrc in (
      omega (arith, turn),
      omega arith,
      rw less (others_ready a.form part body loop.first left loop.from loop.invariant.2 turn loop.invariant.1 next),
      inside (goal.at.loop-i-preserved c).In-loop-i,
      put.auto.out ∙ loop.invariant.4,
      rw less
          (sets-step loop.out (loop.i * 512) block rest (full_turn a.form part body loop.first left loop.from loop.invariant.2 turn loop.invariant.1 next a.ssrc) stores (omega (arith, long))
          ∙ loop.invariant.5),
    )

pub returns : goal.returns
returns c =
    let a = c.args in
    let loop = c.loop-i in
    let to : Shape = shape_of (other_form a.form) in
    full_done to a.ssrc (joined a.form loop.first a.part.now ((a.n - loop.i) * to.most - loop.first) (drop loop.from a.body.now)) (a.n - loop.i) (omega (arith, c.loop-i-test.false)) loop.out (loop.i * 512) ∙ loop.invariant.5
