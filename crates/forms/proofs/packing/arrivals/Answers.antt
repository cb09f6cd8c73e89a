use mathlib.Core.Path.{ap, ◌∙◌}
use Prim.Native.Nat.{ℕ, ◌+◌, ◌*◌, ◌/◌}
use native.Mathlib.Nat.{div-mul-le_self, div-le_self}
use native.Mathlib.Omega.{arith}
use Rattle.format.specs.Forms.{shape_of}
use Rattle.format.specs.declared.Form.{Form}
use Rattle.forms.proofs.Packed.{most_some}
use Rattle.forms.proofs.Steps.{few_records, step_short, step_fits}
use Rattle.forms.proofs.packing.arrivals.Goals as goal

pub overflow_add-total : goal.overflow_add-total
overflow_add-total c = omega (arith, (few_records c.requires).0)

pub nonzero_div-full : goal.nonzero_div-full
nonzero_div-full c = omega (arith, c.most-most.ensures, most_some c.other.result)

pub overflow_mul-bytes : goal.overflow_mul-bytes
overflow_mul-bytes c = let a = c.args in omega (arith, (few_records c.requires).0, div-le_self (a.c.held + a.n) c.most-most.result)

pub returns-then-out-bytes : goal.returns-then-out-bytes
returns-then-out-bytes c = step_short c.requires c.args.out.now c.other.ensures c.most-most.ensures c.if-out-bytes.true

pub pack-requires : goal.pack-requires
pack-requires c =
    let most = c.most-most.ensures ∙ ap (λ (f : Form). (shape_of f).most) c.other.ensures in
    let room = ap (λ (k : ℕ). (c.args.c.held + c.args.n) / k * 512) most in
    (c.requires, omega (arith, room, c.if-out-bytes.false))

pub overflow_mul-conversion : goal.overflow_mul-conversion
overflow_mul-conversion c = let a = c.args in omega (arith, (few_records c.requires).0, div-mul-le_self (a.c.held + a.n) c.most-most.result)

pub overflow_sub-conversion : goal.overflow_sub-conversion
overflow_sub-conversion c = let a = c.args in omega (arith, div-mul-le_self (a.c.held + a.n) c.most-most.result)

pub returns : goal.returns
returns c =
    step_fits c.requires c.args.out.now c.other.ensures c.most-most.ensures c.if-out-bytes.false c.pack.ensures
