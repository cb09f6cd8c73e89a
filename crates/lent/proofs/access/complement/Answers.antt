use Prim.Native.Nat.{◌^◌}
use native.Mathlib.Omega.{arith}
use lib.Dec.{T}
use lib.Signed.{non_neg}
use Rattle.numbers.proofs.Signed.{Negative, negative, not_negative, natural_cast, turned_cast, turned_less, negative_modulo, natural_modulo}
use Rattle.lent.proofs.access.complement.Goals.{Else-z-lt0, Then-z-lt0}
use Rattle.lent.proofs.access.complement.Goals as goal

known : (c : Then-z-lt0) → Negative c.args.z
known c = negative c.args.z c.ranges.z c.if-z-lt0.true

natural : (c : Else-z-lt0) → T (non_neg c.args.z)
natural c = not_negative c.args.z c.ranges.z c.if-z-lt0.false

pub overflow_add-below : goal.overflow_add-below
overflow_add-below c = (known (goal.at.overflow_add-below c).Then-z-lt0).plus_fits

pub overflow_sub-below : goal.overflow_sub-below
overflow_sub-below c = (known (goal.at.overflow_sub-below c).Then-z-lt0).minus_fits

pub overflow_cast-below : goal.overflow_cast-below
overflow_cast-below c = turned_cast (known (goal.at.overflow_cast-below c).Then-z-lt0)

pub overflow_sub-result : goal.overflow_sub-result
overflow_sub-result c = omega (arith, (known (goal.at.overflow_sub-result c).Then-z-lt0).small, turned_less (known (goal.at.overflow_sub-result c).Then-z-lt0))

pub returns-then-z-lt0 : goal.returns-then-z-lt0
returns-then-z-lt0 c =
    let k = known (goal.at.returns-then-z-lt0 c).Then-z-lt0 in
    let e = turned_less k in
    negative_modulo k (2 ^ 64) (omega (arith, k.small)) (omega arith)

pub overflow_cast-result : goal.overflow_cast-result
overflow_cast-result c = natural_cast c.args.z c.ranges.z (natural (goal.at.overflow_cast-result c).Else-z-lt0)

pub returns : goal.returns
returns c =
    let f = natural_cast c.args.z c.ranges.z (natural (goal.at.returns c).Else-z-lt0) in
    natural_modulo (2 ^ 64) c.args.z c.ranges.z (natural (goal.at.returns c).Else-z-lt0) (omega (arith, f.1.fits))
