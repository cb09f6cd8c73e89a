use mathlib.Core.Path.{◌∙◌}
use Prim.Native.Nat.{◌*◌, ◌≤◌}
use native.Mathlib.Nat.{mul-le-mul}
use native.Mathlib.Omega.{arith}
use lib.Dec.{ltb}
use Rattle.wide.proofs.Order.{value_of}
use Rattle.breaker.proofs.Facts.{rtt_high, size_high, rate_high}
use Rattle.breaker.proofs.Products.{fits_product, left_side, right_side}
use Rattle.breaker.proofs.equations.above_simplified.Goals as goal

pub overflow_mul-r : goal.overflow_mul-r
overflow_mul-r c =
    let r = c.args.r in
    let h = c.requires.1 in
    fits_product 125000000 60000 (rate_high r h) (rtt_high r h) tt

pub overflow_mul-r-2 : goal.overflow_mul-r-2
overflow_mul-r-2 c =
    let r = c.args.r in
    let h = c.requires.1 in
    fits_product (125000000 * 60000) 60000 (mul-le-mul (rate_high r h) (rtt_high r h)) (rtt_high r h) tt

pub overflow_mul-r-3 : goal.overflow_mul-r-3
overflow_mul-r-3 c =
    let s = c.args in
    let h = c.requires in
    let p : s.sums.p ≤ 255 * 320000000 = omega (arith, h.0.few, h.0.share) in
    fits_product 125000000 (255 * 320000000) (rate_high s.r h.1) p tt

pub overflow_mul-r-4 : goal.overflow_mul-r-4
overflow_mul-r-4 c =
    let r = c.args.r in
    let h = c.requires.1 in
    fits_product 65535 65535 (size_high r h) (size_high r h) tt

pub returns : goal.returns
returns c =
    let r = c.args.r in
    let sums = c.args.sums in
    c.above.ensures
    ∙ (λ i. ltb (value_of c.product-right.ensures i) (value_of c.product-left.ensures i))
    ∙ (λ i. ltb (right_side sums.w r.size i) (left_side r.rate r.rtt sums.p i))
