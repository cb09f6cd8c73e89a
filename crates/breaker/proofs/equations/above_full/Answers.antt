use borrow.Author.Rules.{rules}
use mathlib.Core.Path.{◌≡◌, ap, ◌∙◌}
use Prim.Native.Nat.{◌*◌, ◌≤◌, min}
use native.Mathlib.Omega.{arith}
use lib.Dec.{ltb}
use Rattle.wide.proofs.Order.{value_of}
use Rattle.roots.specs.FullCondition.{loss_of, scaled_denominator}
use Rattle.roots.proofs.Losses.{loss_at_most}
use Rattle.breaker.proofs.Facts.{rtt_high, size_high, rate_high}
use Rattle.breaker.proofs.Products.{fits_product}
use Rattle.breaker.proofs.equations.above_full.Goals as goal

pub overflow_mul-r : goal.overflow_mul-r
overflow_mul-r c =
    let r = c.args.r in
    let h = c.requires.1 in
    fits_product 125000000 60000 (rate_high r h) (rtt_high r h) tt

pub overflow_mul-r-2 : goal.overflow_mul-r-2
overflow_mul-r-2 c =
    let r = c.args.r in
    let h = c.requires.1 in
    let s : r.size ≤ 65535 = size_high r h in
    search rules

pub returns : goal.returns
returns c =
    let r = c.args.r in
    let sums = c.args.sums in
    let n = loss_of sums.p sums.w in
    let most : n ≤ 1020 = loss_at_most sums.p sums.w c.requires.0.share in
    let in_table : min n 1024 ≡ n = omega arith in
    c.above.ensures
    ∙ (λ i. ltb (value_of c.product.ensures i) (value_of c.product-left.ensures i))
    ∙ (λ i. ltb (10000 * r.size * 1125899906842624) (r.rate * r.rtt * (c.scaled_denominator.ensures ∙ ap scaled_denominator in_table) i))
