use mathlib.Core.Path.{◌≡◌, ◌∙◌, ap}
use Prim.Native.Nat.{◌+◌, ◌*◌, ◌^◌, min}
use native.Mathlib.Omega.{arith}
use Rattle.roots.specs.Roots.{round_trip_root, timeout_root}
use Rattle.roots.specs.FullCondition.{scaled_denominator}
use Rattle.roots.proofs.Sizes.{Parts, parts_of_lem}
use Rattle.roots.proofs.scaled_denominator.Goals.{After-timeout_root-b}
use Rattle.roots.proofs.scaled_denominator.Goals as goal

sized : (c : After-timeout_root-b) → Parts c.min-m.result c.round_trip_root-a.result c.timeout_root-b.result
sized c = parts_of_lem (omega arith) c.round_trip_root-a.ensures c.timeout_root-b.ensures

pub overflow_mul-result : goal.overflow_mul-result
overflow_mul-result c = omega (arith, (sized (goal.at.overflow_mul-result c).After-timeout_root-b).first)

pub overflow_mul-result-2 : goal.overflow_mul-result-2
overflow_mul-result-2 c = omega (arith, (sized (goal.at.overflow_mul-result-2 c).After-timeout_root-b).root)

pub returns : goal.returns
unfolding scaled_denominator
returns c =
    let m = c.min-m.result in
    let k = min c.args.n 1024 in
    let same : m ≡ k = c.min-m.ensures in
    let inside : min m 1024 ≡ k = omega arith in
    let a = c.round_trip_root-a.ensures ∙ ap round_trip_root inside in
    let b = c.timeout_root-b.ensures ∙ ap timeout_root inside in
    λ i. a i * 2 ^ 30 + 12 * b i * same i * (2 ^ 20 + 32 * same i * same i)
