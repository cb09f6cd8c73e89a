use mathlib.Core.Path.{ap, ◌∙◌}
use mathlib.Core.List.{List, ◌∷◌, ◌++◌}
use Prim.Native.Nat.{◌-◌}
use lib.ListN.{drop, replicate}
use Rattle.breaker.specs.declared.Interval.{Interval}
use Rattle.breaker.specs.Windows.{zero_interval}
use Rattle.breaker.proofs.Places.{in_front_is}
use Rattle.breaker.proofs.intervals.in_front.Goals as goal

pub returns : goal.returns
returns c =
    let a = c.args in
    ap (λ (ys : List Interval). a.x ∷ (ys ++ drop (a.k - 1) (replicate 31 zero_interval))) c.copy_from_slice.ensures.after ∙ in_front_is a.k a.x a.xs c.requires.0 c.requires.1
