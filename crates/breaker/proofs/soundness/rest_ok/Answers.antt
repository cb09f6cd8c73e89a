use Rattle.std.proofs.Common.{◌≡◌, ◌≤◌, List, length, rules, tests, arith, ap, ◌∙◌}
use mathlib.Core.List.{map}
use Rattle.std.specs.List.{between}
use Rattle.std.proofs.lemmas.Iterator.{YieldsList-from_slice}
use Rattle.std.proofs.lemmas.Iterator.Search.{all_from_yields_List}
use Rattle.std.proofs.lemmas.Slice.{between_to_end}
use Rattle.answers.specs.Conditions.{all}
use Rattle.breaker.specs.declared.Interval.{Interval}
use Rattle.breaker.specs.Windows.{is_zero}
use Rattle.breaker.proofs.Places.{all_is, length-mapped}
use Rattle.breaker.proofs.soundness.rest_ok.Goals.{Start}
use Rattle.breaker.proofs.soundness.rest_ok.Goals as goal

long : (c : Start) → length c.args.window.intervals ≡ 32
long c = search (rules, length-mapped)

pub returns : goal.returns
returns c =
    let w = c.args.window in
    let e : length w.intervals ≤ 32 = omega (arith, long (goal.at.returns c).Start) in
    let xs = between w.used 32 w.intervals in
    all_from_yields_List is_zero _ _ _ c.all.ensures.ran (YieldsList-from_slice xs cc) (λ x b q k. search (rules, tests)) ∙ all_is is_zero xs
    ∙ ap (λ (l : List Interval). all (map is_zero l)) (between_to_end w.intervals w.used 32 e)
