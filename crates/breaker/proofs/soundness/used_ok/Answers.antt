use Rattle.std.proofs.Common.{rules, tests, take, ◌∙◌}
use Rattle.std.proofs.lemmas.Iterator.{YieldsList-from_slice}
use Rattle.std.proofs.lemmas.Iterator.Search.{all_from_yields_List}
use Rattle.breaker.specs.Private.{interval_ok}
use Rattle.breaker.proofs.Places.{used_limits}
use Rattle.breaker.proofs.soundness.used_ok.Goals as goal

pub returns : goal.returns
returns c =
    let xs = take c.args.window.used c.args.window.intervals in
    all_from_yields_List interval_ok _ _ _ c.all.ensures.ran (YieldsList-from_slice xs cc) (λ x b q k. search (rules, tests)) ∙ used_limits xs
