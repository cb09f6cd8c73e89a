-- Document 01, "Refusal numbers": a breaker record is sound when its settings, counts (run below m while running, window at most k),
-- fractions, times and stored lengths are in limits, and unused places are zero. The lengths go to 10,000,000 ms (document 02, request L4).
use Rattle.std.specs.Prelude.{Bool, true, ◌||◌, List, [], ◌∷◌, map, ℕ, leb, ltb, eqb}
use Rattle.answers.specs.Conditions.{all}
use Rattle.breaker.specs.declared.State.{State}
use Rattle.breaker.specs.declared.State.TheVariants.{Running, Stopped}
use Rattle.breaker.specs.declared.Breaker.{Breaker}
use Rattle.breaker.specs.Limits.{settings_ok, time_ok}
use Rattle.breaker.specs.Windows.{fraction_ok, length_ok, is_zero, in_use, unused}

-- the run is below m while running; a stopped record's run is not judged
abbrev pub run_ok : State → ℕ → ℕ → Bool
run_ok Running run m = ltb run m
run_ok (Stopped reason) run m = true

-- before the first report the number is not in use
abbrev pub number_ok : Bool → ℕ → Bool
number_ok reported highest = reported || eqb highest 0

abbrev pub conditions : Breaker → List Bool
conditions b =
    settings_ok b.settings
    ∷ run_ok b.state b.run b.settings.m
    ∷ leb b.window.used b.settings.k
    ∷ all (map fraction_ok (in_use b.window))
    ∷ time_ok b.last
    ∷ time_ok b.heard
    ∷ all (map length_ok (in_use b.window))
    ∷ all (map is_zero (unused b.window))
    ∷ number_ok b.reported b.highest
    ∷ []

unfoldable pub sound : Breaker → Bool
sound b = all (conditions b)
