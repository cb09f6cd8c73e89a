-- What the private functions ask and promise. No public call and no theorem cites this file.
use Rattle.breaker.specs.declared.Answer.{Answer}
use Rattle.std.specs.Prelude.{◌≡◌, Bool, true, false, ◌&&◌, not, cond, List, ℕ, ◌*◌, ◌<◌, ◌≤◌, ltb, Option, Some, None}
use Rattle.breaker.specs.declared.Reason.TheVariants.{Congestion}
use Rattle.breaker.specs.declared.State.TheVariants.{Running}
use Rattle.breaker.specs.declared.Interval.{Interval}
use Rattle.breaker.specs.declared.intervals.Sums.{Sums}
use Rattle.breaker.specs.declared.Window.{Window}
use Rattle.breaker.specs.declared.Breaker.{Breaker}
use Rattle.breaker.specs.declared.Report.{Report}
use Rattle.breaker.specs.declared.Step.{Step}
use Rattle.breaker.specs.Answers.{answers, goes, reduces, stops}
use Rattle.breaker.specs.Calls.{opened}
use Rattle.breaker.specs.Limits.{report_ok}
use Rattle.breaker.specs.Windows.{empty_window, fraction_ok, length_ok, W, P}
use Rattle.breaker.specs.Rules.{stored, holds}
use Rattle.breaker.specs.Soundness.{sound}

-- ---- intervals

-- an interval in its limits
abbrev pub interval_ok : Interval → Bool
interval_ok x = length_ok x && fraction_ok x

-- both sums
abbrev pub sums_of : List Interval → Sums
sums_of xs = record { w = W xs; p = P xs }

-- the sums of 1 to 32 intervals in their limits
pub record SumsOk (s : Sums) : Type 0 where
  pub some : 0 < s.w
  pub few : s.w ≤ 320000000
  pub share : s.p ≤ 255 * s.w

-- ---- the opening of a call: its answer, whatever would follow, or a record that is sound and runs

abbrev pub Opens : Breaker → Option Answer → Type 0
Opens b (Some answer) = (next : Step) → answers answer b ≡ opened b next
Opens b None = (sound b ≡ true) × (b.state ≡ Running)

-- ---- the rules

-- a report that is not refused, of a breaker that runs
pub record Accepted (b : Breaker) (r : Report) : Type 0 where
  pub is_sound : sound b ≡ true
  pub running : b.state ≡ Running
  pub in_limits : report_ok r ≡ true
  pub later : b.last < r.time
  pub not_before : b.heard ≤ r.time

-- the congestion rule with the media run and the window as the program has them
unfoldable pub tested : Breaker → Report → ℕ → Window → Step
tested b r run w =
    cond (ltb w.used b.settings.k) (goes (stored b r run b.trial w))
    (cond (not (holds b.settings w r)) (goes (stored b r run false w))
    (cond (b.settings.reduce && not b.trial) (reduces (stored b r run true empty_window))
    (stops Congestion b)))
