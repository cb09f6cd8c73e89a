-- Document 01, "The breaker", and 02, requests L2, L4 and L9: the rules for a report that is not refused.
use Rattle.std.specs.Prelude.{Bool, true, false, ◌&&◌, ◌||◌, not, cond, List, ℕ, ◌+◌, ◌-◌, ◌^◌, min, leb, ltb, eqb, take}
use Rattle.numbers.specs.Since.{since}
use Rattle.breaker.specs.declared.Reason.TheVariants.{Timeout, Media, Congestion}
use Rattle.breaker.specs.declared.Settings.{Settings}
use Rattle.breaker.specs.declared.Interval.{Interval}
use Rattle.breaker.specs.declared.Window.{Window}
use Rattle.breaker.specs.declared.Breaker.{Breaker}
use Rattle.breaker.specs.declared.Report.{Report}
use Rattle.breaker.specs.declared.Step.{Step}
use Rattle.breaker.specs.Answers.{goes, reduces, stops}
use Rattle.breaker.specs.FractionLost.{fraction_of}
use Rattle.breaker.specs.Windows.{empty_window, pushed, W, P}
use Rattle.breaker.specs.Condition.{condition_by}

-- a report neither refused nor stopped stores its time and number; t is measured from its time too
abbrev pub stored : Breaker → Report → ℕ → Bool → Window → Breaker
stored b r run trial w =
    record {
      settings = b.settings;
      state = b.state;
      last = r.time;
      heard = r.time;
      reported = true;
      highest = r.highest;
      run = run;
      trial = trial;
      window = w;
    }

-- t ms or more after the last report, heard packet or start
abbrev pub late : Breaker → ℕ → Bool
late b time = leb b.settings.timeout (time - b.heard)

-- not ahead of the last one: the difference modulo 2^32 is 0 or at least 2^31
abbrev pub not_ahead : ℕ → ℕ → Bool
not_ahead number last = eqb (since 32 number last) 0 || leb (2 ^ 31) (since 32 number last)

-- the media run with this report; the first report after a start has nothing to compare
unfoldable pub run_after : Breaker → Report → ℕ
run_after b r = cond (not b.reported) 0 (cond (not_ahead r.highest b.highest) (b.run + 1) 0)

-- the interval that this report closes: its length is the time since the last report, and one longer than 10,000,000 ms is stored as that
abbrev pub closed : Breaker → Report → Interval
closed b r = record { length = min (r.time - b.last) 10000000; fraction = fraction_of r.loss }

-- the window with that interval
unfoldable pub window_after : Breaker → Report → Window
window_after b r = pushed b.settings.k (closed b r) b.window

-- the last k intervals of a window
abbrev pub last_intervals : Settings → Window → List Interval
last_intervals s w = take s.k w.intervals

-- the condition over them, with this report's rate, Tr and s
unfoldable pub holds : Settings → Window → Report → Bool
holds s w r = condition_by s.full r.rate r.rtt (P (last_intervals s w)) r.size (W (last_intervals s w))

-- the rules in their order, given whether the report is late, and the window with the interval that it closes
unfoldable pub ruled_by : Bool → Window → Breaker → Report → Step
ruled_by isLate w b r =
    -- rate 0 empties the window and sets the media run to 0
    cond (eqb r.rate 0) (goes (stored b r 0 b.trial empty_window))
    (cond isLate (stops Timeout b)
    -- the media run is at m
    (cond (leb b.settings.m (run_after b r)) (stops Media b)
    -- the first report after a start closes no interval
    (cond (not b.reported) (goes (stored b r (run_after b r) b.trial b.window))
    -- fewer than k intervals: no test
    (cond (ltb w.used b.settings.k) (goes (stored b r (run_after b r) b.trial w))
    -- a test where the condition does not hold ends a trial
    (cond (not (holds b.settings w r)) (goes (stored b r (run_after b r) false w))
    -- a reduction is allowed and none is under trial: a trial begins, with an empty window
    (cond (b.settings.reduce && not b.trial) (reduces (stored b r (run_after b r) true empty_window))
    (stops Congestion b)))))))

-- so for this report
unfoldable pub ruled : Breaker → Report → Step
ruled b r = ruled_by (late b r.time) (window_after b r) b r
