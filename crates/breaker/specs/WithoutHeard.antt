-- Document 01, "The breaker", as it was before request L4 brought heard packets: the timeout and the refusal 11 go by the last report or start, and
-- a stored length is the time since then, at most 599,999 ms.
use Rattle.std.specs.Prelude.{Bool, true, false, ◌&&◌, not, cond, List, [], ◌∷◌, map, ℕ, ◌-◌, leb, ltb}
use Rattle.answers.specs.Conditions.{all}
use Rattle.answers.specs.declared.Refusal.TheVariants.{Malformed, Limits, Time}
use Rattle.breaker.specs.declared.Reason.TheVariants.{Timeout}
use Rattle.breaker.specs.declared.Interval.{Interval}
use Rattle.breaker.specs.declared.Window.{Window}
use Rattle.breaker.specs.declared.Breaker.{Breaker}
use Rattle.breaker.specs.declared.Report.{Report}
use Rattle.breaker.specs.declared.Answer.{Answer}
use Rattle.breaker.specs.declared.Step.{Step}
use Rattle.breaker.specs.Answers.{goes, refuses, stops}
use Rattle.breaker.specs.Limits.{time_ok, report_ok}
use Rattle.breaker.specs.FractionLost.{fraction_of}
use Rattle.breaker.specs.Windows.{pushed, in_use}
use Rattle.breaker.specs.Soundness.{sound}
use Rattle.breaker.specs.Rules.{ruled_by}
use Rattle.breaker.specs.Calls.{unless_stopped}
use Rattle.breaker.specs.Runs.{Call, report, tick, heard}

-- a record was sound with lengths to 599,999 alone (it had no time held; here that is the last report's or the start's)
abbrev pub short_ok : Interval → Bool
short_ok x = leb x.length 599999

unfoldable pub sound_before : Breaker → Bool
sound_before b = sound b && all (map short_ok (in_use b.window))

-- 9, then stopped
abbrev pub opened_before : Breaker → Step → Step
opened_before b next = cond (not (sound_before b)) (refuses Malformed b) (unless_stopped b.state b next)

-- t ms or more after the last report or start
abbrev pub late_before : Breaker → ℕ → Bool
late_before b time = leb b.settings.timeout (time - b.last)

-- the window with the interval that this report closes, its length the time since the last report
abbrev pub window_before : Breaker → Report → Window
window_before b r = pushed b.settings.k (record { length = r.time - b.last; fraction = fraction_of r.loss }) b.window

-- 9, stopped, 10, 11, and the rules in order, or the timeout; there was no heard call
unfoldable pub called_before : Breaker → Call → Step
called_before b (report r) =
    opened_before b
    (cond (not (report_ok r)) (refuses Limits b)
    (cond (leb r.time b.last) (refuses Time b)
    (ruled_by (late_before b r.time) (window_before b r) b r)))
called_before b (tick time) =
    opened_before b
    (cond (not (time_ok time)) (refuses Limits b)
    (cond (ltb time b.last) (refuses Time b)
    (cond (late_before b time) (stops Timeout b)
    (goes b))))
called_before b (heard time) = goes b

unfoldable pub answers_before : Breaker → List Call → List Answer
answers_before b [] = []
answers_before b (c ∷ cs) = (called_before b c).answer ∷ answers_before (called_before b c).breaker cs

-- a call that is none of a heard packet
abbrev pub no_heard : Call → Bool
no_heard (report r) = true
no_heard (tick time) = true
no_heard (heard time) = false
