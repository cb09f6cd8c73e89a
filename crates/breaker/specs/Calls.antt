-- Document 01, "The breaker" and "Refusal numbers", and 02, requests L4 and L9: the calls, each with its answers in their order.
use Rattle.std.specs.Prelude.{Bool, false, ◌||◌, not, cond, ℕ, leb, ltb}
use Rattle.answers.specs.declared.Refusal.TheVariants.{Malformed, Limits, Time}
use Rattle.breaker.specs.declared.Reason.TheVariants.{Timeout}
use Rattle.breaker.specs.declared.State.{State}
use Rattle.breaker.specs.declared.State.TheVariants.{Running, Stopped}
use Rattle.breaker.specs.declared.Settings.{Settings}
use Rattle.breaker.specs.declared.Breaker.{Breaker}
use Rattle.breaker.specs.declared.Report.{Report}
use Rattle.breaker.specs.declared.Step.{Step}
use Rattle.breaker.specs.declared.Answer.TheVariants.{Stop}
use Rattle.breaker.specs.Answers.{answers, goes, refuses, stops}
use Rattle.breaker.specs.Limits.{settings_ok, time_ok, report_ok}
use Rattle.breaker.specs.Windows.{empty_window}
use Rattle.breaker.specs.Soundness.{sound}
use Rattle.breaker.specs.Rules.{late, ruled}

-- the record that a start makes
abbrev pub fresh : Settings → ℕ → Breaker
fresh s time =
    record {
      settings = s;
      state = Running;
      last = time;
      heard = time;
      reported = false;
      highest = 0;
      run = 0;
      trial = false;
      window = empty_window;
    }

-- a start that is refused, with 10, has no record: the one beside the refusal is all zero
abbrev pub unstarted : Step
unstarted = refuses Limits (fresh (record { k = 0; m = 0; timeout = 0; reduce = false; full = false }) 0)

-- 10, or Go
unfoldable pub start_of : Settings → ℕ → Step
start_of s time =
    cond (not (settings_ok s)) unstarted
    (cond (not (time_ok time)) unstarted
    (goes (fresh s time)))

-- the preset settings: k = 3, m = 3, t = 15,000 ms, no reduction, the simplified equation
abbrev pub preset : Settings
preset = record { k = 3; m = 3; timeout = 15000; reduce = false; full = false }

-- stopped stays stopped: the first reason and the same state
abbrev pub unless_stopped : State → Breaker → Step → Step
unless_stopped (Stopped reason) b next = answers (Stop reason) b
unless_stopped Running b next = next

-- every call on a record opens with 9, then stopped
abbrev pub opened : Breaker → Step → Step
opened b next = cond (not (sound b)) (refuses Malformed b) (unless_stopped b.state b next)

-- then 10, 11, and the rules in order
unfoldable pub report_of : Breaker → Report → Step
report_of b r =
    opened b
    (cond (not (report_ok r)) (refuses Limits b)
    -- 11: not later than the last report or start, or earlier than a heard packet
    (cond (leb r.time b.last) (refuses Time b)
    (cond (ltb r.time b.heard) (refuses Time b)
    (ruled b r))))

-- earlier than the last report, heard packet or start
abbrev pub early : Breaker → ℕ → Bool
early b time = ltb time b.last || ltb time b.heard

-- a call that has only a time: then 10, 11, the timeout, or Go with the record `next`
unfoldable pub timed : Breaker → ℕ → Breaker → Step
timed b time next =
    opened b
    (cond (not (time_ok time)) (refuses Limits b)
    (cond (early b time) (refuses Time b)
    (cond (late b time) (stops Timeout b)
    (goes next))))

-- a tick changes nothing else
unfoldable pub tick_of : Breaker → ℕ → Step
tick_of b time = timed b time b

-- the record with another time from which t is measured; window, run and the start of the current interval are as they were
abbrev pub holding : Breaker → ℕ → Breaker
holding b time =
    record {
      settings = b.settings;
      state = b.state;
      last = b.last;
      heard = time;
      reported = b.reported;
      highest = b.highest;
      run = b.run;
      trial = b.trial;
      window = b.window;
    }

-- a heard packet moves that time
unfoldable pub heard_of : Breaker → ℕ → Step
heard_of b time = timed b time (holding b time)
