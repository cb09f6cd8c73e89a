-- Document 02, request L13: worse loss never buys time. The fraction f of a report with ECN counts is the one that they give (request L2); the
-- settings may have either throughput equation (request L9).
use Rattle.std.specs.Prelude.{◌≡◌, Bool, true, false, List, [], ◌∷◌, ℕ, ◌*◌, ◌≤◌, pos, take}
use Rattle.breaker.specs.declared.State.{State}
use Rattle.breaker.specs.declared.State.TheVariants.{Running, Stopped}
use Rattle.breaker.specs.declared.Reason.TheVariants.{Congestion}
use Rattle.breaker.specs.declared.Settings.{Settings}
use Rattle.breaker.specs.declared.Interval.{Interval}
use Rattle.breaker.specs.declared.Breaker.{Breaker}
use Rattle.breaker.specs.declared.Loss.{Loss}
use Rattle.breaker.specs.declared.Loss.TheVariants.{Fraction, Counts}
use Rattle.breaker.specs.declared.Report.{Report}
use Rattle.breaker.specs.declared.Answer.{Answer}
use Rattle.breaker.specs.declared.Answer.TheVariants.{Go, Reduce, Stop}
use Rattle.breaker.specs.Limits.{loss_ok}
use Rattle.breaker.specs.FractionLost.{fraction_of}
use Rattle.breaker.specs.Calls.{start_of}
use Rattle.breaker.specs.Runs.{Call, report, tick, heard, answers_of, after}
use Rattle.breaker.specs.Theorems.{with_loss}

-- ---- two lists of calls

-- losses within their limits, the second's fraction at least the first's
pub record NoBetter (first second : Loss) : Type 0 where
  pub first_ok : loss_ok first ≡ true
  pub second_ok : loss_ok second ≡ true
  pub at_least : fraction_of first ≤ fraction_of second

-- calls equal in everything but the losses, which are no better in the second
pub data NoBetterCall : Call → Call → Type 0 where
  reports : (r : Report) (l m : Loss) → NoBetter l m → NoBetterCall (report (with_loss r l)) (report (with_loss r m))
  ticks : (time : ℕ) → NoBetterCall (tick time) (tick time)
  heards : (time : ℕ) → NoBetterCall (heard time) (heard time)

-- so call by call
pub data NoBetterCalls : List Call → List Call → Type 0 where
  none : NoBetterCalls [] []
  more : {c d : Call} {cs ds : List Call} → NoBetterCall c d → NoBetterCalls cs ds → NoBetterCalls (c ∷ cs) (d ∷ ds)

-- ---- the statement

abbrev pub is_stopped : State → Bool
is_stopped Running = false
is_stopped (Stopped reason) = true

-- the first n calls of a list, from a start, have stopped the breaker
abbrev pub stopped_by : Settings → ℕ → ℕ → List Call → Bool
stopped_by s time n calls = is_stopped (after (start_of s time).breaker (take n calls)).state

-- With no reduction allowed, take two runs from one start, equal in everything but the fractions lost, where each fraction in the second is at
-- least that in the first. If the first stops at some call, the second has stopped by that call.
abbrev pub WorseLossNeverBuysTime : Type 0
WorseLossNeverBuysTime =
    (s : Settings) (time n : ℕ) (first second : List Call) → (start_of s time).answer ≡ Go → s.reduce ≡ false
    → NoBetterCalls first second
    → stopped_by s time n first ≡ true
    → stopped_by s time n second ≡ true

-- ---- why it holds: the invariant

-- the same lengths place by place, the second's fractions at least the first's
pub data NoBetterPlaces : List Interval → List Interval → Type 0 where
  none : NoBetterPlaces [] []
  more : {x y : Interval} {xs ys : List Interval} → x.length ≡ y.length → x.fraction ≤ y.fraction → NoBetterPlaces xs ys
      → NoBetterPlaces (x ∷ xs) (y ∷ ys)

-- a record with other intervals
abbrev pub with_intervals : Breaker → List Interval → Breaker
with_intervals b xs =
    record {
      settings = b.settings;
      state = b.state;
      last = b.last;
      heard = b.heard;
      reported = b.reported;
      highest = b.highest;
      run = b.run;
      trial = b.trial;
      window = record { used = b.window.used; intervals = xs };
    }

-- two records equal but for the fractions in the window, and those ordered place by place
pub record InStep (first second : Breaker) : Type 0 where
  pub equal : with_intervals first second.window.intervals ≡ second
  pub ordered : NoBetterPlaces first.window.intervals second.window.intervals

-- while the second has not stopped, both have given the same answers, so the refusals fall on the same calls, and the records are in step
abbrev pub InStepUntilStopped : Type 0
InStepUntilStopped =
    (s : Settings) (time : ℕ) (first second : List Call) → (start_of s time).answer ≡ Go → s.reduce ≡ false
    → NoBetterCalls first second
    → is_stopped (after (start_of s time).breaker second).state ≡ false
    → (answers_of (start_of s time).breaker first ≡ answers_of (start_of s time).breaker second)
    × InStep (after (start_of s time).breaker first) (after (start_of s time).breaker second)

-- ---- an example: it meets the hypotheses, and shows why no reduction may be allowed

-- reports 1,000 ms apart, with which the condition of the simplified equation holds where the mean fraction is above 150 (C11)
abbrev pub report_with : ℕ → Loss → Call
report_with n l = report (record { time = n * 1000; highest = n; loss = l; rtt = 16; size = 1000; rate = 1000000 })

abbrev pub better : List Call
better =
    report_with 1 (Fraction 0) ∷ report_with 2 (Fraction 0) ∷ report_with 3 (Fraction 200) ∷ report_with 4 (Fraction 120) ∷ report_with 5 (Fraction 120)
    ∷ report_with 6 (Fraction 255)
    ∷ []

-- in the second report all packets are marked, which gives 255
abbrev pub worse : List Call
worse =
    report_with 1 (Fraction 0) ∷ report_with 2 (Counts (record { lost = pos 0; marked = 1000; expected = 1000 })) ∷ report_with 3 (Fraction 200)
    ∷ report_with 4 (Fraction 120)
    ∷ report_with 5 (Fraction 120)
    ∷ report_with 6 (Fraction 255)
    ∷ []

abbrev pub over_two : Bool → Settings
over_two reduce = record { k = 2; m = 3; timeout = 15000; reduce = reduce; full = false }

abbrev pub answers_with : Bool → List Call → List Answer
answers_with reduce calls = answers_of (start_of (over_two reduce) 0).breaker calls

pub record WorseLossExample : Type 0 where
  pub started : (start_of (over_two false) 0).answer ≡ Go
  pub no_better : NoBetterCalls better worse
  pub stopped : stopped_by (over_two false) 0 4 better ≡ true
  -- behind two calls the second has not stopped
  pub running : stopped_by (over_two false) 0 2 worse ≡ false
  -- the second stops earlier, so not at the same call
  pub first : answers_with false better ≡ Go ∷ Go ∷ Go ∷ Stop Congestion ∷ Stop Congestion ∷ Stop Congestion ∷ []
  pub second : answers_with false worse ≡ Go ∷ Go ∷ Stop Congestion ∷ Stop Congestion ∷ Stop Congestion ∷ Stop Congestion ∷ []
  -- with a reduction allowed the second is still running where the first stops: its earlier Reduce emptied the window, and the trial had ended
  pub reduced_first : answers_with true better ≡ Go ∷ Go ∷ Go ∷ Reduce ∷ Go ∷ Stop Congestion ∷ []
  pub reduced_second : answers_with true worse ≡ Go ∷ Go ∷ Reduce ∷ Go ∷ Go ∷ Reduce ∷ []
