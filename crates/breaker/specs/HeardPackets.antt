-- Document 02, request L4: what a heard packet changes, and what it does not.
use Rattle.std.specs.Prelude.{◌≡◌, Bool, true, false, not, ◌||◌, List, [], ◌∷◌, ◌++◌, map, ℕ, ◌-◌, ◌*◌, ◌≤◌, eqb, length, get_or}
use Rattle.answers.specs.Conditions.{all}
use Rattle.answers.specs.Refusals.{number_of}
use Rattle.breaker.specs.declared.Settings.{Settings}
use Rattle.breaker.specs.declared.Reason.TheVariants.{Timeout}
use Rattle.breaker.specs.declared.Loss.TheVariants as loss
use Rattle.breaker.specs.declared.Breaker.{Breaker}
use Rattle.breaker.specs.declared.Report.{Report}
use Rattle.breaker.specs.declared.Answer.{Answer}
use Rattle.breaker.specs.declared.Answer.TheVariants.{Go, Reduce, Stop, Refused}
use Rattle.breaker.specs.Answers.{reason_number}
use Rattle.breaker.specs.Windows.{zero_interval}
use Rattle.breaker.specs.Rules.{closed}
use Rattle.breaker.specs.Calls.{start_of, holding, heard_of}
use Rattle.breaker.specs.Runs.{Call, report, tick, heard, called, answers_of, after}
use Rattle.breaker.specs.WithoutHeard.{sound_before, called_before, answers_before, no_heard}

-- ---- what it changes: the time held, from which t is measured

abbrev pub HeardHolds : Type 0
HeardHolds = (b : Breaker) (time : ℕ) → (heard_of b time).answer ≡ Go → (heard_of b time).breaker ≡ holding b time

-- an answer that does not go by the time held: it is neither 9 (that time may be out of its limit), nor 11, nor the timeout
abbrev pub untimed : Answer → Bool
untimed Go = true
untimed Reduce = true
untimed (Stop reason) = not (eqb (reason_number reason) 1)
untimed (Refused refusal) = not (eqb (number_of refusal) 9 || eqb (number_of refusal) 11)

-- The congestion rule and the media rule do not see it: two records that differ in the time held alone give the same answers to the same calls,
-- and differ in nothing else afterwards, while neither gives an answer that goes by that time.
abbrev pub HeardUnseen : Type 0
HeardUnseen =
    (b : Breaker) (x y : ℕ) (calls : List Call)
    → all (map untimed (answers_of (holding b x) calls)) ≡ true
    → all (map untimed (answers_of (holding b y) calls)) ≡ true
    → (answers_of (holding b x) calls ≡ answers_of (holding b y) calls) × (holding (after (holding b x) calls) 0 ≡ holding (after (holding b y) calls) 0)

-- ---- without it all is as before

-- a record of a run that has heard no packet
pub record Unheard (b : Breaker) : Type 0 where
  pub is_sound : sound_before b ≡ true
  pub held : b.heard ≡ b.last
  pub places : length b.window.intervals ≡ 32

-- a report and a tick answer as before, with the same next record, which has heard no packet either
abbrev pub CallAsBefore : Type 0
CallAsBefore = (b : Breaker) (c : Call) → no_heard c ≡ true → Unheard b → (called b c ≡ called_before b c) × Unheard (called b c).breaker

-- so every run without heard calls answers as before
abbrev pub RunAsBefore : Type 0
RunAsBefore =
    (s : Settings) (time : ℕ) (calls : List Call) → (start_of s time).answer ≡ Go → all (map no_heard calls) ≡ true
    → answers_of (start_of s time).breaker calls ≡ answers_before (start_of s time).breaker calls

-- ---- long intervals

-- an interval of 10,000,000 ms or more is stored as that, a shorter one as it is
pub record StoredLength (b : Breaker) (r : Report) : Type 0 where
  pub long : 10000000 ≤ r.time - b.last → (closed b r).length ≡ 10000000
  pub short : r.time - b.last ≤ 10000000 → (closed b r).length ≡ r.time - b.last

abbrev pub LongIsCut : Type 0
LongIsCut = (b : Breaker) (r : Report) → StoredLength b r

-- two reports 11,000,000 ms apart with a packet heard every 500,000 ms between them, and the same without
abbrev pub report_at : ℕ → Call
report_at time = report (record { time = time; highest = time; loss = loss.Fraction 0; rtt = 100; size = 1000; rate = 1000 })

abbrev pub between : List Call
between = map (λ (n : ℕ). heard (n * 500000)) (1 ∷ 2 ∷ 3 ∷ 4 ∷ 5 ∷ 6 ∷ 7 ∷ 8 ∷ 9 ∷ 10 ∷ 11 ∷ 12 ∷ 13 ∷ 14 ∷ 15 ∷ 16 ∷ 17 ∷ 18 ∷ 19 ∷ 20 ∷ 21 ∷ [])

abbrev pub begun : Breaker
begun = (start_of (record { k = 3; m = 3; timeout = 600000; reduce = false; full = false }) 0).breaker

pub record LongInterval : Type 0 where
  pub heard : (get_or (after begun (report_at 1 ∷ between ++ (report_at 11000001 ∷ []))).window.intervals 0 zero_interval).length ≡ 10000000
  pub unheard : answers_of begun (report_at 1 ∷ report_at 11000001 ∷ []) ≡ Go ∷ Stop Timeout ∷ []

-- HeardUnseen's hypotheses can be met: a report, a tick and another report, with two times held
abbrev pub three_calls : List Call
three_calls = report_at 1 ∷ tick 2000 ∷ report_at 3000 ∷ []

pub record SomeUnseen : Type 0 where
  pub first : all (map untimed (answers_of (holding begun 0) three_calls)) ≡ true
  pub second : all (map untimed (answers_of (holding begun 1) three_calls)) ≡ true
