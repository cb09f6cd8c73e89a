-- What the breaker's functions give and leave (include/flasknib.h, "the circuit breaker"), by the words lent.
use Rattle.std.specs.Prelude.{◌≡◌, ℕ, ◌+◌, Bool, true, false, ◌&&◌, not, cond, List, leb, eqb, ℤ, length, Option, Some, None}
use Rattle.answers.specs.declared.Refusal.TheVariants.{Malformed}
use Rattle.answers.specs.Conditions.{all}
use Rattle.answers.specs.Refusals.{number_of}
use Rattle.breaker.specs.declared.Answer.{Answer}
use Rattle.breaker.specs.declared.Answer.TheVariants.{Go, Reduce, Stop, Refused}
use Rattle.breaker.specs.declared.Loss.{Loss}
use Rattle.breaker.specs.declared.Loss.TheVariants.{Counts}
use Rattle.breaker.specs.declared.Breaker.{Breaker}
use Rattle.breaker.specs.declared.Step.{Step}
use Rattle.breaker.specs.Answers.{reason_number}
use Rattle.breaker.specs.Calls.{unstarted, preset, start_of}
use Rattle.breaker.specs.Runs.{Call, report, tick, heard, called}
use Rattle.breaker.specs.Theorems.{number_fits}
use Rattle.lent.specs.BreakerWords.{breaker_words, breaker_of, words_fit}
use Rattle.capi.specs.Codes.{Leaves}

-- 0 Go, 1 Reduce, 256 and a stop's reason, 512 and a refusal's number
abbrev pub answer_code : Answer → ℕ
answer_code Go = 0
answer_code Reduce = 1
answer_code (Stop reason) = 256 + reason_number reason
answer_code (Refused refusal) = 512 + number_of refusal

abbrev pub is_refused : Answer → Bool
is_refused Go = false
is_refused Reduce = false
is_refused (Stop reason) = false
is_refused (Refused refusal) = true

-- a refused call leaves the words as they were; any other leaves those of the next record
abbrev pub left_by : Step → List ℕ → List ℕ
left_by s old = cond (is_refused s.answer) old (breaker_words s.breaker)

-- ---- flasknib_breaker_start, flasknib_breaker_start_preset

-- `reduce` and `full` are 0 or 1, else refusal 10
unfoldable pub starts : ℕ → ℕ → ℕ → ℕ → ℕ → ℕ → Step
starts k m timeout reduce full time =
    cond (not (leb reduce 1)) unstarted
    (cond (not (leb full 1)) unstarted
    (start_of (record { k = k; m = m; timeout = timeout; reduce = eqb reduce 1; full = eqb full 1 }) time))

-- another number of words than 77 is refused with 9, before everything else
unfoldable pub start_answer : Step → List ℕ → ℕ
start_answer s old = cond (eqb (length old) 77) (answer_code s.answer) (answer_code (Refused Malformed))

unfoldable pub start_left : Step → List ℕ → List ℕ
start_left s old = cond (eqb (length old) 77) (left_by s old) old

-- the step of a start: 9, its refusal; or Go and the record's 77 words
abbrev pub PutsStart : Step → List ℕ → ℕ → List ℕ → Type 0
PutsStart s old r out =
    Leaves
    (start_answer s old)
    (start_left s old)
    r out

-- "The breaker", a start: 9, 10; or Go and the record's 77 words
abbrev pub StartsBreaker : ℕ → ℕ → ℕ → ℕ → ℕ → ℕ → List ℕ → ℕ → List ℕ → Type 0
StartsBreaker k m timeout reduce full time old r out = PutsStart (starts k m timeout reduce full time) old r out

-- the same with the preset settings, of which 10 can only be of the time
abbrev pub StartsPreset : ℕ → List ℕ → ℕ → List ℕ → Type 0
StartsPreset time old r out = PutsStart (start_of preset time) old r out

-- ---- flasknib_breaker_report, flasknib_breaker_report_ecn, flasknib_breaker_tick, flasknib_breaker_heard

-- 77 words that are those of a record
abbrev pub is_record : List ℕ → Bool
is_record old = eqb (length old) 77 && all (words_fit old)

abbrev pub record_in : List ℕ → Option Breaker
record_in old = cond (is_record old) (Some (breaker_of old)) None

-- 9 where the words are no record, else the call's own answer
unfoldable pub call_answer : Call → List ℕ → ℕ
call_answer c old =
    cond (not (is_record old)) (answer_code (Refused Malformed))
    (answer_code (called (breaker_of old) c).answer)

unfoldable pub call_left : Call → List ℕ → List ℕ
call_left c old =
    cond (not (is_record old)) old
    (left_by (called (breaker_of old) c) old)

-- "The breaker": 9, the stop, 10, 11, or the rules' answer; and the next record
abbrev pub TakesCall : Call → List ℕ → ℕ → List ℕ → Type 0
TakesCall c old r out =
    Leaves
    (call_answer c old)
    (call_left c old)
    r out

-- lost, marked and expected as flasknib_breaker_report_ecn is given them
abbrev pub counts_given : ℤ → ℕ → ℕ → Loss
counts_given lost marked expected = Counts (record { lost = lost; marked = marked; expected = expected })

abbrev pub TakesReport : List ℕ → ℕ → ℕ → Loss → ℕ → ℕ → ℕ → ℕ → List ℕ → Type 0
TakesReport old time highest loss rtt size rate r out =
    TakesCall (report (record { time = time; highest = highest; loss = loss; rtt = rtt; size = size; rate = rate })) old r out

abbrev pub TakesTick : List ℕ → ℕ → ℕ → List ℕ → Type 0
TakesTick old time r out = TakesCall (tick time) old r out

abbrev pub TakesHeard : List ℕ → ℕ → ℕ → List ℕ → Type 0
TakesHeard old time r out = TakesCall (heard time) old r out

-- ---- what follows

-- a call that hands the record back as it was, as one on a stopped breaker, leaves the words as they were
abbrev pub UnchangedLeaves : Type 0
UnchangedLeaves = (c : Call) (old : List ℕ) → (called (breaker_of old) c).breaker ≡ breaker_of old → call_left c old ≡ old

-- the words that a call leaves of a record are again a record, the one that the call hands back, so that the next call goes on from there
abbrev pub NextIsRecord : Type 0
NextIsRecord =
    (c : Call) (old : List ℕ) → is_record old ≡ true → number_fits c ≡ true
    → (is_record (call_left c old) ≡ true) × (breaker_of (call_left c old) ≡ (called (breaker_of old) c).breaker)
