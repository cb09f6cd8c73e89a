-- Many calls on one lent record, each on the words that the one before left (include/flasknib.h, "one RTP source" and "the circuit breaker").
use Rattle.std.specs.Prelude.{◌≡◌, Bool, true, List, [], ◌∷◌, ◌++◌, map, ℕ, ltb, replicate}
use Rattle.answers.specs.Conditions.{all}
use Rattle.source.specs.declared.Source.{Source}
use Rattle.source.specs.declared.Arrival.{Arrival}
use Rattle.source.specs.Record.{fresh_record, sound, wire_number}
use Rattle.source.specs.Arrivals.{arrival, after}
use Rattle.breaker.specs.declared.Settings.{Settings}
use Rattle.breaker.specs.declared.Breaker.{Breaker}
use Rattle.breaker.specs.declared.Loss.TheVariants.{Fraction}
use Rattle.breaker.specs.Calls.{start_of, preset}
use Rattle.breaker.specs.Runs.{Call, report, tick, heard, called, answers_of, after as afterCalls}
use Rattle.breaker.specs.Theorems.{Typed, number_fits}
use Rattle.lent.specs.SourceWords.{source_words}
use Rattle.lent.specs.BreakerWords.{breaker_words, breaker_of}
use Rattle.capi.specs.OneSource.{arrival_code, arrive_answer, arrive_words}
use Rattle.capi.specs.BreakerCalls.{answer_code, is_record, call_answer, call_left}

-- ---- arrivals: the wire number and the mark of each call

unfoldable pub arrive_chain : List ℕ → List (ℕ × ℕ) → List ℕ
arrive_chain words [] = words
arrive_chain words (c ∷ cs) = arrive_chain (arrive_words words c.0 c.1) cs

unfoldable pub arrive_codes : List ℕ → List (ℕ × ℕ) → List ℕ
arrive_codes words [] = []
arrive_codes words (c ∷ cs) = arrive_answer words c.0 c.1 ∷ arrive_codes (arrive_words words c.0 c.1) cs

-- the same calls on a record
abbrev pub arrives : Source → ℕ × ℕ → Arrival
arrives s c = arrival s (record { 0 = c.0 }) c.1

unfoldable pub after_arrivals : Source → List (ℕ × ℕ) → Source
after_arrivals s [] = s
after_arrivals s (c ∷ cs) = after_arrivals (after (arrives s c)) cs

unfoldable pub arrival_codes : Source → List (ℕ × ℕ) → List ℕ
arrival_codes s [] = []
arrival_codes s (c ∷ cs) = arrival_code (arrives s c) ∷ arrival_codes (after (arrives s c)) cs

-- a wire number has 16 bits, as its type says
abbrev pub wire_fits : ℕ × ℕ → Bool
wire_fits c = ltb c.0 65536

-- the words at the end are those of the record at the end, and the answers are its answers
pub record ArriveChain (words : List ℕ) (s : Source) (calls : List (ℕ × ℕ)) : Type 0 where
  pub left : arrive_chain words calls ≡ source_words (after_arrivals s calls)
  pub answers : arrive_codes words calls ≡ arrival_codes s calls

abbrev pub ArrivesInTurn : Type 0
ArrivesInTurn =
    (s : Source) (calls : List (ℕ × ℕ)) → sound s ≡ true → wire_number s.remembered ≡ true → all (map wire_fits calls) ≡ true
    → ArriveChain (source_words s) s calls

-- ten words 0 are the fresh record's
abbrev pub ArrivesFromZero : Type 0
ArrivesFromZero = (calls : List (ℕ × ℕ)) → all (map wire_fits calls) ≡ true → ArriveChain (replicate 10 0) fresh_record calls

-- such a list, with a jump and a restart
abbrev pub some_arrivals : List (ℕ × ℕ)
some_arrivals = (65534, 2) ∷ (5000, 2) ∷ (5001, 3) ∷ (9000, 1) ∷ []

pub record SomeArrivals : Type 0 where
  pub fit : all (map wire_fits some_arrivals) ≡ true
  pub answers : arrive_codes (replicate 10 0) some_arrivals ≡ 0 ∷ 7 ∷ 128 ∷ 7 ∷ []
  pub left : arrive_chain (replicate 10 0) some_arrivals ≡ 5001 ∷ 5001 ∷ 0 ∷ 0 ∷ 0 ∷ 1 ∷ 0 ∷ 1 ∷ 0 ∷ 9002 ∷ []
  pub sound : sound (after_arrivals fresh_record some_arrivals) ≡ true
  pub typed : wire_number (after_arrivals fresh_record some_arrivals).remembered ≡ true

-- ---- a breaker's reports, ticks and heard packets

unfoldable pub breaker_chain : List ℕ → List Call → List ℕ
breaker_chain words [] = words
breaker_chain words (c ∷ cs) = breaker_chain (call_left c words) cs

unfoldable pub breaker_codes : List ℕ → List Call → List ℕ
breaker_codes words [] = []
breaker_codes words (c ∷ cs) = call_answer c words ∷ breaker_codes (call_left c words) cs

-- the words at the end are those of the record at the end, and the answers are its answers
pub record BreakerChain (b : Breaker) (calls : List Call) : Type 0 where
  pub left : breaker_chain (breaker_words b) calls ≡ breaker_words (afterCalls b calls)
  pub answers : breaker_codes (breaker_words b) calls ≡ map answer_code (answers_of b calls)

abbrev pub CalledInTurn : Type 0
CalledInTurn = (b : Breaker) (calls : List Call) → Typed b → all (map number_fits calls) ≡ true → BreakerChain b calls

-- the words of a start are such a record's
abbrev pub CalledFromStart : Type 0
CalledFromStart = (s : Settings) (time : ℕ) (calls : List Call) → all (map number_fits calls) ≡ true → BreakerChain (start_of s time).breaker calls

-- such a list, with a report in its middle that is not later than the last, and a packet heard after which the timeout begins anew
abbrev pub report_at : ℕ → ℕ → Call
report_at time highest = report (record { time = time; highest = highest; loss = Fraction 20; rtt = 100; size = 1000; rate = 5000 })

abbrev pub some_calls : List Call
some_calls = report_at 1000 7 ∷ report_at 1000 8 ∷ report_at 3000 9 ∷ heard 17000 ∷ tick 18000 ∷ []

abbrev pub started : List ℕ
started = breaker_words (start_of preset 0).breaker

-- the record of the first two reports, and the words that a timeout leaves
abbrev pub reported : Breaker
reported = afterCalls (start_of preset 0).breaker (report_at 1000 7 ∷ report_at 3000 9 ∷ [])

abbrev pub stopped : List ℕ
stopped = call_left (tick 15000) started

pub record SomeCalls : Type 0 where
  pub begun : is_record started ≡ true
  pub fit : all (map number_fits some_calls) ≡ true
  pub answers : breaker_codes started some_calls ≡ 0 ∷ 523 ∷ 0 ∷ 0 ∷ 0 ∷ []
  pub left : breaker_chain started some_calls
      ≡ (3 ∷ 3 ∷ 15000 ∷ 0 ∷ 0 ∷ 0 ∷ 3000 ∷ 17000 ∷ 1 ∷ 9 ∷ 0 ∷ 0 ∷ 1 ∷ 2000 ∷ 20 ∷ []) ++ replicate 62 0
  pub typed : Typed reported
  -- a call on a stopped breaker answers the stop and hands the record back as it was
  pub stop : call_answer (report_at 16000 7) stopped ≡ 257
  pub same : (called (breaker_of stopped) (report_at 16000 7)).breaker ≡ breaker_of stopped
