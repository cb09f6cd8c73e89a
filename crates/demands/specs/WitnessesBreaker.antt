-- The hypotheses of the theorems on the breaker and on the roots of the full equation can be met: for each of them, values that meet them all.
use Rattle.std.specs.Prelude.{◌≡◌, true, List, [], ◌∷◌, map, ◌-◌, ◌≤◌, pos, negsuc, ◌≤ℤ◌}
use Rattle.answers.specs.Conditions.{all}
use Rattle.answers.specs.declared.Refusal.TheVariants.{Time}
use Rattle.roots.specs.Fractions.{Fraction as Ratio, whole, square, ◌equals◌}
use Rattle.roots.specs.FullThroughput.{round_trip_radicand}
use Rattle.roots.specs.Roots.{Floor}
use Rattle.breaker.specs.declared.Answer.TheVariants.{Go, Stop, Refused}
use Rattle.breaker.specs.declared.Breaker.{Breaker}
use Rattle.breaker.specs.declared.EcnCounts.{EcnCounts}
use Rattle.breaker.specs.declared.Loss.TheVariants.{Fraction, Counts}
use Rattle.breaker.specs.declared.Report.{Report}
use Rattle.breaker.specs.declared.Reason.TheVariants.{Timeout}
use Rattle.breaker.specs.Limits.{loss_ok}
use Rattle.breaker.specs.Calls.{start_of, preset, holding, heard_of}
use Rattle.breaker.specs.Runs.{Call, tick, heard, called, answers_of, after}
use Rattle.breaker.specs.WithoutHeard.{no_heard}
use Rattle.breaker.specs.HeardPackets.{untimed, Unheard}
use Rattle.breaker.specs.FullEquation.{report_c10}
use Rattle.breaker.specs.Soundness.{sound}
use Rattle.breaker.specs.Theorems.{Typed, number_fits}
use Rattle.demands.specs.Examples.{report_number}

-- a breaker with an interval in its window, and a report at the time of its last
abbrev pub reported : Breaker
reported = after (start_of preset 0).breaker (report_number 0 20 100 1000 5000 ∷ report_number 1 20 100 1000 5000 ∷ [])

abbrev pub not_later : Call
not_later = report_number 1 20 100 1000 5000

-- a packet heard after it, and the next report
abbrev pub heard_on : List Call
heard_on = heard 7000 ∷ report_number 2 20 100 1000 5000 ∷ []

-- a report more than 10,000,000 ms after its last
abbrev pub much_later : Report
much_later = record { time = 10010000; highest = 2; loss = Fraction 20; rtt = 100; size = 1000; rate = 5000 }

-- ECN counts of 1,000 packets expected: in the second more are lost and more marked
abbrev pub fewer : EcnCounts
fewer = record { lost = negsuc 2; marked = 10; expected = 1000 }

abbrev pub more : EcnCounts
more = record { lost = pos 5; marked = 20; expected = 1000 }

-- a p at which the round trip's root is a fraction: with p = 3/8, 2p/3 is 1/4
abbrev pub three_eighths : Ratio
three_eighths = record { top = 3; bottom = 8 }

abbrev pub half : Ratio
half = record { top = 1; bottom = 2 }

-- ---- what they meet, by theorem

pub record MetBreaker : Type 0 where
  -- SoundStart, SoundRun; SoundCall, TypedCall; RefusedKeeps, by 11; StaysStopped
  pub starts : (start_of preset 0).answer ≡ Go
  pub is_sound_lem : sound reported ≡ true
  pub typed : Typed reported
  pub number_fits_lem : number_fits not_later ≡ true
  pub refuses : (called reported not_later).answer ≡ Refused Time
  pub stops : (called reported (tick 20001)).answer ≡ Stop Timeout
  -- HeardHolds; HeardUnseen, with the time held of the last report and a later one; CallAsBefore, RunAsBefore
  pub hears : (heard_of reported 6000).answer ≡ Go
  pub untimed_reported : all (map untimed (answers_of (holding reported 5001) heard_on)) ≡ true
  pub untimed_heard : all (map untimed (answers_of (holding reported 6000) heard_on)) ≡ true
  pub unheard : Unheard reported
  pub none_heard : all (map no_heard (not_later ∷ [])) ≡ true
  -- LongIsCut
  pub long : 10000000 ≤ much_later.time - reported.last
  pub short : (report_c10 31607).time - reported.last ≤ 10000000
  -- FractionInRange, JudgedByFraction; MoreIsNoLess
  pub counts_fit_lem : loss_ok (Counts more) ≡ true
  pub more_lost : fewer.lost ≤ℤ more.lost
  -- OneFloor, by C10's loss, n = 256; SquaredThroughput
  pub floor : Floor (record { top = 512; bottom = 3072 }) 428079
  pub root : square half equals round_trip_radicand (whole 1) three_eighths
