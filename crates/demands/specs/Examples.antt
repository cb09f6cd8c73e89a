-- The worked examples C1 to C12 of document 01 as one table: what is given, and what must come of it.
use Rattle.std.specs.Prelude.{◌≡◌, false, List, [], ◌∷◌, map, ℕ, zero, suc, ◌+◌, ◌*◌, ℤ, pos, negsuc}
use Rattle.answers.specs.Refusals.{number_of}
use Rattle.source.specs.declared.Source.{Source}
use Rattle.source.specs.declared.Arrival.{Arrival}
use Rattle.source.specs.declared.Arrival.TheVariants.{Accepted, Restarted, Refused}
use Rattle.source.specs.Record.{fresh_record, lost}
use Rattle.source.specs.Arrivals.{arrival, after}
use Rattle.report.specs.Reports.{feedback_bytes, summary_bytes}
use Rattle.table.specs.Lines.{row_bytes}
use Rattle.breaker.specs.declared.Answer.{Answer}
use Rattle.breaker.specs.declared.Answer.TheVariants.{Go, Stop}
use Rattle.breaker.specs.declared.Loss.TheVariants.{Fraction}
use Rattle.breaker.specs.declared.Reason.TheVariants.{Congestion}
use Rattle.breaker.specs.Calls.{start_of}
use Rattle.breaker.specs.Runs.{Call, report, answers_of}

-- ---- what is given

-- a wire number and a mark
abbrev pub Seen : Type 0
Seen = ℕ × ℕ

pub data Given : Type 0 where
  -- arrivals in a row from the fresh record
  arrivals : List Seen → Given
  -- the feedback packet, and the summary block, of their record: the sender's and the media SSRC
  feedback : ℕ → ℕ → List Seen → Given
  summary : ℕ → List Seen → Given
  -- the row of their record: the label, the SSRC, none jumped and no restart
  row : List ℕ → ℕ → List Seen → Given
  -- a breaker with k intervals started at 0, the first report at 1 ms and then k more, each 5,000 ms after the one before, all with the
  -- same fraction lost, round trip, packet size and rate
  reports : ℕ → ℕ → ℕ → ℕ → ℕ → Given

-- ---- what comes of it

pub data Result : Type 0 where
  -- the last refusal's number or 0; highest, ECT(0), ECT(1), CE, not-ECT, lost, duplicates
  counted : ℕ → List ℤ → Result
  written : List ℕ → Result
  answered : List Answer → Result

-- the last answer, which is the first refusal
abbrev pub answer_to : Arrival → List Seen → Arrival
answer_to a [] = a
answer_to (Accepted s) (x ∷ xs) = answer_to (arrival s (record { 0 = x.0 }) x.1) xs
answer_to (Restarted s) (x ∷ xs) = answer_to (arrival s (record { 0 = x.0 }) x.1) xs
answer_to (Refused refusal s) (x ∷ xs) = Refused refusal s

abbrev pub values : Source → List ℤ
values s = s.highest.0 ∷ pos s.ect0 ∷ pos s.ect1 ∷ pos s.ce ∷ pos s.notect ∷ lost s ∷ pos s.duplicates ∷ []

abbrev pub counted_of : Arrival → Result
counted_of (Accepted s) = counted 0 (values s)
counted_of (Restarted s) = counted 0 (values s)
counted_of (Refused refusal s) = counted (number_of refusal) (values s)

-- report n of a breaker, from 0
abbrev pub report_number : ℕ → ℕ → ℕ → ℕ → ℕ → Call
report_number n fraction rtt size rate =
    report (record { time = 1 + n * 5000; highest = n; loss = Fraction fraction; rtt = rtt; size = size; rate = rate })

abbrev pub reports_up_to : ℕ → ℕ → ℕ → ℕ → ℕ → List Call → List Call
reports_up_to zero fraction rtt size rate later = report_number 0 fraction rtt size rate ∷ later
reports_up_to (suc n) fraction rtt size rate later = reports_up_to n fraction rtt size rate (report_number (suc n) fraction rtt size rate ∷ later)

abbrev pub outcome : Given → Result
outcome (arrivals xs) = counted_of (answer_to (Accepted fresh_record) xs)
outcome (feedback sender media xs) = written (feedback_bytes sender media (after (answer_to (Accepted fresh_record) xs)))
outcome (summary media xs) = written (summary_bytes media (after (answer_to (Accepted fresh_record) xs)))
outcome (row label ssrc xs) = written (row_bytes label ssrc (record { source = after (answer_to (Accepted fresh_record) xs); jumped = 0; restarts = 0 }))
outcome (reports k fraction rtt size rate) =
    answered (answers_of (start_of (record { k = k; m = 3; timeout = 15000; reduce = false; full = false }) 0).breaker (reports_up_to k fraction rtt size rate []))

-- ---- the table

pub record Example : Type 0 where
  pub given : Given
  pub outcome : Result

abbrev pub c1 : List Seen
c1 = (65534, 2) ∷ (65535, 2) ∷ (0, 3) ∷ (0, 3) ∷ (3, 1) ∷ []

abbrev pub examples : List Example
examples =
    -- C1
    record { given = arrivals c1; outcome = counted 0 (pos 65539 ∷ pos 2 ∷ pos 1 ∷ pos 2 ∷ pos 0 ∷ pos 2 ∷ pos 1 ∷ []) }
    -- C2
    ∷ record {
      given = feedback 9 1 c1;
      outcome = written
          (0x88 ∷ 0xCD ∷ 0x00 ∷ 0x07 ∷ 0 ∷ 0 ∷ 0 ∷ 9 ∷ 0 ∷ 0 ∷ 0 ∷ 1 ∷ 0 ∷ 1 ∷ 0 ∷ 3
          ∷ 0 ∷ 0 ∷ 0 ∷ 2 ∷ 0 ∷ 0 ∷ 0 ∷ 1 ∷ 0 ∷ 2 ∷ 0 ∷ 0 ∷ 0 ∷ 2 ∷ 0 ∷ 1 ∷ []);
    }
    -- C3
    ∷ record {
      given = summary 1 c1;
      outcome = written
          (0x0D ∷ 0x00 ∷ 0x00 ∷ 0x05 ∷ 0 ∷ 0 ∷ 0 ∷ 1 ∷ 0 ∷ 0 ∷ 0 ∷ 2 ∷ 0 ∷ 0 ∷ 0 ∷ 1 ∷ 0 ∷ 2 ∷ 0 ∷ 0 ∷ 0 ∷ 2 ∷ 0 ∷ 1 ∷ []);
    }
    -- C1's row, with the eleventh value 0: `"probe 2, left",1,65539,2,1,2,0,2,1,0,0` and CR LF
    ∷ record {
      given = row (112 ∷ 114 ∷ 111 ∷ 98 ∷ 101 ∷ 32 ∷ 50 ∷ 44 ∷ 32 ∷ 108 ∷ 101 ∷ 102 ∷ 116 ∷ []) 1 c1;
      outcome = written (34 ∷ 112 ∷ 114 ∷ 111 ∷ 98 ∷ 101 ∷ 32 ∷ 50 ∷ 44 ∷ 32 ∷ 108 ∷ 101 ∷ 102 ∷ 116 ∷ 34 ∷ 44 ∷ 49 ∷ 44 ∷ 54 ∷ 53 ∷ 53 ∷ 51 ∷ 57 ∷ 44 ∷ 50 ∷ 44 ∷ 49 ∷ 44 ∷ 50 ∷ 44 ∷ 48 ∷ 44 ∷ 50 ∷ 44 ∷ 49 ∷ 44 ∷ 48 ∷ 44 ∷ 48 ∷ 13 ∷ 10 ∷ []);
    }
    -- C4, and its lost in a packet
    ∷ record { given = arrivals ((10, 0) ∷ (9, 0) ∷ []); outcome = counted 0 (pos 10 ∷ pos 0 ∷ pos 0 ∷ pos 0 ∷ pos 2 ∷ negsuc 0 ∷ pos 0 ∷ []) }
    ∷ record {
      given = summary 1 ((10, 0) ∷ (9, 0) ∷ []);
      outcome = written
          (0x0D ∷ 0x00 ∷ 0x00 ∷ 0x05 ∷ 0 ∷ 0 ∷ 0 ∷ 1 ∷ 0 ∷ 0 ∷ 0 ∷ 0 ∷ 0 ∷ 0 ∷ 0 ∷ 0 ∷ 0 ∷ 0 ∷ 0 ∷ 2 ∷ 0xFF ∷ 0xFF ∷ 0 ∷ 0 ∷ []);
    }
    -- C5, C6
    ∷ record { given = arrivals ((5000, 0) ∷ (7999, 0) ∷ []); outcome = counted 0 (pos 7999 ∷ pos 0 ∷ pos 0 ∷ pos 0 ∷ pos 2 ∷ pos 2998 ∷ pos 0 ∷ []) }
    ∷ record { given = arrivals ((5000, 0) ∷ (8000, 0) ∷ []); outcome = counted 7 (pos 5000 ∷ pos 0 ∷ pos 0 ∷ pos 0 ∷ pos 1 ∷ pos 0 ∷ pos 0 ∷ []) }
    -- C7, C8
    ∷ record { given = arrivals ((5000, 0) ∷ (4901, 0) ∷ []); outcome = counted 0 (pos 5000 ∷ pos 0 ∷ pos 0 ∷ pos 0 ∷ pos 2 ∷ negsuc 0 ∷ pos 0 ∷ []) }
    ∷ record { given = arrivals ((5000, 0) ∷ (4900, 0) ∷ []); outcome = counted 7 (pos 5000 ∷ pos 0 ∷ pos 0 ∷ pos 0 ∷ pos 1 ∷ pos 0 ∷ pos 0 ∷ []) }
    -- C9, C10
    ∷ record { given = reports 2 64 100 1000 244948; outcome = answered (Go ∷ Go ∷ Go ∷ []) }
    ∷ record { given = reports 2 64 100 1000 244949; outcome = answered (Go ∷ Go ∷ Stop Congestion ∷ []) }
    -- C11, C12
    ∷ record { given = reports 3 150 16 1000 1000000; outcome = answered (Go ∷ Go ∷ Go ∷ Go ∷ []) }
    ∷ record { given = reports 3 150 16 1000 1000001; outcome = answered (Go ∷ Go ∷ Go ∷ Stop Congestion ∷ []) }
    ∷ []

-- every row comes out as the table says
abbrev pub ExamplesHold : Type 0
ExamplesHold = map (λ e. outcome e.given) examples ≡ map (λ e. e.outcome) examples
