-- Document 01, "The breaker": what a call answers.
use Rattle.std.specs.Prelude.{ℕ}
use Rattle.answers.specs.declared.Refusal.{Refusal}
use Rattle.breaker.specs.declared.Reason.{Reason}
use Rattle.breaker.specs.declared.Reason.TheVariants.{Timeout, Media, Congestion}
use Rattle.breaker.specs.declared.State.TheVariants.{Stopped}
use Rattle.breaker.specs.declared.Breaker.{Breaker}
use Rattle.breaker.specs.declared.Answer.{Answer}
use Rattle.breaker.specs.declared.Answer.TheVariants.{Go, Reduce, Stop, Refused}
use Rattle.breaker.specs.declared.Step.{Step}

-- the reasons' numbers
abbrev pub reason_number : Reason → ℕ
reason_number Timeout = 1
reason_number Media = 2
reason_number Congestion = 3

-- an answer beside a record
abbrev pub answers : Answer → Breaker → Step
answers a b = record { answer = a; breaker = b }

abbrev pub goes : Breaker → Step
goes b = answers Go b

abbrev pub reduces : Breaker → Step
reduces b = answers Reduce b

-- a refusal hands the record back as it was
abbrev pub refuses : Refusal → Breaker → Step
refuses refusal b = answers (Refused refusal) b

-- a stop stores its reason; all else in the record is as before that call
abbrev pub stops : Reason → Breaker → Step
stops reason b =
    answers (Stop reason)
    (record {
      settings = b.settings;
      state = Stopped reason;
      last = b.last;
      heard = b.heard;
      reported = b.reported;
      highest = b.highest;
      run = b.run;
      trial = b.trial;
      window = b.window;
    })
