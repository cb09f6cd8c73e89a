-- What a call of the breaker answers, by the paper's numbers and values (document 01, "The breaker" and "Refusal numbers").
use Rattle.std.specs.Prelude.{ℕ, Bool, true, false, Option, Some, None}
use Rattle.answers.specs.Numbered.{Numbered, succeeds, refuses}
use Rattle.breaker.specs.declared.Answer.{Answer}
use Rattle.breaker.specs.declared.Answer.TheVariants.{Go, Reduce, Stop, Refused}
use Rattle.breaker.specs.declared.Breaker.{Breaker}
use Rattle.breaker.specs.declared.Step.{Step}
use Rattle.breaker.specs.Answers.{reason_number}

-- whether to reduce, and the number of the reason to stop, 0 for none; a refusal says neither
pub record Verdict : Type 0 where
  pub reduce : Bool
  pub reason : ℕ

-- beside the answer the next breaker, which a refusal hands back as it was
abbrev pub answer_as : Breaker → Answer → Numbered (Breaker × Option Verdict)
answer_as b Go = succeeds (b, Some (record { reduce = false; reason = 0 }))
answer_as b Reduce = succeeds (b, Some (record { reduce = true; reason = 0 }))
answer_as b (Stop reason) = succeeds (b, Some (record { reduce = false; reason = reason_number reason }))
answer_as b (Refused refusal) = refuses refusal (b, None)

abbrev pub step_as : Step → Numbered (Breaker × Option Verdict)
step_as s = answer_as s.breaker s.answer
