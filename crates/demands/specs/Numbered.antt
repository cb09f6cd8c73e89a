-- Document 01, "The form for each place": the paper's number and values of an answer tell all of it, so that to promise them is to promise the answer; and the
-- number of a refusal is that of the table of refusals.
use Rattle.answers.specs.declared.Unwritten.{Unwritten}
use Rattle.rtcp.specs.declared.Compound.{Compound}
use Rattle.breaker.specs.declared.EcnCounts.{EcnCounts}
use Rattle.std.specs.Prelude.{◌≡◌, ℕ, Result, Err, ℤ}
use Rattle.answers.specs.Numbered.{written_as}
use Rattle.answers.specs.Refusals.{number_of}
use Rattle.answers.specs.declared.Refusal.{Refusal}
use Rattle.source.specs.declared.Source.{Source}
use Rattle.source.specs.declared.Arrival.{Arrival}
use Rattle.source.specs.declared.Arrival.TheVariants as arrival
use Rattle.source.specs.declared.BlockCount.{BlockCount}
use Rattle.source.specs.declared.BlockCount.TheVariants as count
use Rattle.source.specs.Numbered.{arrival_as, count_as, lost_as}
use Rattle.rtcp.specs.Numbered.{reading_as}
use Rattle.breaker.specs.declared.Breaker.{Breaker}
use Rattle.breaker.specs.declared.Answer.TheVariants as answer
use Rattle.breaker.specs.declared.Step.{Step}
use Rattle.breaker.specs.Answers.{answers}
use Rattle.breaker.specs.Numbered.{step_as}
use Rattle.between.specs.Differences.{between_as}

-- two answers with the same number and values are the same
abbrev pub AnswersTell : Type 0
AnswersTell =
    ((x y : Result ℕ Unwritten) → written_as x ≡ written_as y → x ≡ y)
    × ((x y : Arrival) → arrival_as x ≡ arrival_as y → x ≡ y)
    × ((x y : BlockCount) → count_as x ≡ count_as y → x ≡ y)
    × ((x y : Result ℤ Refusal) → lost_as x ≡ lost_as y → x ≡ y)
    × ((x y : Result Compound Refusal) → reading_as x ≡ reading_as y → x ≡ y)
    × ((x y : Step) → step_as x ≡ step_as y → x ≡ y)
    × ((x y : Result EcnCounts Refusal) → between_as x ≡ between_as y → x ≡ y)

-- a refusal has the number of the table, and too little room 12
abbrev pub RefusalsNumbered : Type 0
RefusalsNumbered =
    (refusal : Refusal) (n : ℕ) (s : Source) (b : Breaker)
    → ((written_as (Err (Unwritten.Refused refusal))).number ≡ number_of refusal)
    × ((written_as (Err (Unwritten.Room n))).number ≡ 12)
    × ((arrival_as (arrival.Refused refusal s)).number ≡ number_of refusal)
    × ((count_as (count.Refused refusal s)).number ≡ number_of refusal)
    × ((lost_as (Err refusal)).number ≡ number_of refusal)
    × ((reading_as (Err refusal)).number ≡ number_of refusal)
    × ((step_as (answers (answer.Refused refusal) b)).number ≡ number_of refusal)
    × ((between_as (Err refusal)).number ≡ number_of refusal)
