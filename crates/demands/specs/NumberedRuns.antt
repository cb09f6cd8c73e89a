-- Document 01, "The form for each place", as specs/Numbered: number and values of what the readers of a trace's blocks, the runs and the attribute's answer give.
use Rattle.answers.specs.declared.Unwritten.{Unwritten}
use Rattle.trace.specs.declared.Record.{Record}
use Rattle.convert.specs.declared.Run.{Run}
use Rattle.forms.specs.declared.Conversion.{Conversion}
use Rattle.sdp.specs.declared.Chosen.{Chosen}
use Rattle.std.specs.Prelude.{◌≡◌, ℕ, Option, Result, Err}
use Rattle.answers.specs.Refusals.{number_of}
use Rattle.answers.specs.declared.Refusal.{Refusal}
use Rattle.trace.specs.declared.Block.{Block}
use Rattle.trace.specs.declared.Block.TheVariants as block
use Rattle.trace.specs.declared.Zeroth.{Zeroth}
use Rattle.trace.specs.Numbered.{read_as, zeroth_as, later_as, found_as, spaced_as}
use Rattle.convert.specs.declared.feeds.FeedAnswer.{FeedAnswer}
use Rattle.convert.specs.declared.feeds.FeedAnswer.TheVariants as answer
use Rattle.convert.specs.Numbered.{begin_as, feed_as}
use Rattle.forms.specs.Numbered.{begin_as as conversionAs}
use Rattle.sdp.specs.declared.Attribute.{Attribute}
use Rattle.sdp.specs.Numbered.{line_as, negotiated_as}

-- two answers with the same number and values are the same
abbrev pub RunAnswersTell : Type 0
RunAnswersTell =
    ((x y : Result Block Refusal) → read_as x ≡ read_as y → x ≡ y)
    × ((x y : Result Zeroth Refusal) → zeroth_as x ≡ zeroth_as y → x ≡ y)
    × ((x y : Result ℕ Refusal) → later_as x ≡ later_as y → x ≡ y)
    × ((x y : Result Record Refusal) → found_as x ≡ found_as y → x ≡ y)
    × ((x y : Result ℕ Unwritten) → spaced_as x ≡ spaced_as y → x ≡ y)
    × ((x y : Result Run Refusal) → begin_as x ≡ begin_as y → x ≡ y)
    × ((x y : FeedAnswer) → feed_as x ≡ feed_as y → x ≡ y)
    × ((x y : Result (Conversion × ℕ) Unwritten) → conversionAs x ≡ conversionAs y → x ≡ y)
    × ((x y : Result Attribute Refusal) → line_as x ≡ line_as y → x ≡ y)
    × ((x y : Result (Option Chosen) Refusal) → negotiated_as x ≡ negotiated_as y → x ≡ y)

-- a refusal has the number of the table, and too little room 12
abbrev pub RunRefusalsNumbered : Type 0
RunRefusalsNumbered =
    (refusal : Refusal) (n b : ℕ)
    → ((read_as (Err refusal)).number ≡ number_of refusal)
    × ((zeroth_as (Err refusal)).number ≡ number_of refusal)
    × ((later_as (Err refusal)).number ≡ number_of refusal)
    × ((found_as (Err refusal)).number ≡ number_of refusal)
    × ((spaced_as (Err (Unwritten.Refused refusal))).number ≡ number_of refusal)
    × ((spaced_as (Err (Unwritten.Room n))).number ≡ 12)
    × ((begin_as (Err refusal)).number ≡ number_of refusal)
    × ((feed_as (answer.Refused refusal)).number ≡ number_of refusal)
    × ((feed_as (answer.Faulty refusal b n)).number ≡ number_of refusal)
    × ((feed_as (answer.Room n)).number ≡ 12)
    × ((conversionAs (Err (Unwritten.Refused refusal))).number ≡ number_of refusal)
    × ((conversionAs (Err (Unwritten.Room n))).number ≡ 12)
    × ((negotiated_as (Err refusal)).number ≡ number_of refusal)
