-- What the functions of the converter of forms answer, and what they leave in what they were lent (include/flasknib.h, "a trace in the other form").
use Rattle.answers.specs.declared.Unwritten.{Unwritten}
use Rattle.forms.specs.declared.Conversion.{Conversion}
use Rattle.std.specs.Prelude.{ℕ, ◌≡◌, cond, List, eqb, ℤ, length, Option, Some, Result, Ok, Err}
use Rattle.answers.specs.declared.Refusal.{Refusal}
use Rattle.answers.specs.declared.Refusal.TheVariants.{Malformed}
use Rattle.trace.specs.declared.Record.{Record}
use Rattle.answers.specs.Writers.{size_in}
use Rattle.walk.specs.Steps.{Next, refuses}
use Rattle.forms.specs.Conversions.{begin_of, begin_stored, call_next, bytes_in, carries, carried_by, after_of, close_fault, close_bytes}
use Rattle.lent.specs.ConversionWords.{conversion_of, is_conversion, conversion_words}
use Rattle.capi.specs.Codes.{length_code, Gives}
use Rattle.capi.specs.StepCalls.{Takes}

-- ---- flasknib_forms_start

-- another number of words than 3 is refused with 9, before everything else
unfoldable pub begins : List ℕ → List ℕ → List ℕ → Result (Conversion × ℕ) Unwritten
begins words zeroth old = cond (eqb (length words) 3) (begin_of zeroth old) (Err (Unwritten.Refused Malformed))

-- the label block's length, or minus the refusal, as a writer's
abbrev pub begin_code : Result (Conversion × ℕ) Unwritten → ℤ
begin_code (Ok (c, n)) = length_code (Ok n)
begin_code (Err why) = length_code (Err why)

-- the words of the conversion; a refusal leaves the words as they were
abbrev pub begin_words : List ℕ → Result (Conversion × ℕ) Unwritten → List ℕ
begin_words words (Ok (c, n)) = conversion_words c
begin_words words (Err why) = words

-- the bytes of the block that was or would be written
abbrev pub begin_size : Result (Conversion × ℕ) Unwritten → ℕ
begin_size (Ok (c, n)) = n
begin_size (Err why) = size_in (Err why)

-- request L10, block 0: 9, 1, 13, 14, 12; or the label block in the other form, and the conversion
pub record BeginsForms (words zeroth old : List ℕ) (r : ℤ) (left out : List ℕ) : Type 0 where
  pub answers : r ≡ begin_code (begins words zeroth old)
  pub keeps : left ≡ begin_words words (begins words zeroth old)
  pub stores : out ≡ cond (eqb (length words) 3) (begin_stored zeroth old) old

-- ---- flasknib_forms_block

-- what the block brings to the conversion in the words; words that are no conversion's are refused with 9, before everything else
unfoldable pub forms_next : List ℕ → List ℕ → List ℕ → Next (List Record)
forms_next words part block = cond (is_conversion words) (call_next (conversion_of words) part block) (refuses Malformed)

-- request L10, a later block: 9, the block's refusal, 14 for its place, 17, 12; or the full blocks, the records behind them in the part, and the next
-- conversion
pub record TakesForms (words part block old : List ℕ) (r : ℤ) (left kept out : List ℕ) : Type 0 where
  pub takes :
      Takes length_code (λ k. conversion_words k.conversion) words
      (carries (conversion_of words) part)
      (carried_by (conversion_of words) part (forms_next words part block))
      (bytes_in (conversion_of words) part (forms_next words part block))
      old r left out
  pub holds : kept ≡ (after_of (conversion_of words) part (forms_next words part block) old).part

-- ---- flasknib_forms_close

-- 9 for words that are no conversion's, too
unfoldable pub end_fault : List ℕ → List ℕ → Option Refusal
end_fault words part = cond (is_conversion words) (close_fault (conversion_of words) part) (Some Malformed)

-- request L10, the end: 9, 12; or the block of the records that are held, nothing where there is none
abbrev pub ClosesForms : List ℕ → List ℕ → List ℕ → ℤ → List ℕ → Type 0
ClosesForms words part old r out =
    Gives length_code
    (end_fault words part)
    (close_bytes (conversion_of words) part)
    old r out
