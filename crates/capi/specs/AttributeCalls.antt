-- What the functions of the attribute ecn-capable-rtp answer, and what they leave in what they were lent (include/flasknib.h, "offer and answer"; document 02,
-- request L12).
use Rattle.sdp.specs.declared.Chosen.{Chosen}
use Rattle.std.specs.Prelude.{◌≡◌, cond, ◌&&◌, List, [], ◌++◌, ℕ, ◌≤◌, ℤ, length, drop, Option, Some, None, Result, Ok, Err}
use Rattle.answers.specs.declared.Refusal.{Refusal}
use Rattle.answers.specs.declared.Refusal.TheVariants.{Malformed}
use Rattle.sdp.specs.declared.Attribute.{Attribute}
use Rattle.sdp.specs.Reading.{Reads}
use Rattle.sdp.specs.Writing.{attribute_bytes, write_fault}
use Rattle.sdp.specs.Answers.{answered, answer_of}
use Rattle.lent.specs.AttributeWords.{attribute_in, is_attribute, attribute_words, cleared}
use Rattle.capi.specs.Codes.{refusal_code, length_code, Gives, Leaves}

-- ---- flasknib_read_attribute

-- the reader's refusal
abbrev pub verdict_fault : Result Attribute Refusal → Option Refusal
verdict_fault (Ok attribute) = None
verdict_fault (Err refusal) = Some refusal

-- the words of what it read; a line that is refused has none
abbrev pub reading_words : Result Attribute Refusal → List ℕ
reading_words (Ok attribute) = attribute_words attribute
reading_words (Err refusal) = []

-- what the line reads as, which the line fixes (ReadsOnce of `sdp`): 10, 18, 10, then 12; or 0 and 11 words
pub record ReadsAttribute (line old : List ℕ) (r : ℕ) (found : List ℕ) : Type 0 where
  pub reading : Result Attribute Refusal
  pub reads : Reads line reading
  pub gives : Gives refusal_code (verdict_fault reading) (reading_words reading) old r found

-- ---- flasknib_write_attribute

-- 9 for words that are no record, then the writer's 10
unfoldable pub record_fault : List ℕ → Option Refusal
record_fault words = cond (is_attribute words) (write_fault (attribute_in words)) (Some Malformed)

-- 9, 10, 12 with its size; or the line
abbrev pub WritesAttribute : List ℕ → List ℕ → ℤ → List ℕ → Type 0
WritesAttribute words old r out = Gives length_code (record_fault words) (attribute_bytes (attribute_in words)) old r out

-- ---- flasknib_answer

-- 9 for words that are no record on either side, then the answer
unfoldable pub negotiated : List ℕ → List ℕ → Result (Option Chosen) Refusal
negotiated offer ours =
    cond (is_attribute offer && is_attribute ours) (answer_of (attribute_in offer) (attribute_in ours)) (Err Malformed)

-- a left-out answer is 129 and changes no word, whatever room there is; an included one is 12, or 0 and 11 words
abbrev pub Tells : Result (Option Chosen) Refusal → List ℕ → ℕ → List ℕ → Type 0
Tells (Ok (Some c)) old r found = Gives refusal_code None (attribute_words (answered c)) old r found
Tells (Ok None) old r found = Leaves 129 old r found
Tells (Err refusal) old r found = Gives refusal_code (Some refusal) [] old r found

abbrev pub AnswersOffer : List ℕ → List ℕ → List ℕ → ℕ → List ℕ → Type 0
AnswersOffer offer ours old r found = Tells (negotiated offer ours) old r found

-- ---- a written attribute, read

-- the line of words that are not refused reads back to the same words, with 0 behind the last method
abbrev pub WordsReadBack : Type 0
WordsReadBack =
    (words room found : List ℕ) (r : ℕ) → record_fault words ≡ None → 11 ≤ length room → ReadsAttribute (attribute_bytes (attribute_in words)) room r found
    → (r ≡ 0) × (found ≡ cleared words ++ drop 11 room)
