-- What flasknib_breaker_call answers, and what it leaves in what it was lent (include/flasknib.h, "the circuit breaker").
use Rattle.answers.specs.declared.Unwritten.{Unwritten}
use Rattle.between.specs.declared.calls.Kept.{Kept}
use Rattle.std.specs.Prelude.{◌≡◌, true, cond, ◌&&◌, List, ◌++◌, ℕ, ◌≤◌, length, drop, Option, Some, None, Result, Ok, Err}
use Rattle.answers.specs.declared.Refusal.{Refusal}
use Rattle.answers.specs.declared.Refusal.TheVariants.{Malformed}
use Rattle.answers.specs.Writers.{written, stored}
use Rattle.rtcp.specs.declared.Compound.{Compound}
use Rattle.between.specs.declared.calls.PacketCall.{PacketCall}
use Rattle.between.specs.PacketCalls.{call_for}
use Rattle.lent.specs.CompoundWords.{compound_words, compound_of, is_compound, Typed}
use Rattle.lent.specs.KeptWords.{kept_in, is_kept, kept_words, typed_kept}
use Rattle.lent.specs.CallWords.{call_words}
use Rattle.capi.specs.Codes.{refusal_code}

-- words that are no compound's, or not those of what is kept, are refused with 9
unfoldable pub call_fault : List ℕ → List ℕ → Option Refusal
call_fault found kept = cond (is_compound found && is_kept kept) None (Some Malformed)

-- the call for the packet in the words
abbrev pub call_in : List ℕ → List ℕ → PacketCall
call_in found kept = call_for (compound_of found) (kept_in kept)

-- a refused call leaves what is kept as it was
abbrev pub kept_by : Result ℕ Unwritten → List ℕ → List ℕ → List ℕ
kept_by (Ok n) next old = next
kept_by (Err (Unwritten.Room n)) next old = old
kept_by (Err (Unwritten.Refused refusal)) next old = old

-- 9, 12; or 0, the 6 words of the call, and the 4 words of what is kept then
pub record CallsFor (found kept old : List ℕ) (r : ℕ) (left out : List ℕ) : Type 0 where
  pub answers : r ≡ refusal_code (written (call_fault found kept) (call_words (call_in found kept).call) old)
  pub keeps : left ≡ kept_by (written (call_fault found kept) (call_words (call_in found kept).call) old) (kept_words (call_in found kept).kept) kept
  pub stores : out ≡ stored (call_fault found kept) (call_words (call_in found kept).call) old

-- ---- on the reader's own words

-- 0, the call of what was read, and what is kept then, which the next call takes
pub record Called (c : Compound) (earlier : Option Kept) (old : List ℕ) (r : ℕ) (left out : List ℕ) : Type 0 where
  pub answers : r ≡ 0
  pub keeps : left ≡ kept_words (call_for c earlier).kept
  pub again : typed_kept (call_for c earlier).kept ≡ true
  pub stores : out ≡ call_words (call_for c earlier).call ++ drop 6 old

-- for a compound and what is kept whose fields fit their types, as the reader's and those of an earlier call do, where there is room
abbrev pub ReadersCall : Type 0
ReadersCall =
    (c : Compound) (earlier : Option Kept) (old : List ℕ) (r : ℕ) (left out : List ℕ) → Typed c → typed_kept earlier ≡ true → 6 ≤ length old
    → CallsFor (compound_words c) (kept_words earlier) old r left out → Called c earlier old r left out
