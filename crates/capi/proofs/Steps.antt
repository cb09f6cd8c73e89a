-- Laws of what the breaker's functions give and leave. Assumes nothing.
use mathlib.Core.Path.{◌≡◌, refl, sym, ap, subst, ◌∙◌}
use Rattle.std.specs.Prelude.{Option, Some, None}
use mathlib.Core.Bool.{Bool, true, false, cond, not}
use native.Mathlib.Omega.{arith}
use mathlib.Core.List.{List}
use Prim.Native.Nat.{ℕ}
use borrow.Author.Tests.{eqb-true, eq-eqb, ne_eqb}
use lib.Dec.{eqb}
use lib.ListN.{length}
use lib.Seq.{sets}
use Rattle.answers.specs.declared.Refusal.TheVariants.{Malformed}
use Rattle.answers.specs.Conditions.{all}
use Rattle.answers.proofs.Conditions.{cond_ends, cond_goes, and_left}
use Rattle.breaker.specs.declared.Step.{Step}
use Rattle.breaker.specs.declared.Answer.TheVariants.{Refused}
use Rattle.breaker.specs.Runs.{Call, called}
use Rattle.breaker.specs.declared.Breaker.{Breaker}
use Rattle.lent.specs.BreakerWords.{breaker_words, breaker_of, words_fit}
use Rattle.lent.proofs.Pairs.{length-breaker}
use Rattle.capi.specs.Codes.{Leaves}
use Rattle.capi.specs.BreakerCalls.{record_in, answer_code, is_refused, is_record, call_answer, left_by, call_left, TakesCall, start_answer, start_left, PutsStart}
use Rattle.capi.proofs.Fronts.{sets-whole}

-- ---- a report, a tick and a heard packet

-- what is loaded says whether there is one, and which
module _ (old : List ℕ) where
  pub no_record : record_in old ≡ None → is_record old ≡ false
  no_record e = go (is_record old) e
    where
      go : (b : Bool) → cond b (Some (breaker_of old)) None ≡ None → b ≡ false
      go false e = refl
      go true e = cc

  pub its_record : {b : Breaker} → record_in old ≡ Some b → (is_record old ≡ true) × (b ≡ breaker_of old)
  its_record {b} e = go (is_record old) e
    where
      go : (t : Bool) → cond t (Some (breaker_of old)) None ≡ Some b → (t ≡ true) × (b ≡ breaker_of old)
      go true e = (refl, cc)
      go false e = let z : ◌≡◌ {A = ℕ} 0 1 = cc in absurd (omega arith)

-- a record has 77 words
pub record_sized : (old : List ℕ) → is_record old ≡ true → length old ≡ 77
record_sized old q = eqb-true (length old) 77 (and_left (eqb (length old) 77) (all (words_fit old)) q)

module _ (call : Call) (old : List ℕ) {r : ℕ} where
  -- words that are no record
  pub call_malformed : is_record old ≡ false → r ≡ answer_code (Refused Malformed) → TakesCall call old r old
  unfolding call_answer call_left
  call_malformed e h = record { answers = cond_ends _ _ _ _ (ap not e) h; stores = cond_ends _ _ _ _ (ap not e) refl }

  -- a record, on which the call gives s
  pub call_made : {s : Step} {out : List ℕ} → is_record old ≡ true → s ≡ called (breaker_of old) call → Leaves (answer_code s.answer) (left_by s old) r out
      → TakesCall call old r out
  unfolding call_answer call_left
  call_made t e h =
      record {
        answers = cond_goes _ _ _ _ (ap not t) (h.answers ∙ ap (λ (s : Step). answer_code s.answer) e);
        stores = cond_goes _ _ _ _ (ap not t) (h.stores ∙ ap (λ (s : Step). left_by s old) e);
      }

-- what is stored in the place of the last record
pub back_stored : (s : Step) (old : List ℕ) {left : List ℕ} → is_refused s.answer ≡ false → length old ≡ 77 → length s.breaker.window.intervals ≡ 32
    → left ≡ sets old 0 (breaker_words s.breaker) → left ≡ left_by s old
back_stored s old e n p k = cond_goes _ _ _ _ e (k ∙ sets-whole old (breaker_words s.breaker) (n ∙ sym (length-breaker s.breaker p)))

-- ---- a start

-- another number of words
pub start_other : (s : Step) (old : List ℕ) {r : ℕ} → (length old ≡ 77 → ⊥) → r ≡ answer_code (Refused Malformed) → PutsStart s old r old
unfolding start_answer start_left
start_other s old n h =
    let e = ne_eqb (length old) 77 n in
    record { answers = cond_goes _ _ _ _ e h; stores = cond_goes _ _ _ _ e refl }

-- 77 of them, and the start gives s
pub start_made : {s s' : Step} (old : List ℕ) {r : ℕ} {left : List ℕ} → length old ≡ 77 → s ≡ s' → Leaves (answer_code s.answer) (left_by s old) r left
    → PutsStart s' old r left
unfolding start_answer start_left
start_made old n e h =
    let t = eq-eqb (length old) 77 n in
    record {
      answers = cond_ends _ _ _ _ t (h.answers ∙ ap (λ (s : Step). answer_code s.answer) e);
      stores = cond_ends _ _ _ _ t (h.stores ∙ ap (λ (s : Step). left_by s old) e);
    }

-- what is proved of one start holds of one that is equal
pub start_is : {s s' : Step} (old : List ℕ) {r : ℕ} {left : List ℕ} → s ≡ s' → PutsStart s old r left → PutsStart s' old r left
start_is old {r} {left} e h = subst (λ (x : Step). PutsStart x old r left) e h
