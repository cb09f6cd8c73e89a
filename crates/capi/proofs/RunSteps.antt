-- A run in lent words, or refusal 9, and how long its row is. Assumes nothing.
use Rattle.std.specs.Prelude.{Some, None, Result}
use Rattle.answers.specs.declared.Unwritten.{Unwritten}
use Rattle.answers.specs.declared.Refusal.{Refusal}
use mathlib.Core.Path.{◌≡◌, refl, ap, subst₂, ◌∙◌}
use mathlib.Core.Bool.{Bool, true, false, cond, ◌&&◌}
use mathlib.Core.List.{List}
use Prim.Native.Nat.{ℕ, ◌^◌, ◌≤◌, ◌<◌}
use native.Mathlib.Omega.{arith}
use borrow.Author.Tests.{eq-eqb, ne_eqb, ltb-true}
use lib.Dec.{eqb, ltb}
use lib.IntN.{ℤ, pos, neg_ℤ}
use lib.ListN.{length, get_or}
use Rattle.answers.specs.Writers.{size_in}
use Rattle.answers.specs.declared.Refusal.TheVariants as refusal
use Rattle.answers.proofs.Conditions.{and_left, and_right}
use Rattle.answers.proofs.Stores.{wrote_size}
use Rattle.numbers.proofs.BigEndian.{Octets}
use Rattle.table.specs.Theorems.{row_most}
use Rattle.walk.specs.Steps.{Next, goes, refuses, fault_in, Stepped}
use Rattle.convert.specs.declared.Run.{Run}
use Rattle.convert.specs.Runs.{start_of, row_in, sound_run, next_of, call_next}
use Rattle.convert.proofs.Kept.{good, next_good, next_ssrc, row_long}
use Rattle.lent.specs.RunWords.{record_in, run_with, run_words, loaded}
use Rattle.lent.specs.FormWords.{is_form}
use Rattle.lent.specs.SourceWords.{is_source}
use Rattle.lent.proofs.RunLaws.{held, other}
use Rattle.capi.specs.Codes.{length_code, Leaves}
use Rattle.capi.specs.StepCalls.{words_after, Takes}
use Rattle.capi.specs.RunCalls.{starts, start_code, start_words, StartsRun, run_next, TakesBlock}
use Rattle.capi.proofs.StepLaws.{takes_step, takes_none}

-- ---- block 0

module _ (zeroth words : List ℕ) {r : ℕ} where
  pub starts_other : (length words ≡ 15 → ⊥) → r ≡ 9 → StartsRun zeroth words r words
  unfolding starts
  starts_other n e = let t = ne_eqb (length words) 15 n in record { answers = rw t e; stores = rw t }

  pub starts_begun : {b : Result Run Refusal} {left : List ℕ} → length words ≡ 15 → b ≡ start_of zeroth → r ≡ start_code b → left ≡ start_words words b
      → StartsRun zeroth words r left
  unfolding starts
  starts_begun n w e k =
      let t = eq-eqb (length words) 15 n in
      record { answers = rw t (e ∙ ap start_code w); stores = rw t (k ∙ ap (start_words words) w) }

-- ---- the call on the run in the words

module _ (words zeroth block old : List ℕ) where
  pub run_other : loaded words ≡ None → TakesBlock words zeroth block old (neg_ℤ (pos 9)) words old
  unfolding run_next
  run_other e = takes_none length_code run_words words {refusal = refusal.Malformed} (rw (other words e))

  module _ {run : Run} (e : loaded words ≡ Some run) where
    next_is : call_next run zeroth block ≡ run_next words zeroth block
    unfolding run_next
    next_is = let h = held words e in rw (h.1, ← h.2)

    pub run_stepped : {answer : Result ℕ Unwritten} {next : Run} {out left : List ℕ} {r : ℤ}
        → Stepped run (call_next run zeroth block) (row_in zeroth (call_next run zeroth block)) old answer next out
        → Leaves (length_code answer) (words_after words (run_words next) answer) r left → TakesBlock words zeroth block old r left out
    run_stepped {answer} {next} {out} {left} {r} s l =
        subst₂ (λ (x : Run) (n : Next Run). Takes length_code run_words words x n (row_in zeroth n) old r left out) (held words e).2 next_is
        (takes_step length_code run_words words s l)

-- ---- a row is short

module _ (run : Run) (zeroth block : List ℕ) (o : Octets block) (small : run.ssrc < 2 ^ 32) where
  row_size : (next : Next Run) → next_of run block ≡ next → sound_run run zeroth ≡ true → fault_in next ≡ None → length (row_in zeroth next) ≤ row_most
  row_size (goes next) e g f = row_long next zeroth (omega (arith, small, next_ssrc run block next e)) (next_good run zeroth block next o (good g) e)
  row_size (refuses refusal) e g f = omega arith

  call_size : fault_in (call_next run zeroth block) ≡ None → length (row_in zeroth (call_next run zeroth block)) ≤ row_most
  unfolding call_next
  call_size f = go (sound_run run zeroth) refl f
    where
      go : (t : Bool) → sound_run run zeroth ≡ t → fault_in (cond t (next_of run block) (refuses refusal.Malformed)) ≡ None
          → length (row_in zeroth (cond t (next_of run block) (refuses refusal.Malformed))) ≤ row_most
      go true g f = row_size (next_of run block) refl g f
      go false g f = omega arith

-- a run in words has an SSRC of 32 bits
run_ssrc : (words : List ℕ) {run : Run} → loaded words ≡ Some run → run.ssrc < 2 ^ 32
unfolding run_with
run_ssrc words e =
    let h = held words e in
    let rest = and_right (eqb (length words) 15) (is_form (get_or words 0 0) && (ltb (get_or words 2 0) (2 ^ 32) && is_source (record_in words))) h.1 in
    let its = and_left (ltb (get_or words 2 0) (2 ^ 32)) (is_source (record_in words)) (and_right (is_form (get_or words 0 0)) _ rest) in
    omega (arith, ap (λ (r : Run). r.ssrc) h.2, ltb-true (get_or words 2 0) (2 ^ 32) its)

pub run_size : (words zeroth block old : List ℕ) {run : Run} {answer : Result ℕ Unwritten} {next : Run} {out : List ℕ} → loaded words ≡ Some run → Octets block
    → Stepped run (call_next run zeroth block) (row_in zeroth (call_next run zeroth block)) old answer next out → size_in answer ≤ row_most
run_size words zeroth block old {run} e o s = wrote_size row_most (call_size run zeroth block o (run_ssrc words e)) s.wrote
