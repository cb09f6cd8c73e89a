-- A run and its 15 words: taking out and putting back are inverse. Assumes nothing.
use Rattle.std.specs.Prelude.{Some, None}
use mathlib.Core.Path.{◌≡◌, refl, sym, ap, ap₂, ◌∙◌, subst}
use mathlib.Core.Bool.{Bool, true, false, cond, ◌&&◌, ◌||◌}
use mathlib.Core.List.{List, [], ◌∷◌, ◌++◌}
use Prim.Native.Nat.{ℕ, zero, suc, ◌+◌, ◌^◌}
use native.Mathlib.Omega.{arith}
use borrow.Author.Tests.{eqb-true, ne_eqb, lt-ltb}
use lib.Dec.{eqb, ltb}
use lib.ListN.{length, get_or}
use lib.Seq.{sets, take_all}
use Rattle.answers.proofs.Conditions.{and_left, and_right}
use Rattle.answers.proofs.Stores.{sets-append}
use Rattle.format.specs.declared.Form.{Form}
use Rattle.format.specs.declared.Form.TheVariants.{One, Two}
use Rattle.source.specs.declared.Source.{Source}
use Rattle.convert.specs.declared.Run.{Run}
use Rattle.lent.specs.FormWords.{form_number, is_form, form_of}
use Rattle.lent.specs.SourceWords.{source_of, is_source, source_words, loaded as sourceLoaded}
use Rattle.lent.specs.RunWords.{record_in, run_with, run_of, is_run, loaded, run_words, RunBack, RunWordsBack}
use Rattle.lent.proofs.SourceLaws.{record_back, words_back, held as source_held, elements, elements_are}

-- ---- the form

pub form_fits : (form : Form) → is_form (form_number form) ≡ true
form_fits One = refl
form_fits Two = refl

pub form_back : (form : Form) → form_of (form_number form) ≡ form
form_back One = refl
form_back Two = refl

pub form_word_lem : (n : ℕ) → is_form n ≡ true → form_number (form_of n) ≡ n
form_word_lem zero e = absurd (omega (arith, eqb-true 0 1 e))
form_word_lem (suc zero) e = refl
form_word_lem (suc (suc zero)) e = refl
form_word_lem (suc (suc (suc n))) e =
    let z = subst (λ (b : Bool). (b || eqb (suc (suc (suc n))) 2) ≡ true) (ne_eqb (suc (suc (suc n))) 1 (λ q. omega arith)) e in
    absurd (omega (arith, eqb-true (suc (suc (suc n))) 2 z))

-- ---- the parts stored one after the other

pub length-record : (s : Source) → length (source_words s) ≡ 10
unfolding source_words
length-record s = refl

pub length_run : (run : Run) → length (run_words run) ≡ 15
unfolding run_words source_words
length_run run = refl

pub three_runs : (l : List ℕ) (run : Run)
    → sets (sets (sets l 0 (form_number run.form ∷ run.length ∷ run.ssrc ∷ [])) 3 (source_words run.totals.source)) 13 (run.totals.jumped ∷ run.totals.restarts ∷ [])
    ≡ sets l 0 (run_words run)
unfolding run_words
three_runs l run =
    let front = form_number run.form ∷ run.length ∷ run.ssrc ∷ [] in
    let s = source_words run.totals.source in
    let back = run.totals.jumped ∷ run.totals.restarts ∷ [] in
    let at : 3 + length s ≡ 13 = omega (arith, length-record run.totals.source) in
    sym (sets-append l 0 front (s ++ back) ∙ sets-append (sets l 0 front) 3 s back ∙ ap (λ (n : ℕ). sets (sets (sets l 0 front) 3 s) n back) at)

-- ---- runs

-- the words that are a run's are 15
pub held : (words : List ℕ) {run : Run} → loaded words ≡ Some run → (length words ≡ 15) × (is_run words ≡ true) × (run ≡ run_of words)
unfolding loaded
held words {run} e = go (is_run words) refl e
  where
    go : (b : Bool) → is_run words ≡ b → cond b (Some (run_of words)) None ≡ Some run → (length words ≡ 15) × (is_run words ≡ true) × (run ≡ run_of words)
    go true f e = (eqb-true (length words) 15 (and_left (eqb (length words) 15) (is_form (get_or words 0 0) && (ltb (get_or words 2 0) (2 ^ 32) && is_source (record_in words))) f), f, cc)
    go false f e = let z : ◌≡◌ {A = ℕ} 0 1 = cc in absurd (omega arith)

-- and those that are none's are not
pub other : (words : List ℕ) → loaded words ≡ None → is_run words ≡ false
unfolding loaded
other words e = go (is_run words) e
  where
    go : (b : Bool) → cond b (Some (run_of words)) None ≡ None → b ≡ false
    go true e = let z : ◌≡◌ {A = ℕ} 0 1 = cc in absurd (omega arith)
    go false e = refl

pub run_back : RunBack
unfolding loaded run_words run_with source_words
run_back run ssrc base highest number =
    let s = run.totals.source in
    let back = source_held (source_words s) (record_back s base highest number) in
    rw (form_fits run.form, lt-ltb run.ssrc (2 ^ 32) ssrc, back.1) (ap Some (λ i. record {
      form = form_back run.form i;
      length = run.length;
      ssrc = run.ssrc;
      totals = record { source = sym back.2 i; jumped = run.totals.jumped; restarts = run.totals.restarts };
    }))

pub source_again : (words : List ℕ) → is_source words ≡ true → sourceLoaded words ≡ Some (source_of words)
unfolding sourceLoaded
source_again words e = rw e

pub run_words_back : RunWordsBack
unfolding run_words run_with elements
run_words_back words run base highest e =
    let h = held words e in
    let rest = and_right (eqb (length words) 15) _ h.1 in
    let form = form_word_lem (get_or words 0 0) (and_left (is_form (get_or words 0 0)) _ rest) in
    let its = and_right (ltb (get_or words 2 0) (2 ^ 32)) _ (and_right (is_form (get_or words 0 0)) _ rest) in
    let all = sym (take_all 15 words (omega (arith, h.0))) ∙ elements_are words 0 15 (omega (arith, h.0)) in
    let part : record_in words ≡ elements words 3 10 = elements_are words 3 10 (omega (arith, h.0)) in
    let same = words_back (record_in words) (source_of (record_in words)) (rw part base) (rw part highest) (source_again (record_in words) its) in
    ap run_words h.2
    ∙ ap₂ (λ (n : ℕ) (l : List ℕ). n ∷ get_or words 1 0 ∷ get_or words 2 0 ∷ (l ++ (get_or words 13 0 ∷ get_or words 14 0 ∷ []))) form (same ∙ part)
    ∙ sym all
