-- Laws of a compound's words: four parts, one after the other. Assumes nothing.
use Rattle.std.specs.Prelude.{Option, Some, None}
use Rattle.rtcp.specs.declared.ReportBlock.{ReportBlock}
use Rattle.rtcp.specs.declared.Feedback.{Feedback}
use Rattle.format.specs.declared.Counts.{Counts}
use mathlib.Core.Path.{◌≡◌, refl, sym, ap, ap₂, ◌∙◌}
use mathlib.Core.List.{List, [], ◌∷◌, ◌++◌}
use Prim.Native.Nat.{ℕ, ◌+◌}
use native.Mathlib.Omega.{arith}
use lib.ListN.{length, length-append}
use lib.Seq.{sets}
use Rattle.answers.proofs.Stores.{sets-append}
use Rattle.rtcp.specs.declared.Compound.{Compound}
use Rattle.lent.specs.BreakerWords.{flag}
use Rattle.lent.specs.CompoundWords.{report_words, feedback_words, summary_words, reporter_of, compound_words}

length-report : (x : Option ReportBlock) → length (report_words x) ≡ 7
unfolding report_words
length-report (Some x) = refl
length-report None = refl

length-feedback : (x : Option Feedback) → length (feedback_words x) ≡ 9
unfolding feedback_words
length-feedback (Some x) = refl
length-feedback None = refl

length-summary : (x : Option Counts) → length (summary_words x) ≡ 7
unfolding summary_words
length-summary (Some x) = refl
length-summary None = refl

module _ (c : Compound) where
  abbrev front : List ℕ
  front = report_words c.report ++ feedback_words c.feedback

  length_front : length front ≡ 16
  length_front =
      length-append (report_words c.report) (feedback_words c.feedback) ∙ ap₂ (λ (x y : ℕ). x + y) (length-report c.report) (length-feedback c.feedback)

  length_three : length (front ++ summary_words c.summary) ≡ 23
  length_three = length-append front (summary_words c.summary) ∙ ap₂ (λ (x y : ℕ). x + y) length_front (length-summary c.summary)

  pub length-compound : length (compound_words c) ≡ 25
  unfolding compound_words
  length-compound = length-append (front ++ summary_words c.summary) (flag c.reporting ∷ reporter_of c.report ∷ []) ∙ ap (λ (x : ℕ). x + 2) length_three

-- the parts stored one after the other
pub four_runs : (l : List ℕ) (c : Compound)
    → sets (sets (sets (sets l 0 (report_words c.report)) 7 (feedback_words c.feedback)) 16 (summary_words c.summary)) 23 (flag c.reporting ∷ reporter_of c.report ∷ [])
    ≡ sets l 0 (compound_words c)
unfolding compound_words
four_runs l c =
    let r = report_words c.report in
    let f = feedback_words c.feedback in
    let s = summary_words c.summary in
    let g = flag c.reporting ∷ reporter_of c.report ∷ [] in
    let m : 0 + length r ≡ 7 = omega (arith, length-report c.report) in
    let n : 0 + length (r ++ f) ≡ 16 = omega (arith, length_front c) in
    let k : 0 + length (r ++ f ++ s) ≡ 23 = omega (arith, length_three c) in
    let two = sets-append l 0 r f ∙ ap (λ (at : ℕ). sets (sets l 0 r) at f) m in
    let three = sets-append l 0 (r ++ f) s ∙ ap₂ (λ (o : List ℕ) (at : ℕ). sets o at s) two n in
    sym (sets-append l 0 (r ++ f ++ s) g ∙ ap₂ (λ (o : List ℕ) (at : ℕ). sets o at g) three k)
