use mathlib.Core.Path.{ap, ◌∙◌}
use mathlib.Core.List.{[], ◌∷◌}
use lib.Seq.{sets}
use Rattle.lent.proofs.Restored.{as_flag}
use Rattle.lent.proofs.Parts.{four_runs}
use Rattle.lent.proofs.compound_words.store.Goals as goal

pub returns : goal.returns
returns c =
    let a = c.args in
    let old = a.words.now in
    let first = c.put_all.ensures ∙ ap (sets old 0) c.report_in-report.ensures in
    let second = c.put_all-2.ensures ∙ (λ i. sets (first i) 7 (c.feedback_in-feedback.ensures i)) in
    let third = c.put_all-3.ensures ∙ (λ i. sets (second i) 16 (c.summary_in-summary.ensures i)) in
    c.put_all-4.ensures ∙ (λ i. sets (third i) 23 (as_flag a.c.reporting i ∷ c.reporter_in.ensures i ∷ [])) ∙ four_runs old a.c
