use borrow.Author.Rules.{rules}
use mathlib.Core.Path.{sym, ◌∙◌}
use native.Mathlib.Nat.{le_of_eq}
use native.Mathlib.Omega.{arith}
use Rattle.source.specs.declared.Source.{Source}
use Rattle.report.specs.Reports.{fault, feedback_bytes}
use Rattle.answers.proofs.Stores.{wrote_size}
use Rattle.report.proofs.Layouts.{length-feedback}
use Rattle.capi.proofs.Answers.{coded}
use Rattle.capi.proofs.Records.{held_wrote, other_wrote}
use Rattle.capi.proofs.one_source.flasknib_write_feedback.Goals as goal

pub returns-in_default : goal.returns-in_default
returns-in_default c =
    let a = c.args in
    coded (search rules) c.minus.ensures
    (other_wrote a.words.now (λ (s : Source). fault s) (λ (s : Source). feedback_bytes a.sender a.media s) a.out.now (sym c.load.ensures ∙ c.in_default.is))

pub length-requires : goal.length-requires
length-requires c = omega (arith, wrote_size 32 (λ _. le_of_eq (length-feedback _ _ _ _)) c.write_feedback.ensures)

pub returns : goal.returns
returns c =
    let a = c.args in
    let e = sym c.load.ensures ∙ c.in-Some.is in
    coded (search rules) c.length.ensures
    (held_wrote a.words.now (λ (s : Source). fault s) (λ (s : Source). feedback_bytes a.sender a.media s) a.out.now e c.write_feedback.ensures)
