use borrow.Author.Rules.{rules}
use mathlib.Core.Path.{ap, ◌∙◌}
use Rattle.numbers.specs.Since.{signed}
use Rattle.numbers.proofs.Signed.{seen_is}
use Rattle.lent.specs.SourceWords.{source_with}
use Rattle.lent.proofs.source_words.source_with.Goals as goal

pub returns : goal.returns
unfolding source_with
returns c =
    λ i.
    record {
      base = record { 0 = (seen_is c.number.result (search rules) ∙ c.number.ensures ∙ ap (signed 64) c.word_at.ensures) i };
      highest = record { 0 = (seen_is c.number-2.result (search rules) ∙ c.number-2.ensures ∙ ap (signed 64) c.word_at-2.ensures) i };
      notect = c.word_at-3.ensures i;
      ect1 = c.word_at-4.ensures i;
      ect0 = c.word_at-5.ensures i;
      ce = c.word_at-6.ensures i;
      duplicates = c.word_at-7.ensures i;
      history = record { recent = c.word_at-8.ensures i; older = c.word_at-9.ensures i };
      remembered = c.args.remembered;
    }
