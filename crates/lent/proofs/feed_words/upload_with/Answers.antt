use mathlib.Core.Path.{ap, ◌∙◌}
use Rattle.lent.specs.FeedWords.{ended_of, upload_with}
use Rattle.lent.proofs.feed_words.upload_with.Goals as goal

pub returns : goal.returns
unfolding upload_with
returns c =
    λ i.
    record {
      run = c.run_with-run.ensures i;
      blocks = c.word_at-blocks.ensures i;
      kept = c.word_at-kept.ensures i;
      ended = (c.ended_of-ended.ensures ∙ ap ended_of c.word_at.ensures) i;
    }
