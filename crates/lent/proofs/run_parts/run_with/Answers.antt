use mathlib.Core.Path.{ap, ◌∙◌}
use Rattle.lent.specs.FormWords.{form_of}
use Rattle.lent.specs.RunWords.{run_with}
use Rattle.lent.proofs.run_parts.run_with.Goals as goal

pub returns : goal.returns
unfolding run_with
returns c =
    let form = c.form_of-form.ensures ∙ ap form_of c.word_at.ensures in
    λ i.
    record {
      form = form i;
      length = c.word_at-length.ensures i;
      ssrc = c.word_at-ssrc.ensures i;
      totals = record {
        source = c.args.source;
        jumped = c.word_at-jumped.ensures i;
        restarts = c.word_at-restarts.ensures i;
      };
    }
