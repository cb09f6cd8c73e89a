use mathlib.Core.Path.{ap, ◌∙◌}
use Prim.Native.Nat.{◌%◌, ◌^◌}
use lib.Dec.{eqb}
use Rattle.lent.specs.BreakerWords.{state_of, breaker_of}
use Rattle.lent.proofs.breaker_words.breaker_in.Goals as goal

pub returns : goal.returns
unfolding breaker_of
returns c =
    let state = c.state_of-state.ensures ∙ ap state_of c.word_at.ensures in
    λ i.
    record {
      settings = c.settings_in-settings.ensures i;
      state = state i;
      last = c.word_at-last.ensures i;
      heard = c.word_at-heard.ensures i;
      reported = eqb (c.word_at-reported.ensures i) 1;
      highest = c.word_at-highest.ensures i % 2 ^ 32;
      run = c.word_at-run.ensures i;
      trial = eqb (c.word_at-trial.ensures i) 1;
      window = c.window_in-window.ensures i;
    }
