use mathlib.Core.Path.{refl, ap, ◌∙◌}
use borrow.Author.Tests.{eq-eqb, ne_eqb}
use lib.ListN.{length}
use Rattle.sources.specs.declared.runs.Step.{Step}
use Rattle.lent.specs.StreamWords.{run_words}
use Rattle.capi.specs.Codes.{refusal_code}
use Rattle.capi.specs.StepCalls.{words_after}
use Rattle.capi.specs.StreamsCalls.{started}
use Rattle.capi.proofs.streams_runs.flasknib_streams_start.Goals as goal

pub returns-then-run-ne-WORDS : goal.returns-then-run-ne-WORDS
unfolding started
returns-then-run-ne-WORDS c = rw (ne_eqb (length c.args.run.now) 3 c.if-run-ne-WORDS.true) (record { answers = c.number.ensures; stores = refl })

pub returns : goal.returns
unfolding started
returns c =
    let words = c.args.run.now in
    let l = c.put_run.ensures in
    let e = c.start.ensures in
    rw (eq-eqb (length words) 3 c.if-run-ne-WORDS.false) (record {
      answers = l.answers ∙ ap (λ (s : Step). refusal_code s.answer) e;
      stores = l.stores ∙ ap (λ (s : Step). words_after words (run_words s.run) s.answer) e;
    })
