use Rattle.std.specs.Prelude.{◌≡◌, Bool, true, false, cond, Some, None, Ok, Err}
use Rattle.std.specs.Result.{result_ok}
use mathlib.Core.Path.{refl, ap, ◌∙◌}
use borrow.Author.Tests.{eq-eqb, ne_eqb}
use lib.ListN.{length}
use Rattle.answers.specs.Conditions.{all}
use Rattle.breaker.specs.declared.Breaker.{Breaker}
use Rattle.lent.specs.BreakerWords.{words_fit, breaker_of}
use Rattle.capi.proofs.circuit.record_in.Goals as goal

pub returns-then-words-ne-WORDS : goal.returns-then-words-ne-WORDS
returns-then-words-ne-WORDS c = rw (ne_eqb (length c.args.words.now) 77 c.if-words-ne-WORDS.true)

-- a record that fits
fitting : (fits : Bool) (b : Breaker) → result_ok (cond fits (Ok b) (Err b)) ≡ cond fits (Some b) None
fitting true b = refl
fitting false b = refl

pub returns : goal.returns
returns c =
    let words = c.args.words.now in
    rw (eq-eqb (length words) 77 c.if-words-ne-WORDS.false)
    (c.ok.ensures.value ∙ ap result_ok c.load.ensures ∙ fitting (all (words_fit words)) (breaker_of words))
