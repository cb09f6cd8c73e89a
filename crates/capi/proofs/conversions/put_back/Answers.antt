use borrow.Author.Rules.{rules}
use mathlib.Core.Path.{◌∙◌}
use Rattle.numbers.proofs.Signed.{seen_is}
use Rattle.lent.specs.ConversionWords.{conversion_words}
use Rattle.capi.specs.Codes.{length_code}
use Rattle.capi.proofs.StepLaws.{words_stored, words_kept}
use Rattle.capi.proofs.conversions.put_back.Goals as goal

pub returns-in-Ok : goal.returns-in-Ok
returns-in-Ok c =
    let next = conversion_words c.args.step.conversion in
    words_stored length_code c.args.words.now next c.args.step.answer (seen_is c.length.result (search rules) ∙ c.length.ensures) c.in-Ok.is
    c.requires.0 c.store.ensures

pub returns-in-Err : goal.returns-in-Err
returns-in-Err c =
    let a = c.args in
    words_kept length_code a.words.now (conversion_words a.step.conversion) a.step.answer
    (seen_is c.length-in-Err.result (search rules) ∙ c.length-in-Err.ensures) c.in-Err.is
