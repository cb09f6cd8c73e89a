use borrow.Author.Rules.{rules}
use mathlib.Core.Path.{◌∙◌}
use native.Mathlib.Omega.{arith}
use Rattle.numbers.proofs.Signed.{seen_is}
use Rattle.capi.proofs.FormsSteps.{begins_other, begins_begun, begin_size_lem}
use Rattle.capi.proofs.conversions.flasknib_forms_start.Goals as goal

pub returns-then-words-ne-WORDS : goal.returns-then-words-ne-WORDS
returns-then-words-ne-WORDS c =
    let a = c.args in
    let w = begins_other a.words.now a.zeroth.now a.out.now c.if-words-ne-WORDS.true in
    record { answers = seen_is c.minus.result (search rules) ∙ c.minus.ensures ∙ w.answers; keeps = w.keeps; stores = w.stores }

pub put_begun-requires : goal.put_begun-requires
put_begun-requires c =
    let a = c.args in
    (c.if-words-ne-WORDS.false, omega (arith, begin_size_lem a.zeroth.now a.out.now c.start.ensures.began))

pub returns : goal.returns
returns c =
    let a = c.args in
    let w = begins_begun a.words.now a.zeroth.now a.out.now c.if-words-ne-WORDS.false c.start.ensures.began c.put_begun.ensures in
    record { answers = seen_is c.put_begun.result (search rules) ∙ w.answers; keeps = w.keeps; stores = w.stores }
