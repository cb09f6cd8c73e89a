use Rattle.std.specs.Prelude.{Result}
use Prim.Native.Nat.{ℕ, ◌<◌, ◌^◌}
use Rattle.answers.specs.declared.Unwritten.{Unwritten}
use Rattle.forms.specs.declared.Conversion.{Conversion}
use borrow.Author.Rules.{rules}
use mathlib.Core.Path.{sym, ap, subst, ◌∙◌}
use native.Mathlib.Omega.{arith}
use Rattle.numbers.proofs.Signed.{seen_is}
use Rattle.lent.specs.ConversionWords.{conversion_words}
use Rattle.capi.specs.FormsCalls.{begin_code, begin_words, begin_size}
use Rattle.capi.proofs.Fronts.{sets-whole}
use Rattle.capi.proofs.conversions.put_begun.Goals as goal

pub length-requires : goal.length-requires
length-requires c = omega (arith, ap begin_size c.in-Ok.is, c.requires.1)

pub unwritten-requires : goal.unwritten-requires
unwritten-requires c = subst (λ (b : Result (Conversion × ℕ) Unwritten). begin_size b < 2 ^ 54) c.in-Err.is c.requires.1

pub returns-in-Ok : goal.returns-in-Ok
returns-in-Ok c =
    let told = c.in-Ok.is in
    let old = c.args.words.now in
    let whole = sets-whole old (conversion_words c.in-Ok.first) c.requires.0 in
    record {
      answers = seen_is c.length.result (search rules) ∙ c.length.ensures ∙ sym (ap begin_code told);
      stores = c.store.ensures ∙ whole ∙ sym (ap (begin_words old) told);
    }

pub returns-in-Err : goal.returns-in-Err
returns-in-Err c =
    let told = c.in-Err.is in
    record {
      answers = seen_is c.unwritten.result (search rules) ∙ c.unwritten.ensures ∙ sym (ap begin_code told);
      stores = sym (ap (begin_words c.args.words.now) told);
    }
