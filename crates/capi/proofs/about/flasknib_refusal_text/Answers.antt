use borrow.Author.Rules.{rules}
use native.Mathlib.Omega.{arith}
use Rattle.answers.proofs.Meant.{meaning_fits}
use Rattle.answers.proofs.Stores.{wrote_size}
use Rattle.capi.proofs.Answers.{coded}
use Rattle.capi.proofs.about.flasknib_refusal_text.Goals as goal

pub length-requires : goal.length-requires
length-requires c =
    let a = c.args in
    omega (arith, wrote_size 80 (λ _. meaning_fits a.number) c.write_meaning.ensures)

pub returns : goal.returns
returns c = coded (search rules) c.length.ensures c.write_meaning.ensures
