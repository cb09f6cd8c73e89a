use mathlib.Core.Path.{refl}
use Rattle.answers.proofs.Stores.{wrote_short, wrote_all}
use Rattle.answers.proofs.meanings.write_text.Goals as goal

pub returns-then-out-text : goal.returns-then-out-text
returns-then-out-text c =
    let a = c.args in
    wrote_short a.text.now a.out.now refl c.if-out-text.true refl

pub returns : goal.returns
returns c =
    let a = c.args in
    wrote_all a.text.now a.out.now refl c.if-out-text.false refl c.put_bytes.ensures
