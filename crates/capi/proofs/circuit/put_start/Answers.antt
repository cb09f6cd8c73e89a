use mathlib.Core.Path.{refl}
use Rattle.capi.proofs.Steps.{start_other, start_made}
use Rattle.capi.proofs.circuit.put_start.Goals as goal

pub returns-then-place-ne-WORDS : goal.returns-then-place-ne-WORDS
returns-then-place-ne-WORDS c =
    let a = c.args in
    start_other a.step a.place.now c.if-place-ne-WORDS.true c.code.ensures

pub put_back-requires : goal.put_back-requires
put_back-requires c = c.if-place-ne-WORDS.false

pub returns : goal.returns
returns c =
    let a = c.args in
    start_made a.place.now c.if-place-ne-WORDS.false refl c.put_back.ensures
