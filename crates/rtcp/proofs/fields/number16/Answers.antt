use mathlib.Core.Path.{◌∙◌}
use Rattle.numbers.proofs.BigEndian.{word_two}
use Rattle.rtcp.proofs.fields.number16.Goals as goal

pub returns : goal.returns
returns c =
    let a = c.args in
    c.join16.ensures ∙ rw (word_two, word_two a.b.now a.at)
