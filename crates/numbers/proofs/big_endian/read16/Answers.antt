use Rattle.std.proofs.Common.{sym, ◌∙◌}
use lib.ListN.{get_or-eq_default}
use Rattle.numbers.proofs.BigEndian.{word_two, word_out}
use Rattle.numbers.proofs.big_endian.read16.Goals as goal

pub returns-then-s-at : goal.returns-then-s-at
returns-then-s-at c =
    let a = c.args in
    sym (word_out a.s.now a.at 2 c.if-s-at.true)

pub returns-then-s-next : goal.returns-then-s-next
returns-then-s-next c =
    let a = c.args in
    c.join16.ensures ∙ rw (word_two, word_two a.s.now a.at, get_or-eq_default a.s.now 0 c.if-s-next.true)

pub returns : goal.returns
returns c =
    let a = c.args in
    c.join16-2.ensures ∙ rw (word_two, word_two a.s.now a.at)
