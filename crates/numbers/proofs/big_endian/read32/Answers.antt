use Rattle.std.proofs.Common.{ℕ, ◌+◌, ◌*◌, sym, ◌∙◌, ap₂}
use Rattle.numbers.proofs.BigEndian.{word_add, word_out}
use Rattle.numbers.proofs.big_endian.read32.Goals as goal

pub returns-then-s-at : goal.returns-then-s-at
returns-then-s-at c =
    let a = c.args in
    sym (word_out a.s.now a.at 4 c.if-s-at.true)

pub returns : goal.returns
returns c =
    let a = c.args in
    ap₂ (λ (x y : ℕ). x * 65536 + y) c.read16-high.ensures c.read16-low.ensures ∙ sym (word_add a.s.now a.at 2 2)
