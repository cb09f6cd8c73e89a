use Rattle.std.proofs.Common.{ℕ, ◌+◌, ◌/◌, sym, ap, ◌∙◌}
use Rattle.numbers.proofs.BigEndian.{bytes_add, bytes_mod, length-bytes}
use Rattle.numbers.specs.BigEndian.{bytes}
use Rattle.answers.proofs.Stores.{sets-out, sets-step}
use Rattle.numbers.proofs.big_endian.write32.Goals as goal

pub returns-then-out-at : goal.returns-then-out-at
returns-then-out-at c =
    let a = c.args in
    sym (sets-out a.out.now a.at (bytes 4 a.n) c.if-out-at.true)

pub returns : goal.returns
returns c =
    let a = c.args in
    let high = c.write16.ensures in
    let low = c.write16-2.ensures in
    low ∙ rw (bytes_mod 2 a.n) (sets-step a.out.now a.at (bytes 2 (a.n / 65536)) (bytes 2 a.n) (bytes_add 2 2 a.n) high (ap (λ (k : ℕ). a.at + k) (sym (length-bytes 2 (a.n / 65536)))))
