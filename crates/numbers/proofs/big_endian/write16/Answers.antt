use Rattle.std.proofs.Common.{◌≡◌, suc, ◌/◌, ◌%◌, set, sym, add-one, arith, length-set}
use lib.Seq.{set_out}
use Rattle.numbers.proofs.BigEndian.{bytes_two}
use Rattle.numbers.specs.BigEndian.{bytes}
use Rattle.answers.proofs.Stores.{sets-out}
use Rattle.numbers.proofs.big_endian.write16.Goals as goal

pub returns-then-out-at : goal.returns-then-out-at
returns-then-out-at c =
    let a = c.args in
    sym (sets-out a.out.now a.at (bytes 2 a.n) c.if-out-at.true)

pub returns-then-out-next : goal.returns-then-out-next
returns-then-out-next c =
    let a = c.args in
    let high : a.n / 256 % 256 ≡ a.n / 256 = omega arith in
    rw (bytes_two, high) (sym (set_out (set a.out.now a.at (a.n / 256)) (suc a.at) (a.n % 256) (omega (arith, simp length-set at c.if-out-next.true, length-set a.out.now a.at (a.n / 256)))))

pub returns : goal.returns
returns c =
    let a = c.args in
    let high : a.n / 256 % 256 ≡ a.n / 256 = omega arith in
    rw (bytes_two, high, add-one a.at)
