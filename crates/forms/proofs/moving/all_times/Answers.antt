use mathlib.Core.Path.{sym}
use native.Mathlib.Omega.{arith}
use Rattle.numbers.proofs.BigEndian.{Octets}
use Rattle.forms.proofs.Moved.{times_fit}
use Rattle.forms.proofs.moving.all_times.Goals as goal

pub all_short-requires : goal.all_short-requires
all_short-requires c = rw c.in-Two.is at c.requires

pub returns-in-One : goal.returns-in-One
returns-in-One c =
    let body = c.args.body.now in
    let octets : Octets body = λ i. omega (arith, c.shared_slice_known-1.given i) in
    rw c.in-One.is (sym (times_fit c.args.n body octets))

pub returns-in-Two : goal.returns-in-Two
returns-in-Two c = rw c.in-Two.is c.all_short.ensures
