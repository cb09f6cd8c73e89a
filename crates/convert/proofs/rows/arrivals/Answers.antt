use native.Mathlib.Omega.{arith}
use Rattle.numbers.proofs.BigEndian.{Octets}
use Rattle.convert.proofs.Kept.{good, sound_good, arrived_good}
use Rattle.convert.proofs.rows.arrivals.Goals as goal

pub row-requires : goal.row-requires
row-requires c =
    let octets : Octets c.args.block.now = λ i. omega (arith, c.shared_slice_known-2-1.given i) in
    rw c.counted-next.ensures
    (sound_good (arrived_good c.args.run c.args.zeroth.now c.args.n c.args.block.now octets (good c.requires.0)))

pub returns : goal.returns
returns c = rw (← c.counted-next.ensures) c.row.ensures
