use native.Mathlib.Omega.{arith}
use Rattle.numbers.proofs.BigEndian.{Octets}
use Rattle.convert.proofs.Kept.{good, sound_good, arrived_good}
use Rattle.convert.proofs.Forwarding.{forwarded_goes}
use Rattle.convert.proofs.rows.forward_row.Goals as goal

pub row-requires : goal.row-requires
row-requires c =
    let a = c.args in
    let octets : Octets a.block.now = λ i. omega (arith, c.shared_slice_known-2-1.given i) in
    rw c.counted-next.ensures (sound_good (arrived_good a.run a.zeroth.now a.n a.block.now octets (good c.requires.0)))

pub returns : goal.returns
returns c = rw (← c.counted-next.ensures) (forwarded_goes c.args.run c.row.ensures)
