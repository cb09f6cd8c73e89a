use native.Mathlib.Omega.{arith}
use Rattle.walk.specs.Pieces.{Octets, wholes}
use Rattle.convert.proofs.Longest.{done_few}
use Rattle.convert.proofs.feed_blocks.wanted.Goals as goal

pub returns-then-rest-room : goal.returns-then-rest-room
unfolding wholes
returns-then-rest-room c =
    let a = c.args in
    let lent-octets : Octets a.lent.now = λ i. omega (arith, c.shared_slice_known-1.given i) in
    let rest-octets : Octets a.rest.now = λ i. omega (arith, c.shared_slice_known-2-1.given i) in
    let few = done_few a.u a.lent.now a.rest.now c.requires (omega (arith, c.well_formed)) lent-octets rest-octets in
    record { enough = λ h. omega (arith, few, c.if-rest-room.true); exact = λ h. absurd (omega arith) }
