use Prim.Native.Nat.{◌-◌}
use lib.ListN.{length}
use Rattle.sources.proofs.KnownLoop.{Loop}
use Rattle.sources.proofs.known.take.Given as goal

abbrev pub invariant-loop-at : goal.invariant-loop-at
invariant-loop-at l =
    Loop l.piece (record { form = l.form; length = l.length; table = l.initial.table; tallies = l.initial.tallies }) l.initial.at
    (record { form = l.form; length = l.length; table = l.table; tallies = l.tallies }) l.at

abbrev pub decreases-loop-at : goal.decreases-loop-at
decreases-loop-at l = length l.piece - l.at
