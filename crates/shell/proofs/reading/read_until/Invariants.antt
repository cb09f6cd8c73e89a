use mathlib.Core.Path.{◌≡◌}
use lib.ListN.{length, take}
use Rattle.shell.proofs.Filling.{Stands, to_go}
use Rattle.shell.proofs.reading.read_until.Given as goal

abbrev pub invariant-loop-input : goal.invariant-loop-input
invariant-loop-input l =
    (length l.buffer ≡ length l.initial.buffer) × Stands l.first l.enough (length l.initial.buffer) l.reading × (take l.first l.buffer ≡ take l.first l.initial.buffer)

abbrev pub decreases-loop-input : goal.decreases-loop-input
decreases-loop-input l = to_go (length l.initial.buffer) l.reading
