use Prim.Native.Nat.{◌+◌, ◌-◌, ◌*◌, ◌≤◌}
use lib.ListN.{length}
use Rattle.sdp.proofs.Texting.{Left}
use Rattle.sdp.proofs.writer.with_methods.Given as goal

abbrev pub invariant-loop-m : goal.invariant-loop-m
invariant-loop-m l =
    (l.text.long + 5 * (length l.m-items - l.m-index) ≤ 96) × Left l.m-items l.initial.text l.text l.m-index
