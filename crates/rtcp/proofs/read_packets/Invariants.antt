use Rattle.std.specs.Prelude.{Option}
use Rattle.rtcp.specs.declared.ReportBlock.{ReportBlock}
use Rattle.rtcp.specs.declared.Feedback.{Feedback}
use Rattle.format.specs.declared.Counts.{Counts}
use Prim.Native.Nat.{◌-◌}
use mathlib.Core.Path.{◌≡◌}
use mathlib.Core.Bool.{Bool}
use lib.ListN.{length}
use Rattle.rtcp.specs.declared.Compound.{Compound}
use Rattle.rtcp.proofs.Left.{nothing, from_packet}
use Rattle.rtcp.proofs.read_packets.Given as goal

abbrev pub told : Option ReportBlock → Option Feedback → Option Counts → Bool → Compound
told r f s g = record { report = r; feedback = f; summary = s; reporting = g }

abbrev pub invariant-loop-at : goal.invariant-loop-at
invariant-loop-at l =
    from_packet l.bytes l.media l.profile l.at (told l.report l.feedback l.summary l.reporting) ≡ from_packet l.bytes l.media l.profile 0 (nothing l.bytes l.media l.profile)

abbrev pub decreases-loop-at : goal.decreases-loop-at
decreases-loop-at l = length l.bytes - l.at
