use mathlib.Core.Path.{◌∙◌}
use mir.Syntax.{w32}
use mir.ValLaws.{to_z-of_z}
use Rattle.rtcp.specs.ReportBlocks.{report_block}
use Rattle.rtcp.proofs.reports.report_block_at.Goals as goal

pub returns : goal.returns
unfolding report_block
returns c =
    let lost = c.signed24 in
    let l = to_z-of_z w32 lost.result (record { sfits = lost.type_inv }) ∙ lost.ensures in
    λ i. record {
      fraction = c.byte.ensures i;
      lost = l i;
      highest = c.number32.ensures i;
      jitter = c.number32-2.ensures i;
      lsr = c.number32-3.ensures i;
      dlsr = c.number32-4.ensures i;
      reporter = c.number32-5.ensures i;
    }
