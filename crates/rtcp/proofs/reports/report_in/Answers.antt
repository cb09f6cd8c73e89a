use Rattle.std.specs.Prelude.{Option, Some, None, ℕ}
use mathlib.Core.Path.{◌≡◌, sym, ap, ◌∙◌}
use native.Mathlib.Omega.{arith}
use Prim.Native.Nat.{◌+◌, ◌≤◌, ◌*◌}
use lib.ListN.{length}
use Rattle.answers.proofs.Conditions.{was_true, was_false}
use Rattle.rtcp.specs.Layout.{report_size}
use Rattle.rtcp.specs.ReportBlocks.{report_at, report_in}
use Rattle.rtcp.proofs.Whole.{blocks_behind, reports_within}
use Rattle.rtcp.proofs.Places.{entry_within}
use Rattle.rtcp.proofs.reports.report_in.Goals.{After-blocks_from, After-find_entry}
use Rattle.rtcp.proofs.reports.report_in.Goals as goal

-- the packet's report blocks lie in the compound
within : (c : After-blocks_from) → c.args.at + c.blocks_from.result + report_size * c.args.header.count ≤ length c.args.b.now
within c =
    let a = c.args in
    let s = c.requires in
    omega (arith, s.whole, c.blocks_from.ensures.value, reports_within a.header a.b.now a.at s (was_true c.is_report.ensures c.if-not-is_report.false))

-- the answer, by the place that is found
is : (c : After-find_entry) (p : Option ℕ) → c.find_entry.result ≡ p → report_at c.args.b.now c.args.at p ≡ report_in c.args.header c.args.b.now c.args.at c.args.media
unfolding report_in
is c p e =
    ap (report_at c.args.b.now c.args.at) (sym e ∙ c.find_entry.ensures)
    ∙ rw (was_true c.is_report.ensures c.if-not-is_report.false, ← c.blocks_from.ensures.value)

pub returns-then-not-is_report : goal.returns-then-not-is_report
unfolding report_in
returns-then-not-is_report c = rw (was_false c.is_report.ensures c.if-not-is_report.true)

pub find_entry-requires : goal.find_entry-requires
find_entry-requires c = (omega arith, within (goal.at.find_entry-requires c).After-blocks_from)

pub returns-in_err-entry : goal.returns-in_err-entry
returns-in_err-entry c = c.from_residual.ensures ∙ is (goal.at.returns-in_err-entry c).After-find_entry None c.in_err-entry.was

pub report_block_at-requires : goal.report_block_at-requires
report_block_at-requires c =
    let a = c.args in
    let at = c.in_ok-entry.entry in
    let from = a.at + c.blocks_from.result in
    let e = sym c.find_entry.ensures ∙ c.in_ok-entry.was in
    let fit = within (goal.at.report_block_at-requires c).After-blocks_from in (
      omega (arith, fit, c.blocks_from.ensures.value, blocks_behind a.header),
      omega (arith, fit, entry_within report_size a.b.now a.header.count from a.media at e),
    )

pub returns : goal.returns
returns c = ap Some c.report_block_at.ensures ∙ is (goal.at.returns c).After-find_entry (Some c.in_ok-entry.entry) c.in_ok-entry.was
