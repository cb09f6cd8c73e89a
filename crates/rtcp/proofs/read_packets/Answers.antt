use Rattle.std.specs.Prelude.{Ok, Err}
use Prim.Native.Nat.{ℕ, ◌+◌, ◌-◌}
use mathlib.Core.Path.{◌≡◌, sym, ap, ◌∙◌}
use mathlib.Core.Bool.{◌||◌}
use mathlib.Core.List.{[], ◌∷◌}
use native.Mathlib.Omega.{arith}
use borrow.Author.Rules.{rules}
use Rattle.rtcp.specs.declared.Compound.{Compound}
use Rattle.rtcp.specs.Packets.{Sound, body_end, packet_verdict}
use Rattle.rtcp.specs.ReportBlocks.{report_in}
use Rattle.rtcp.specs.EcnReports.{feedback_in}
use Rattle.rtcp.specs.Compound.{first_report, first_feedback}
use Rattle.rtcp.proofs.Whole.{sound}
use Rattle.rtcp.proofs.Left.{with_packet, from_block, from_packet, blocks_are, packets_done, packet_faulty, packet_other, packet_xr, packet_xr_faulty, all_left}
use Rattle.rtcp.proofs.read_packets.Goals.{At-loop-at, After-packet_verdict, In_ok-packet_verdict, After-padding_at, After-summary_behind}
use Rattle.rtcp.proofs.read_packets.Invariants.{told}
use Rattle.rtcp.proofs.read_packets.Goals as goal

-- ---- the packet at hand

abbrev found : (c : At-loop-at) → Compound
found c = let l = c.loop-at in told l.report l.feedback l.summary l.reporting

no_fault : (c : In_ok-packet_verdict) → packet_verdict c.args.profile c.header_at-header.result c.args.bytes.now c.loop-at.at ≡ Ok tt
no_fault c = sym c.packet_verdict.ensures ∙ c.in_ok-packet_verdict.was

fit : (c : In_ok-packet_verdict) → Sound c.header_at-header.result c.args.bytes.now c.loop-at.at
fit c = sound c.header_at-header.result c.args.bytes.now c.loop-at.at c.args.profile (no_fault c)

-- what is told of the blocks of an XR packet
of_blocks : (c : After-summary_behind) → from_block c.args.bytes.now c.args.media (body_end c.header_at-header.result c.args.bytes.now c.loop-at.at) (c.loop-at.at + 8) c.loop-at.summary ≡ c.summary_behind.result
of_blocks c =
    let b = c.args.bytes.now in
    let at = c.loop-at.at in
    ap (λ (p : ℕ). from_block b c.args.media (at + c.header_at-header.result.size - p) (at + 8) c.loop-at.summary) (sym c.padding_at.ensures.value)
    ∙ blocks_are b c.args.media _ (at + 8) c.loop-at.summary ∙ sym c.summary_behind.ensures

pub returns-in_err-packet_verdict : goal.returns-in_err-packet_verdict
returns-in_err-packet_verdict c =
    let a = c.args in
    let l = c.loop-at in
    let h = c.header_at-header in
    let f = c.in_err-packet_verdict in
    let refused : c.from_residual.result ≡ Err f.field-0.0 = search rules in
    refused
    ∙ sym (packet_faulty a.bytes.now a.media a.profile l.at (found (goal.at.returns-in_err-packet_verdict c).At-loop-at) c.loop-at-test.true h.result h.ensures.value f.field-0.0 (sym c.packet_verdict.ensures ∙ f.was))
    ∙ l.invariant ∙ all_left a.bytes.now a.media a.profile

pub padding_at-requires : goal.padding_at-requires
padding_at-requires c = (omega (arith, c.header_at-header.ensures.sized.0), (fit (goal.at.padding_at-requires c).In_ok-packet_verdict).whole)

pub overflow_sub-end : goal.overflow_sub-end
overflow_sub-end c = omega (arith, (fit (goal.at.overflow_sub-end c).In_ok-packet_verdict).padding, c.padding_at.ensures.value)

pub summary_behind-requires : goal.summary_behind-requires
summary_behind-requires c = omega (arith, (fit (goal.at.summary_behind-requires c).In_ok-packet_verdict).whole)

pub or_else-report-requires : goal.or_else-report-requires
or_else-report-requires c = let s = fit (goal.at.or_else-report-requires c).In_ok-packet_verdict in search rules

pub or_else-feedback-requires : goal.or_else-feedback-requires
or_else-feedback-requires c = let s = fit (goal.at.or_else-feedback-requires c).In_ok-packet_verdict in search rules

pub returns-in_err-summary : goal.returns-in_err-summary
returns-in_err-summary c =
    let a = c.args in
    let l = c.loop-at in
    let h = c.header_at-header in
    let f = c.in_err-summary in
    let refused : c.from_residual-in_err-summary.result ≡ Err f.field-0.0 = search rules in
    refused
    ∙ sym (packet_xr_faulty a.bytes.now a.media a.profile l.at (found (goal.at.returns-in_err-summary c).At-loop-at) c.loop-at-test.true h.result h.ensures.value (no_fault (goal.at.returns-in_err-summary c).In_ok-packet_verdict) c.if-header.true f.field-0.0 (of_blocks (goal.at.returns-in_err-summary c).After-summary_behind ∙ f.was))
    ∙ l.invariant ∙ all_left a.bytes.now a.media a.profile

pub loop-at-preserved-in_ok-summary : goal.loop-at-preserved-in_ok-summary
loop-at-preserved-in_ok-summary c =
    let a = c.args in
    let l = c.loop-at in
    let h = c.header_at-header in
    let s = c.in_ok-summary in
    sym (packet_xr a.bytes.now a.media a.profile l.at (found (goal.at.loop-at-preserved-in_ok-summary c).At-loop-at) c.loop-at-test.true h.result h.ensures.value (no_fault (goal.at.loop-at-preserved-in_ok-summary c).In_ok-packet_verdict) c.if-header.true s.summary (of_blocks (goal.at.loop-at-preserved-in_ok-summary c).After-summary_behind ∙ s.was))
    ∙ l.invariant

pub loop-at-preserved : goal.loop-at-preserved
unfolding with_packet
loop-at-preserved c =
    let a = c.args in
    let l = c.loop-at in
    let h = c.header_at-header in
    let report : c.or_else-report.result ≡ first_report (l.report ∷ report_in h.result a.bytes.now l.at a.media ∷ []) = search rules in
    let feedback : c.or_else-feedback.result ≡ first_feedback (l.feedback ∷ feedback_in h.result a.bytes.now l.at a.media ∷ []) = search rules in
    (λ i. from_packet a.bytes.now a.media a.profile (l.at + h.result.size) (told (report i) (feedback i) l.summary (l.reporting || c.is_report-reporting.ensures i)))
    ∙ sym (packet_other a.bytes.now a.media a.profile l.at (found (goal.at.loop-at-preserved c).At-loop-at) c.loop-at-test.true h.result h.ensures.value (no_fault (goal.at.loop-at-preserved c).In_ok-packet_verdict) c.if-header.false)
    ∙ l.invariant

pub returns : goal.returns
returns c =
    let a = c.args in
    let l = c.loop-at in
    sym (packets_done a.bytes.now a.media a.profile l.at (told l.report l.feedback l.summary l.reporting) c.loop-at-test.false) ∙ l.invariant ∙ all_left a.bytes.now a.media a.profile
