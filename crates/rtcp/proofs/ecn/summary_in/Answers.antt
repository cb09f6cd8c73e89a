use Rattle.std.specs.Prelude.{Option, Some, None, ℕ}
use mathlib.Core.Path.{◌≡◌, sym, ap, ◌∙◌}
use borrow.Author.Tests.{eq-eqb, ne_eqb}
use native.Mathlib.Omega.{arith}
use Prim.Native.Nat.{◌+◌, ◌/◌, ◌≤◌}
use lib.ListN.{length}
use Rattle.rtcp.specs.Layout.{entry_size}
use Rattle.rtcp.specs.EcnReports.{is_summary, summary_at, summary_in}
use Rattle.rtcp.proofs.Places.{entry_within}
use Rattle.rtcp.proofs.ecn.summary_in.Goals.{After-find_entry, In_ok-entry, then-block-ne-ECN_SUMMARY-via-then-block-ne-ECN_SUMMARY, then-block-ne-ECN_SUMMARY-via-else-block-ne-ECN_SUMMARY+then-block-ne0}
use Rattle.rtcp.proofs.ecn.summary_in.Goals as goal

-- the entry that is found lies in the compound
within : (c : In_ok-entry) → c.in_ok-entry.entry + entry_size ≤ length c.args.b.now
within c =
    let a = c.args in
    let e = sym c.find_entry.ensures ∙ c.in_ok-entry.was in
    omega (arith, c.requires, entry_within entry_size a.b.now (a.block.words / 5) (a.at + 4) a.media c.in_ok-entry.entry e)

-- the answer, by the place that is found
is : (c : After-find_entry) (p : Option ℕ) → c.find_entry.result ≡ p → summary_at c.args.b.now p ≡ summary_in c.args.block c.args.b.now c.args.at c.args.media
unfolding summary_in is_summary
is c p e = ap (summary_at c.args.b.now) (sym e ∙ c.find_entry.ensures) ∙ rw (eq-eqb _ _ c.if-block-ne-ECN_SUMMARY.false, eq-eqb _ _ c.if-block-ne0.false)

-- no summary block, or one that is passed over
pub returns-then-block-ne-ECN_SUMMARY : goal.returns-then-block-ne-ECN_SUMMARY
unfolding summary_in is_summary
returns-then-block-ne-ECN_SUMMARY c =
    elim c.then-block-ne-ECN_SUMMARY.branch [
      | then-block-ne-ECN_SUMMARY-via-then-block-ne-ECN_SUMMARY w ↦ rw (ne_eqb _ _ w.if-block-ne-ECN_SUMMARY.true)
      | then-block-ne-ECN_SUMMARY-via-else-block-ne-ECN_SUMMARY+then-block-ne0 w ↦
          rw (eq-eqb _ _ w.if-block-ne-ECN_SUMMARY.false, ne_eqb _ _ w.if-block-ne0.true)
    ]

pub returns-in_err-entry : goal.returns-in_err-entry
returns-in_err-entry c = c.from_residual.ensures ∙ is (goal.at.returns-in_err-entry c).After-find_entry None c.in_err-entry.was

pub overflow_add-entry : goal.overflow_add-entry
overflow_add-entry c = omega (arith, within (goal.at.overflow_add-entry c).In_ok-entry)

pub counts_at-requires : goal.counts_at-requires
counts_at-requires c = omega (arith, within (goal.at.counts_at-requires c).In_ok-entry)

pub returns : goal.returns
returns c = ap Some c.counts_at.ensures ∙ is (goal.at.returns c).After-find_entry (Some c.in_ok-entry.entry) c.in_ok-entry.was
