use borrow.Author.Rules.{rules}
use mathlib.Core.Path.{◌≡◌, refl, sym, ◌∙◌}
use mathlib.Core.Bool.{true}
use Rattle.std.proofs.lemmas.Result.{err_from_is_err_and}
use Rattle.answers.proofs.Stores.{wrote_refused, wrote_same}
use Rattle.answers.proofs.Conditions.{was_true, was_false}
use Rattle.numbers.proofs.Signed.{seen_is}
use Rattle.source.proofs.Losses.{Counted, lost_packets}
use Rattle.trace.proofs.Decisions.{label_short}
use Rattle.trace.specs.Contents.{label_ok}
use Rattle.table.specs.Lines.{row_bytes}
use Rattle.table.proofs.Faults.{fault_record, fault_label, fault_jumped, fault_restarts, fault_none}
use Rattle.table.proofs.write_row.Goals.{Else-not-is_label, In_ok-lost, then-not-is_label-via-then-not-is_label, then-not-is_label-via-else-not-is_label+then-t-gt-MOST, then-not-is_label-via-else-not-is_label+else-t-gt-MOST+then-t-gt-MOST-2}
use Rattle.table.proofs.write_row.Goals as goal

known : (c : In_ok-lost) → Counted c.args.t.source c.in_ok-lost.lost
known c = lost_packets c.args.t.source (sym c.lost.ensures.value ∙ c.in_ok-lost.was)

pub returns-in_err-lost : goal.returns-in_err-lost
returns-in_err-lost c =
    let a = c.args in
    let p = err_from_is_err_and c.from_residual.result c.from_residual.ensures.1 in
    rw (p.1, p.2) (wrote_refused (row_bytes a.label.now a.ssrc a.t) a.out.now (fault_record a.label.now a.t (sym c.lost.ensures.value ∙ c.in_err-lost.was)))

pub returns-then-not-is_label : goal.returns-then-not-is_label
returns-then-not-is_label c =
    let a = c.args in
    let good = (known (goal.at.returns-then-not-is_label c).In_ok-lost).good in
    wrote_refused (row_bytes a.label.now a.ssrc a.t) a.out.now
    (elim c.then-not-is_label.branch [
      | then-not-is_label-via-then-not-is_label w ↦ fault_label a.label.now a.t good (was_false c.is_label.ensures w.if-not-is_label.true)
      | then-not-is_label-via-else-not-is_label+then-t-gt-MOST w ↦
          fault_jumped a.label.now a.t good (was_true c.is_label.ensures w.if-not-is_label.false) w.if-t-gt-MOST.true
      | then-not-is_label-via-else-not-is_label+else-t-gt-MOST+then-t-gt-MOST-2 w ↦
          fault_restarts a.label.now a.t good (was_true c.is_label.ensures w.if-not-is_label.false) w.if-t-gt-MOST.false w.if-t-gt-MOST-2.true
    ])

-- behind the test of the label
label_ok_lem : (c : Else-not-is_label) → label_ok c.args.label.now ≡ true
label_ok_lem c = was_true c.is_label.ensures c.if-not-is_label.false

pub row-requires : goal.row-requires
row-requires c =
    let n = known (goal.at.row-requires c).In_ok-lost in
    (label_short c.args.label.now (label_ok_lem (goal.at.row-requires c).Else-not-is_label), n.good, seen_is c.in_ok-lost.lost (search rules) ∙ n.is)

pub returns : goal.returns
returns c =
    let a = c.args in
    let fault = fault_none a.label.now a.t (known (goal.at.returns c).In_ok-lost).good (label_ok_lem (goal.at.returns c).Else-not-is_label) c.if-t-gt-MOST.false c.if-t-gt-MOST-2.false in
    wrote_same (sym fault) refl c.row.ensures
