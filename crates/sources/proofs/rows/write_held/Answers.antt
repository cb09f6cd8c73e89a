use mathlib.Core.Path.{◌≡◌, refl, sym, ap, ◌∙◌}
use Prim.Native.Nat.{ℕ, ◌+◌, ◌-◌, ◌<◌}
use native.Mathlib.Omega.{arith}
use lib.ListN.{length, take, drop}
use Rattle.answers.proofs.Stores.{wrote_same}
use Rattle.table.specs.Lines.{row_fault, row_bytes}
use Rattle.sources.proofs.LineLaws.{own, its_length, most, totals, p, row_is, not_refused}
use Rattle.sources.proofs.rows.write_held.Goals.{Start}
use Rattle.sources.proofs.rows.write_held.Goals as goal

in16 : (s : Start) → s.args.i < 16
in16 s = omega (arith, s.requires.1, most _ _ _ s.requires.0)

pub offset_bounds-table-i : goal.offset_bounds-table-i
offset_bounds-table-i c = omega (arith, in16 (goal.at.offset_bounds-table-i c).Start)

pub bounds-table-i : goal.bounds-table-i
bounds-table-i c = in16 (goal.at.bounds-table-i c).Start

pub offset_bounds-run-i : goal.offset_bounds-run-i
offset_bounds-run-i c = omega (arith, in16 (goal.at.offset_bounds-run-i c).Start)

pub bounds-run-i : goal.bounds-run-i
bounds-run-i c = in16 (goal.at.bounds-run-i c).Start

pub overflow_add-end : goal.overflow_add-end
overflow_add-end c = omega (arith, its_length _ _ _ c.requires.0)

pub slice_bounds-write_line-end : goal.slice_bounds-write_line-end
slice_bounds-write_line-end c = omega (arith, its_length _ _ _ c.requires.0, (own _ _ _ c.requires.0).whole)

pub write_line-requires : goal.write_line-requires
write_line-requires c =
    let run = c.args.run in
    let zeroth = c.args.zeroth.now in
    let same : 8 + run.length - 8 ≡ run.length = omega arith in
    ap (λ (k : ℕ). row_fault (take k (drop 8 zeroth)) (totals run zeroth c.args.n c.requires.0 c.args.i c.requires.1)) same
    ∙ not_refused run zeroth c.args.n c.requires.0 c.args.i c.requires.1

pub returns : goal.returns
returns c =
    let run = c.args.run in
    let zeroth = c.args.zeroth.now in
    let same : 8 + run.length - 8 ≡ run.length = omega arith in
    let row = ap (λ (k : ℕ). row_bytes (take k (drop 8 zeroth)) (p run zeroth c.args.n c.requires.0 c.args.i c.requires.1).ssrc
    (totals run zeroth c.args.n c.requires.0 c.args.i c.requires.1)) same
    ∙ sym (row_is run zeroth c.args.n c.requires.0 c.args.i c.requires.1) in
    let w = c.write_line.ensures in
    (wrote_same refl row w.0, omega (arith, ap length row, w.1))
