use Rattle.std.specs.Prelude.{None}
use mathlib.Core.Path.{◌≡◌, sym, ap, ◌∙◌}
use native.Mathlib.Omega.{arith}
use Prim.Native.Nat.{ℕ, ◌+◌, ◌-◌}
use lib.ListN.{take, drop}
use mathlib.Core.List.{List}
use Rattle.answers.specs.Writers.{Wrote}
use Rattle.answers.proofs.Stores.{wrote_same}
use Rattle.table.specs.Lines.{row_fault, row_bytes}
use Rattle.walk.specs.Steps.{goes, state_after}
use Rattle.convert.specs.Runs.{row_of}
use Rattle.convert.proofs.Kept.{good, whole, row_fits}
use Rattle.convert.proofs.rows.row.Goals.{After-write_row-answer}
use Rattle.convert.proofs.rows.row.Goals as goal

-- what the row's writer answered and stored
written_row : (c : After-write_row-answer)
    → Wrote None (row_of c.args.next c.args.zeroth.now) c.args.out.now c.write_row-answer.result c.write_row-answer.new.out
unfolding row_of
written_row c =
    let next = c.args.next in
    let zeroth = c.args.zeroth.now in
    let same : 8 + next.length - 8 ≡ next.length = omega arith in
    let label = ap (λ (k : ℕ). take k (drop 8 zeroth)) same in
    wrote_same (ap (λ (l : List ℕ). row_fault l next.totals) label ∙ row_fits (good c.requires)) (ap (λ (l : List ℕ). row_bytes l next.ssrc next.totals) label) c.write_row-answer.ensures

pub overflow_add-end : goal.overflow_add-end
overflow_add-end c = omega (arith, (good c.requires).short)

pub slice_bounds-write_row-end : goal.slice_bounds-write_row-end
slice_bounds-write_row-end c = let g = good c.requires in omega (arith, g.short, whole g)

pub returns-in-Ok : goal.returns-in-Ok
returns-in-Ok c =
    let a = c.args in
    record { wrote = written_row (goal.at.returns-in-Ok c).After-write_row-answer; after = sym (ap (state_after a.run (goes a.next)) c.in-Ok.is) }

pub returns-in-Err : goal.returns-in-Err
returns-in-Err c =
    let a = c.args in
    record { wrote = written_row (goal.at.returns-in-Err c).After-write_row-answer; after = sym (ap (state_after a.run (goes a.next)) c.in-Err.is) }
