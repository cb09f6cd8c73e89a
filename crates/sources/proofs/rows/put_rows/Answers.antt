use mathlib.Core.Path.{refl, sym, ap, ◌∙◌}
use mathlib.Core.List.{List}
use Prim.Native.Nat.{ℕ, ◌+◌}
use native.Mathlib.Omega.{arith}
use lib.ListN.{length, drop, length-append}
use lib.Seq.{sets, length-sets}
use Rattle.answers.proofs.Stores.{sets-append}
use Rattle.sources.specs.Rows.{lines_of, label_of, rows_of, row_of}
use Rattle.sources.proofs.LineLaws.{rows_next, rows_over}
use Rattle.sources.proofs.rows.put_rows.Goals.{After-slice_known-in-loop-i-1}
use Rattle.sources.proofs.rows.put_rows.Invariants.{Loop}
use Rattle.sources.proofs.rows.put_rows.Goals as goal

turn : (c : After-slice_known-in-loop-i-1)
    → let a = c.args in Loop (label_of a.run a.zeroth.now) a.run a.out.now c.put_row-at.new.out (c.loop-i.at + c.put_row-at.result) (c.loop-i.i + 1)
turn c =
    let a = c.args in
    let l = c.loop-i in
    let h = c.loop-i-test.true in
    let r = c.put_row-at.ensures in
    let row = row_of a.run l.i a.zeroth.now in
    let rest = rows_of (label_of a.run a.zeroth.now) (drop (l.i + 1) (lines_of a.run)) in
    let next = rows_next a.run a.zeroth.now a.n c.requires.0 l.i h in
    record {
      stores =
          ap (λ (o : List ℕ). sets o (l.at + c.put_row-at.result) rest) r.1
          ∙ ap (λ (k : ℕ). sets (sets l.out l.at row) (l.at + k) rest) r.0
          ∙ sym (sets-append l.out l.at row rest) ∙ ap (sets l.out l.at) (sym next) ∙ l.invariant.stores;
      size = ap length r.1 ∙ length-sets l.out l.at row ∙ l.invariant.size;
      long = omega (arith, l.invariant.long, ap length next, length-append row rest, r.0);
    }

pub loop-i-init : goal.loop-i-init
loop-i-init c = record { stores = refl; size = refl; long = omega arith }

pub put_row-at-requires : goal.put_row-at-requires
put_row-at-requires c =
    let a = c.args in
    let l = c.loop-i in
    let h = c.loop-i-test.true in
    let next = rows_next a.run a.zeroth.now a.n c.requires.0 l.i h in
    let long = length-append (row_of a.run l.i a.zeroth.now) (rows_of (label_of a.run a.zeroth.now) (drop (l.i + 1) (lines_of a.run))) in
    (c.requires.0, h, omega (arith, ap length next, long, l.invariant.long, l.invariant.size, c.requires.1))

pub overflow_add-at : goal.overflow_add-at
overflow_add-at c = let t = turn (goal.at.overflow_add-at c).After-slice_known-in-loop-i-1 in omega (arith, t.long, c.requires.1, c.well_formed)

pub loop-i-preserved : goal.loop-i-preserved
loop-i-preserved c = turn (goal.at.loop-i-preserved c).After-slice_known-in-loop-i-1

pub shape_of-out : goal.shape_of-out
shape_of-out c = c.loop-i.invariant.size

pub returns : goal.returns
returns c =
    let a = c.args in
    let l = c.loop-i in
    sym (ap (sets l.out l.at) (rows_over a.run a.zeroth.now a.n c.requires.0 l.i c.loop-i-test.false)) ∙ l.invariant.stores
