use borrow.Author.Rules.{rules}
use mathlib.Core.Path.{subst}
use Prim.Native.Nat.{◌+◌, ◌-◌}
use native.Mathlib.Omega.{arith}
use lib.ListN.{get_or, take, drop}
use Rattle.numbers.proofs.BigEndian.{Octets}
use Rattle.sources.specs.Places.{empty_place}
use Rattle.sources.specs.Tallies.{no_tally}
use Rattle.sources.specs.Known.{Renews, here}
use Rattle.sources.proofs.Turns.{length-mapped}
use Rattle.sources.proofs.RunFaults.{good_run, run_good}
use Rattle.sources.proofs.KnownLoop.{loop_turn}
use Rattle.sources.proofs.known.take.Goals as goal

pub loop-at-init : goal.loop-at-init
loop-at-init c =
    record { onward = here; whole = record { good = good_run c.args.start c.requires.0; long = search (rules, length-mapped) }; within = c.requires.1 }

pub overflow_sub-piece : goal.overflow_sub-piece
overflow_sub-piece c = c.loop-at.invariant.within

pub overflow_add-end : goal.overflow_add-end
overflow_add-end c = omega (arith, c.loop-at.invariant.within, c.loop-at-test.true, c.well_formed)

pub overflow_add-at : goal.overflow_add-at
overflow_add-at c = omega (arith, c.loop-at.invariant.within, c.loop-at-test.true, c.well_formed)

pub read32-requires : goal.read32-requires
read32-requires c = omega (arith, c.loop-at.invariant.within, c.loop-at-test.true)

pub offset_bounds-table-i : goal.offset_bounds-table-i
offset_bounds-table-i c = omega (arith, c.place_of-i.ensures)

pub bounds-table-i : goal.bounds-table-i
bounds-table-i c = c.place_of-i.ensures

pub offset_bounds-tallies-i : goal.offset_bounds-tallies-i
offset_bounds-tallies-i c = omega (arith, c.place_of-i.ensures)

pub bounds-tallies-i : goal.bounds-tallies-i
bounds-tallies-i c = c.place_of-i.ensures

pub slice_bounds-renewed-count : goal.slice_bounds-renewed-count
slice_bounds-renewed-count c = omega arith

pub slice_bounds-renewed-end : goal.slice_bounds-renewed-end
slice_bounds-renewed-end c = omega (arith, c.loop-at.invariant.within, c.loop-at-test.true)

pub offset_bounds-table-i-in-Some : goal.offset_bounds-table-i-in-Some
offset_bounds-table-i-in-Some c = omega (arith, c.place_of-i.ensures)

pub bounds-table-i-in-Some : goal.bounds-table-i-in-Some
bounds-table-i-in-Some c = c.place_of-i.ensures

pub offset_bounds-tallies-i-in-Some : goal.offset_bounds-tallies-i-in-Some
offset_bounds-tallies-i-in-Some c = omega (arith, c.place_of-i.ensures)

pub bounds-tallies-i-in-Some : goal.bounds-tallies-i-in-Some
bounds-tallies-i-in-Some c = c.place_of-i.ensures

pub returns-in-None : goal.returns-in-None
returns-in-None c = let l = c.loop-at in (l.invariant.onward, run_good _ l.invariant.whole.good)

pub loop-at-smaller : goal.loop-at-smaller
loop-at-smaller c = omega (arith, c.loop-at.invariant.within, c.loop-at-test.true)

pub loop-at-preserved : goal.loop-at-preserved
loop-at-preserved c =
    let l = c.loop-at in
    let a = c.args in
    let piece = a.piece.now in
    let i = c.place_of-i.result in
    let octets : Octets piece = λ j. omega (arith, c.shared_slice_known-1.given j) in
    loop_turn l.invariant c.loop-at-test.true octets i
    (subst (Renews a.start.form (get_or l.table.places i empty_place) (get_or l.tallies i no_tally) (take (l.at + 512 - l.at) (drop l.at piece)))
    c.in-Some.is c.renewed.ensures)

pub returns : goal.returns
returns c = let l = c.loop-at in (l.invariant.onward, run_good _ l.invariant.whole.good)
