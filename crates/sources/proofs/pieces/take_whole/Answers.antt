use borrow.Author.Rules.{rules}
use Prim.Native.Nat.{◌+◌, ◌-◌, ◌≤◌}
use mathlib.Core.Path.{sym, ◌∙◌}
use native.Mathlib.Omega.{arith}
use lib.ListN.{take, drop}
use Rattle.numbers.proofs.BigEndian.{Octets}
use Rattle.sources.specs.Runs.{next_of}
use Rattle.sources.proofs.Turns.{length-mapped}
use Rattle.sources.proofs.RunFaults.{good_run, run_good}
use Rattle.sources.proofs.RunSteps.{told_refuses, told_goes}
use Rattle.sources.proofs.KnownLoop.{Taking, taking_first, taking_onward, taking_last, taking_more, taking_refused, onward_on}
use Rattle.sources.proofs.pieces.take_whole.Lts.View.{up-After-shared_slice_known-1}
use Rattle.sources.proofs.pieces.take_whole.Goals.{After-shared_slice_known-1, After-take-known}
use Rattle.sources.proofs.pieces.take_whole.Goals as goal

bytes : (c : After-shared_slice_known-1) → Octets c.args.piece.now
bytes c = λ j. omega (arith, c.shared_slice_known-1.given j)

taken : (c : After-take-known) → Taking c.args.start c.args.piece.now c.take-known.result.run c.take-known.result.at
taken c = taking_onward (bytes (up-After-shared_slice_known-1 _ _ _ _ _ c.before.before.before.before)) c.loop-at.invariant c.take-known.ensures.0

onward_at : (c : After-take-known) → c.loop-at.at ≤ c.take-known.result.at
onward_at c = onward_on c.take-known.ensures.0

pub loop-at-init : goal.loop-at-init
loop-at-init c = taking_first (record { good = good_run c.args.start c.requires; long = search (rules, length-mapped) })

pub overflow_sub-piece : goal.overflow_sub-piece
overflow_sub-piece c = c.loop-at.invariant.within

pub take-known-requires : goal.take-known-requires
take-known-requires c = let l = c.loop-at in (run_good l.run l.invariant.whole.good, l.invariant.within)

pub overflow_sub-piece-in-loop-at : goal.overflow_sub-piece-in-loop-at
overflow_sub-piece-in-loop-at c = (taken (goal.at.overflow_sub-piece-in-loop-at c).After-take-known).within

pub returns-then-piece-from-lt-BLOCK : goal.returns-then-piece-from-lt-BLOCK
returns-then-piece-from-lt-BLOCK c =
    taking_last (bytes (goal.at.returns-then-piece-from-lt-BLOCK c).After-shared_slice_known-1)
    (taken (goal.at.returns-then-piece-from-lt-BLOCK c).After-take-known) c.if-piece-from-lt-BLOCK.true

pub overflow_add-end : goal.overflow_add-end
overflow_add-end c = omega (arith, (taken (goal.at.overflow_add-end c).After-take-known).within, c.if-piece-from-lt-BLOCK.false, c.well_formed)

pub slice_bounds-step-count : goal.slice_bounds-step-count
slice_bounds-step-count c = omega arith

pub slice_bounds-step-end : goal.slice_bounds-step-end
slice_bounds-step-end c = omega (arith, (taken (goal.at.slice_bounds-step-end c).After-take-known).within, c.if-piece-from-lt-BLOCK.false)

pub returns-in-Some : goal.returns-in-Some
returns-in-Some c =
    let a = c.args in
    let run = c.take-known.result.run in
    let at = c.take-known.result.at in
    taking_refused (bytes (goal.at.returns-in-Some c).After-shared_slice_known-1) (taken (goal.at.returns-in-Some c).After-take-known)
    (omega (arith, c.if-piece-from-lt-BLOCK.false))
    (told_refuses run (next_of run (take (at + 512 - at) (drop at a.piece.now))) c.step-next.result c.step-next.ensures (sym c.refusal_in.ensures ∙ c.in-Some.is))

pub loop-at-smaller : goal.loop-at-smaller
loop-at-smaller c =
    let p = (goal.at.loop-at-smaller c).After-take-known in
    omega (arith, c.loop-at.invariant.within, c.loop-at-test.true, onward_at p, (taken p).within, c.if-piece-from-lt-BLOCK.false)

pub loop-at-preserved : goal.loop-at-preserved
loop-at-preserved c =
    let a = c.args in
    let run = c.take-known.result.run in
    let at = c.take-known.result.at in
    taking_more (bytes (goal.at.loop-at-preserved c).After-shared_slice_known-1) (taken (goal.at.loop-at-preserved c).After-take-known)
    (omega (arith, c.if-piece-from-lt-BLOCK.false))
    (told_goes run (next_of run (take (at + 512 - at) (drop at a.piece.now))) c.step-next.result c.step-next.ensures (sym c.refusal_in.ensures ∙ c.in_default.is))

pub returns : goal.returns
returns c = let l = c.loop-at in taking_last (bytes (goal.at.returns c).After-shared_slice_known-1) l.invariant (omega (arith, c.loop-at-test.false))
