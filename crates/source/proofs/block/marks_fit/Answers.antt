use mathlib.Core.Path.{ap, ◌∙◌}
use native.Mathlib.Omega.{arith}
use Rattle.std.specs.Slice.Iter.{chunks_exact_rest, chunks_exact_size}
use Rattle.source.proofs.Packets.{Cut, marks_start, marks_end, marks_fail, marks_next}
use Rattle.source.proofs.block.marks_fit.Goals.{In-Some}
use Rattle.source.proofs.block.marks_fit.Goals as goal

-- the record of a turn, at the front of what was left
cut : (c : In-Some) → Cut c.args.width (chunks_exact_rest c.loop-record.record-iterator) c.in-Some.record.now (chunks_exact_rest c.next.new.self)
cut c = let t = c.in-Some.ensures.steps in record { joined = t.1.0; bytes = t.1.1 ∙ c.loop-record.invariant.2 }

pub loop-record-init : goal.loop-record-init
loop-record-init c = let size = ap (λ i. chunks_exact_size i) c.into_iter-record-iterator.ensures.into_iter_gives ∙ c.chunks_exact-record-items.ensures.size in (omega (arith, size), tt, size, marks_start c.args.width c.args.records.now c.requires.0 c.requires.1 cc)

pub returns-then-record-width-gt3 : goal.returns-then-record-width-gt3
returns-then-record-width-gt3 c =
    marks_fail c.args.width c.args.records.now c.loop-record.invariant.3 (cut (goal.at.returns-then-record-width-gt3 c).In-Some) c.if-record-width-gt3.true

pub loop-record-preserved : goal.loop-record-preserved
loop-record-preserved c =
    let size = c.in-Some.ensures.steps.0 ∙ c.loop-record.invariant.2 in (omega (arith, size, c.loop-record.invariant.0), tt, size, marks_next c.args.width c.args.records.now c.loop-record.invariant.3 (cut (goal.at.loop-record-preserved c).In-Some) c.if-record-width-gt3.false)

pub returns : goal.returns
returns c = marks_end c.args.width c.args.records.now c.loop-record.invariant.3 (omega (arith, c.in-None.ensures.steps.1.0, c.loop-record.invariant.2))
