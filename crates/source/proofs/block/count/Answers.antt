use native.Mathlib.Omega.{arith}
use mathlib.Core.Path.{◌≡◌, refl, sym, ap, subst, ◌∙◌}
use Prim.Native.Nat.{◌+◌, ◌<◌, ◌≤◌}
use Rattle.std.specs.Slice.Iter.{chunks_exact_rest, chunks_exact_size}
use Rattle.source.specs.declared.Source.{Source}
use Rattle.source.specs.declared.Arrival.{Arrival}
use Rattle.source.specs.Record.{sound}
use Rattle.source.specs.Arrivals.{arrival, after}
use Rattle.source.specs.Blocks.{Packet}
use Rattle.source.proofs.Kept.{sound_stays}
use Rattle.source.proofs.Packets.{Cut, packet_in, packet_is, limits, CountLeft, count_start, mark_here, room_here, jump_le, restart_le, count_next, count_end}
use Rattle.source.proofs.block.count.Goals.{In-Some}
use Rattle.source.proofs.block.count.Goals as goal

-- the record of a turn, at the front of what was left
cut : (c : In-Some) → Cut c.args.width (chunks_exact_rest c.loop-record.record-iterator) c.in-Some.record.now (chunks_exact_rest c.next.new.self)
cut c = let t = c.in-Some.ensures.steps in record { joined = t.1.0; bytes = t.1.1 ∙ c.loop-record.invariant.2 }

-- at most 61 of each before a turn
few : (c : In-Some) → (c.loop-record.jumps ≤ 61) × (c.loop-record.restarts ≤ 61)
few c = room_here c.args.width c.args.records.now c.args.s c.loop-record.invariant.3 (cut c)

pub loop-record-init : goal.loop-record-init
loop-record-init c =
    let l = limits c.args.width c.args.records.now c.requires.1 in
    let size = ap (λ i. chunks_exact_size i) c.into_iter-record-iterator.ensures.into_iter_gives ∙ c.chunks_exact-record-items.ensures.size in
    (omega (arith, size, l.wide), tt, size, count_start c.args.width c.args.records.now c.args.s l c.requires.0 cc)

pub step-answer-requires : goal.step-answer-requires
step-answer-requires c =
    let p = (goal.at.step-answer-requires c).In-Some in
    (c.loop-record.invariant.3.good, mark_here c.args.width c.args.records.now c.args.s c.loop-record.invariant.3 (cut p))

pub overflow_add-jumps : goal.overflow_add-jumps
overflow_add-jumps c = omega (arith, (few (goal.at.overflow_add-jumps c).In-Some).0, c.jump-jumps.ensures, jump_le c.step-answer.result)

pub overflow_add-restarts : goal.overflow_add-restarts
overflow_add-restarts c = omega (arith, (few (goal.at.overflow_add-restarts c).In-Some).1, c.restart-restarts.ensures, restart_le c.step-answer.result)

pub loop-record-preserved : goal.loop-record-preserved
loop-record-preserved c =
    let w = c.args.width in
    let s = c.args.records.now in
    let l = c.loop-record in
    let x = c.in-Some.record.now in
    let answer = c.step-answer in
    let same = packet_is w x l.invariant.3.wide c.join16.ensures refl in
    let wire = subst (λ (p : Packet). p.wire.0 < 65536) same (omega (arith, c.join16.type_inv)) in
    let is : answer.result ≡ arrival l.next (packet_in w x).wire (packet_in w x).mark =
    answer.ensures ∙ ap (λ (p : Packet). arrival l.next p.wire p.mark) same in
    let good = ap (λ (b : Arrival). sound (after b)) is ∙ sound_stays l.next _ _ wire l.invariant.3.good in
    let turn = count_next w s c.args.s l.invariant.3 (cut (goal.at.loop-record-preserved c).In-Some) answer.result is good in
    let size = c.in-Some.ensures.steps.0 ∙ l.invariant.2 in (
      omega (arith, size, l.invariant.0),
      tt,
      size,
      subst (λ (t : Source). CountLeft w s c.args.s (chunks_exact_rest c.next.new.self) t (l.jumps + c.jump-jumps.result) (l.restarts + c.restart-restarts.result))
          (sym c.after-next.ensures)
          (rw (c.jump-jumps.ensures, c.restart-restarts.ensures) turn),
    )

pub returns : goal.returns
returns c = count_end c.args.width c.args.records.now c.args.s c.loop-record.invariant.3 (omega (arith, c.in-None.ensures.steps.1.0, c.loop-record.invariant.2))
