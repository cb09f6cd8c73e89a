use mathlib.Core.Path.{◌≡◌, ap, ◌∙◌}
use native.Mathlib.Omega.{arith}
use Prim.Native.Nat.{◌+◌, ◌-◌, ◌*◌}
use lib.ListN.{length}
use Rattle.source.specs.Totals.{fresh_totals}
use Rattle.mixed.specs.Blocks.{counted}
use Rattle.mixed.specs.Lines.{lines_in, ssrc_in, line_words}
use Rattle.mixed.specs.Places.{added_by}
use Rattle.mixed.proofs.Cuts.{length-lines}
use Rattle.mixed.proofs.Standing.{length-added}
use Rattle.mixed.proofs.Stored.{line_added}
use Rattle.mixed.proofs.Calls.{is_sound_lem, new_full, new_goes, takes_refuses, takes_goes}
use Rattle.mixed.proofs.counting.add.Goals as goal

pub returns-then-run-ge-MOST : goal.returns-then-run-ge-MOST
returns-then-run-ge-MOST c =
    let a = c.args in
    takes_refuses a.run a.lines.now (new_full (counted a.run.form a.n a.block.now) a.ssrc a.run.held a.lines.now c.if-run-ge-MOST.true)

pub lower-at-requires : goal.lower-at-requires
lower-at-requires c = let s = is_sound_lem c.requires.0 in (s.few, omega (arith, s.room, s.few))

pub push-requires : goal.push-requires
push-requires c =
    let s = is_sound_lem c.requires.0 in
    let room = c.if-run-ge-MOST.false in
    (c.lower-at.ensures.1, omega (arith, room), omega (arith, room, s.room))

pub slice_bounds-store-end : goal.slice_bounds-store-end
slice_bounds-store-end c =
    let s = is_sound_lem c.requires.0 in
    let room = c.if-run-ge-MOST.false in
    omega (arith, room, s.room, c.lower-at.ensures.1, c.push.auto.lines)

pub returns : goal.returns
returns c =
    let a = c.args in
    let ws = a.lines.now in
    let n = a.run.held in
    let count = counted a.run.form a.n a.block.now in
    let room = c.if-run-ge-MOST.false in
    let lower = c.lower-at in
    let push = c.push in
    let store = c.store in
    let made = c.counted-totals.ensures
    ∙ ap count c.fresh.ensures in
    let size : 13 * lower.result + 13 - 13 * lower.result ≡ 13 = omega arith in
    let more : n + 1 ≡ length (added_by ssrc_in (line_words a.ssrc (count fresh_totals)) (lines_in n ws)) =
    omega (arith, length-lines n ws, length-added ssrc_in (line_words a.ssrc (count fresh_totals)) (lines_in n ws)) in
    let long = (is_sound_lem c.requires.0).room in
    takes_goes a.run ws (new_goes count a.ssrc n ws room) more
    (line_added ws n lower.result (13 * lower.result + 13 - 13 * lower.result) a.ssrc (count fresh_totals) store.new.line size
    (store.ensures ∙ ap (line_words a.ssrc) made)
    push.new.lines lower.ensures.0 lower.ensures.1 (omega (arith, room, long)) push.ensures)
