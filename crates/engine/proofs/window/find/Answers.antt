use Rattle.std.specs.Prelude.{Some}
use mathlib.Core.Path.{◌≡◌, refl, sym, ap, ◌∙◌}
use native.Mathlib.Omega.{arith}
use Prim.Native.Nat.{ℕ, ◌+◌, ◌-◌, ◌/◌, ◌%◌, ◌<◌}
use mathlib.Core.Bool.{true}
use borrow.Author.Tests.{lt-ltb, le-ltb}
use lib.ListN.{length}
use Rattle.numbers.proofs.BigEndian.{Octets, word_lt}
use Rattle.source.proofs.Totalled.{length-packets}
use Rattle.engine.specs.Windows.{held, within, row_from}
use Rattle.engine.proofs.InRow.{row_found, packets_wired, first_outside}
use Rattle.engine.proofs.window.find.Goals.{After-shared_slice_known-1}
use Rattle.engine.proofs.window.find.Goals as goal

octets : (c : After-shared_slice_known-1) → Octets c.args.records.now
octets c i = omega (arith, c.shared_slice_known-1.given i)

-- the first number is of 16 bits
narrow : (c : After-shared_slice_known-1) → c.args.first < 65536
narrow c =
    let a = c.args in
    rw c.requires.from_first.0 (word_lt a.records.now (a.width - 4) 2 (octets c))

pub overflow_sub-below : goal.overflow_sub-below
overflow_sub-below c = omega (arith, narrow (goal.at.overflow_sub-below c).After-shared_slice_known-1)

pub returns-then-below-ge-WIDE : goal.returns-then-below-ge-WIDE
returns-then-below-ge-WIDE c =
    rw (first_outside c.args.top c.args.width c.args.records.now c.args.n c.requires.held.0 (rw c.requires.from_first.0 at c.if-below-ge-WIDE.true))

pub returns-then-astray-eq0 : goal.returns-then-astray-eq0
returns-then-astray-eq0 c =
    let p = (goal.at.returns-then-astray-eq0 c).After-shared_slice_known-1 in
    let a = c.args in
    let s = a.records.now in
    let size = length-packets a.width (length s / a.width) s ∙ c.requires.held.0.count in
    c.row.ensures ∙ ap (λ (n : ℕ). row_from n ((a.top + 65536 - a.first) % 65536)) (sym size)
    ∙ row_found a.top (held a.width s) a.first ((a.top + 65536 - a.first) % 65536) (narrow p)
    (packets_wired a.width (length s / a.width) s (octets p)) (sym c.requires.from_first.1 ∙ c.if-astray-eq0.true) refl c.if-below-ge-WIDE.false

pub returns-then-found-ge-WIDE : goal.returns-then-found-ge-WIDE
returns-then-found-ge-WIDE c =
    let a = c.args in
    let seen = c.seen_in-found in
    rw (sym seen.ensures.joined ∙ le-ltb seen.result.joined 64 c.if-found-ge-WIDE.true)

pub returns : goal.returns
returns c =
    let a = c.args in
    let seen = c.seen_in-found in
    let all : within a.top (held a.width a.records.now) ≡ true = sym seen.ensures.joined ∙ lt-ltb seen.result.joined 64 c.if-found-ge-WIDE.false in
    rw all (ap Some (seen.ensures.bits all))
