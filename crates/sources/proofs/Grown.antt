-- A record that counts an arrival is held. Assumes nothing.
use mathlib.Core.Path.{◌≡◌, refl, ap}
use mathlib.Core.Bool.{Bool, true, false}
use mathlib.Core.List.{List, [], ◌∷◌}
use Prim.Native.Nat.{ℕ, ◌+◌, ◌≤◌}
use native.Mathlib.Omega.{arith}
use borrow.Author.Tests.{leb-true, leb-false}
use lib.Dec.{leb}
use lib.ListN.{length}
use Rattle.answers.proofs.Conditions.{and_left}
use Rattle.format.specs.declared.Wire.{Wire}
use Rattle.source.specs.declared.Source.{Source}
use Rattle.source.specs.declared.Arrival.{Arrival}
use Rattle.source.specs.Record.{arrivals, fresh_record, sound}
use Rattle.source.specs.Arrivals.{first, ahead, behind, remembering, arrival, after}
use Rattle.source.specs.declared.BlockCount.TheVariants as block
use Rattle.source.specs.Blocks.{Packet, marks_fit, count_all}
use Rattle.source.proofs.Answers.{Answered, malformed, limits, full, was_first, was_ahead, was_behind, restarted, jump, answered, arrival_first}
use Rattle.source.proofs.Kept.{counted_arrivals}

counted_record : {s u : Source} {a b j r : ℕ} → block.Counted s a b ≡ block.Counted u j r → s ≡ u
counted_record e = cc

first_one : (s : Source) (wire : Wire) (mark : ℕ) → mark ≤ 3 → arrivals (first s wire mark) ≡ arrivals s + 1
unfolding first
first_one s wire mark m = counted_arrivals s mark m _ _ _ _

ahead_one : (s : Source) (d mark : ℕ) → mark ≤ 3 → arrivals (ahead s d mark) ≡ arrivals s + 1
unfolding ahead
ahead_one s d mark m = counted_arrivals s mark m _ _ _ _

behind_one_lem : (s : Source) (k mark : ℕ) → mark ≤ 3 → arrivals (behind s k mark) ≡ arrivals s + 1
unfolding behind
behind_one_lem s k mark m = counted_arrivals s mark m _ _ _ _

more : (s : Source) (wire : Wire) (mark : ℕ) {a : Arrival} → Answered s wire mark a → 1 ≤ arrivals s → 1 ≤ arrivals (after a)
unfolding remembering
more s wire mark malformed h = h
more s wire mark limits h = h
more s wire mark full h = h
more s wire mark (was_first c z) h = omega (arith, first_one s wire mark c.mark_fits)
more s wire mark (was_ahead d t) h = omega (arith, ahead_one s d mark t.counts.mark_fits)
more s wire mark (was_behind k t) h = omega (arith, behind_one_lem s k mark t.counts.mark_fits)
more s wire mark (restarted t) h = omega (arith, first_one fresh_record wire mark t.counts.mark_fits)
more s wire mark (jump t) h = h

pub grown : (s : Source) (wire : Wire) (mark : ℕ) → sound s ≡ true → mark ≤ 3 → 1 ≤ arrivals (after (arrival s wire mark))
grown s wire mark e m = go (leb 1 (arrivals s)) refl
  where
    go : (b : Bool) → leb 1 (arrivals s) ≡ b → 1 ≤ arrivals (after (arrival s wire mark))
    go true h = more s wire mark (answered s wire mark) (leb-true 1 (arrivals s) h)
    go false h =
        let l = leb-false 1 (arrivals s) h in
        let z : arrivals s ≡ 0 = omega arith in
        let a = ap (λ (b : Arrival). arrivals (after b)) (arrival_first s wire mark e m z) in
        omega (arith, a, first_one s wire mark m)

-- ---- a block

counts_more : (ps : List Packet) (s : Source) (jumps restarts : ℕ) {u : Source} {j r : ℕ} → 1 ≤ arrivals s → count_all ps s jumps restarts ≡ block.Counted u j r → 1 ≤ arrivals u
unfolding count_all
counts_more [] s jumps restarts h e = omega (arith, ap arrivals (counted_record e))
counts_more (p ∷ ps) s jumps restarts h e =
    counts_more ps (after (arrival s p.wire p.mark)) _ _ (more s p.wire p.mark (answered s p.wire p.mark) h) e

-- a block of some packets with marks of at most 3
pub block_grown : (ps : List Packet) (s : Source) {u : Source} {j r : ℕ} → sound s ≡ true → 1 ≤ length ps → marks_fit ps ≡ true → count_all ps s 0 0 ≡ block.Counted u j r → 1 ≤ arrivals u
unfolding count_all
block_grown [] s e n m c = absurd (omega arith)
block_grown (p ∷ ps) s e n m c =
    counts_more ps (after (arrival s p.wire p.mark)) _ _
    (grown s p.wire p.mark e (leb-true p.mark 3 (and_left (leb p.mark 3) (marks_fit ps) m))) c
