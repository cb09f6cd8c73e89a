-- What a block's count gives, and that it keeps totals sound. Assumes nothing.
use mathlib.Core.Path.{◌≡◌, refl, ap}
use mathlib.Core.Bool.{Bool, true, false, not, cond}
use mathlib.Core.List.{List, [], ◌∷◌}
use Prim.Native.Nat.{ℕ, zero, suc, ◌+◌, ◌-◌, ◌*◌, ◌/◌, ◌%◌, ◌≤◌, ◌<◌}
use native.Mathlib.Nat.{mul-mod_left, mul-div_cancel}
use native.Mathlib.Omega.{arith}
use borrow.Author.Tests.{le-leb}
use lib.ListN.{length, drop}
use lib.Seq.{get_or-drop}
use Rattle.answers.specs.Conditions.{all}
use Rattle.answers.specs.declared.Refusal.TheVariants as refusal
use Rattle.numbers.proofs.BigEndian.{Octets, word_lt}
use Rattle.source.specs.declared.Source.{Source}
use Rattle.source.specs.declared.BlockCount.TheVariants.{Counted, Refused}
use Rattle.source.specs.declared.Totals.{Totals}
use Rattle.source.specs.Record.{sound}
use Rattle.source.specs.Arrivals.{arrival, after}
use Rattle.source.specs.Blocks.{Packet, packets, marks_fit, in_limits, jump, restart, count_all, block_count}
use Rattle.source.specs.Totals.{most_told, fresh_totals, with_block}
use Rattle.source.proofs.Facts.{fresh_sound}
use Rattle.source.proofs.Kept.{sound_stays}
use Rattle.source.proofs.Packets.{Limits, limits, jump_le, restart_le}

-- ---- packets, each with a wire number of 16 bits

pub Wires : List Packet → Type 0
Wires [] = Unit {0}
Wires (p ∷ ps) = (p.wire.0 < 65536) × Wires ps

pub packets_wires : (width n : ℕ) (s : List ℕ) → Octets s → Wires (packets width n s)
unfolding packets Wires
packets_wires width zero s o = tt
packets_wires width (suc n) s o = (word_lt s (width - 4) 2 o, packets_wires width n (drop width s) (λ i. rw (get_or-drop width s i 0) (o (width + i))))

pub length-packets : (width n : ℕ) (s : List ℕ) → length (packets width n s) ≡ n
unfolding packets
length-packets width zero s = refl
length-packets width (suc n) s = ap suc (length-packets width n (drop width s))

-- ---- counting them gives a sound record, and no more jumps or restarts than packets

pub record AllCounted (ps : List Packet) (s : Source) (jumps restarts : ℕ) : Type 0 where
  pub state : Source
  pub jumped : ℕ
  pub restarted : ℕ
  pub is : count_all ps s jumps restarts ≡ Counted state jumped restarted
  pub good : sound state ≡ true

pub all_counted : (ps : List Packet) (s : Source) (jumps restarts : ℕ) → Wires ps → sound s ≡ true → AllCounted ps s jumps restarts
unfolding count_all Wires
all_counted [] s jumps restarts w e = record { state = s; jumped = jumps; restarted = restarts; is = refl; good = e }
all_counted (p ∷ ps) s jumps restarts w e =
    let a = arrival s p.wire p.mark in
    let rest = all_counted ps (after a) (jumps + jump a) (restarts + restart a) w.1 (sound_stays s p.wire p.mark w.0 e) in
    record { state = rest.state; jumped = rest.jumped; restarted = rest.restarted; is = rest.is; good = rest.good }

pub all_few : (ps : List Packet) (s : Source) (jumps restarts : ℕ) {next : Source} {jumped restarted : ℕ} → count_all ps s jumps restarts ≡ Counted next jumped restarted
    → (jumped ≤ jumps + length ps) × (restarted ≤ restarts + length ps)
unfolding count_all
all_few [] s jumps restarts {jumped = jumped} {restarted = restarted} e =
    let q : jumps ≡ jumped = cc in
    let r : restarts ≡ restarted = cc in
    (omega arith, omega arith)
all_few (p ∷ ps) s jumps restarts e =
    let a = arrival s p.wire p.mark in
    let f = all_few ps (after a) (jumps + jump a) (restarts + restart a) e in
    (omega (arith, f.0, jump_le a), omega (arith, f.1, restart_le a))

-- ---- the call on a block

-- what it counts where nothing is refused
module _ (width n : ℕ) (bytes : List ℕ) (wide : 4 ≤ width) (long : length bytes ≡ n * width) (some : 1 ≤ n) (few : n ≤ 62) (fit : marks_fit (packets width n bytes) ≡ true) where
  pub block_counts : (s : Source) → sound s ≡ true → block_count s width bytes ≡ count_all (packets width n bytes) s 0 0
  unfolding block_count
  block_counts s g =
      let count : length bytes / width ≡ n = rw long (mul-div_cancel n (omega arith)) in
      let whole : length bytes % width ≡ 0 = rw long (mul-mod_left n width) in
      rw (g, whole, count, fit, le-leb 4 width wide, le-leb 1 n some, le-leb n 62 few)

-- and what its answer shows
module _ (s : Source) (width : ℕ) (bytes : List ℕ) where
  pub record BlockCounted (next : Source) (jumps restarts : ℕ) : Type 0 where
    pub good : sound s ≡ true
    pub within : Limits width bytes
    pub is : count_all (packets width (length bytes / width) bytes) s 0 0 ≡ Counted next jumps restarts

  module _ {next : Source} {jumps restarts : ℕ} (e : block_count s width bytes ≡ Counted next jumps restarts) where
    pub block_counted : BlockCounted next jumps restarts
    unfolding block_count
    block_counted = go (sound s) (all (in_limits width bytes)) refl refl e
      where
        go : (a b : Bool) → sound s ≡ a → all (in_limits width bytes) ≡ b
            → cond (not a) (Refused refusal.Malformed s) (cond (not b) (Refused refusal.Limits s) (count_all (packets width (length bytes / width) bytes) s 0 0)) ≡ Counted next jumps restarts
            → BlockCounted next jumps restarts
        go false b g l e = let z : ◌≡◌ {A = ℕ} 0 1 = cc in absurd (omega arith)
        go true false g l e = let z : ◌≡◌ {A = ℕ} 0 1 = cc in absurd (omega arith)
        go true true g l e = record { good = g; within = limits width bytes l; is = e }

    few_of : (jumps ≤ 0 + length (packets width (length bytes / width) bytes)) × (restarts ≤ 0 + length (packets width (length bytes / width) bytes))
    few_of = all_few (packets width (length bytes / width) bytes) s 0 0 block_counted.is

    pub few_jumps : jumps ≤ 62
    few_jumps = omega (arith, few_of.0, length-packets width (length bytes / width) bytes, block_counted.within.few)

    pub few_restarts : restarts ≤ 62
    few_restarts = omega (arith, few_of.1, length-packets width (length bytes / width) bytes, block_counted.within.few)

    pub next_sound : Octets bytes → sound next ≡ true
    next_sound o =
        let c = block_counted in
        let a = all_counted (packets width (length bytes / width) bytes) s 0 0 (packets_wires width (length bytes / width) bytes o) c.good in
        let same : a.state ≡ next = cc in
        rw same at a.good

-- ---- totals

pub record SoundTotals (t : Totals) : Type 0 where
  pub good : sound t.source ≡ true
  pub jumped : t.jumped ≤ most_told
  pub restarts : t.restarts ≤ most_told

pub fresh_totals_lem : SoundTotals fresh_totals
fresh_totals_lem = record { good = fresh_sound; jumped = omega arith; restarts = omega arith }

-- a block's count keeps them sound
pub totals_sound : (width n : ℕ) (bytes : List ℕ) → Octets bytes → (t : Totals) → SoundTotals t
    → SoundTotals (with_block t (count_all (packets width n bytes) t.source 0 0))
totals_sound width n bytes o t g =
    let c = all_counted (packets width n bytes) t.source 0 0 (packets_wires width n bytes o) g.good in
    rw c.is (record { good = c.good; jumped = omega arith; restarts = omega arith })
