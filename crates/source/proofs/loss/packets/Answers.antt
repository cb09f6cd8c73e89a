use mathlib.Core.Path.{◌≡◌, sym, ◌∙◌}
use mathlib.Core.Bool.{true, false}
use native.Mathlib.Omega.{arith}
use Prim.Native.Nat.{ℕ, ◌+◌, ◌-◌, ◌^◌, ◌≤◌, ◌<◌}
use lib.IntN.{pos, ◌-ℤ◌}
use mir.Syntax.{w64}
use mir.Val.{SFits}
use mir.ValLaws.{to_z_pos, to_z-of_z}
use Rattle.std.proofs.lemmas.Int.{ints}
use Rattle.source.proofs.Facts.{facts, highest_fits}
use Rattle.source.specs.declared.Source.{Source}
use Rattle.numbers.proofs.Integers.{minus_pos}
use Rattle.source.specs.Record.{arrivals, distinct, lost, fresh, has_counted}
use Rattle.source.proofs.loss.packets.Goals as goal

-- the numbers from base to highest, the distinct arrivals, and lost
record Sizes (s : Source) (h b : ℕ) : Type 0 where
  ordered : b ≤ h
  near : h - b < 2 ^ 62
  few : arrivals s ≤ 2 ^ 48
  lost_is : lost s ≡ pos (h - b + 1) -ℤ pos (distinct s)

sizes : (s : Source) {h b : ℕ} → fresh s ≡ false → has_counted s ≡ true → s.highest.0 ≡ pos h → s.base.0 ≡ pos b → Sizes s h b
unfolding lost
sizes s {h} {b} new some eh eb =
    let f = facts s some in
    let high : f.high ≡ h = pos_inj (sym f.highest ∙ eh) in
    let low : f.low ≡ b = pos_inj (sym f.base ∙ eb) in
    let le : b ≤ h = omega (arith, f.ordered) in
    record {
      ordered = le;
      near = omega (arith, f.spread, f.most);
      few = f.most;
      lost_is = rw (new, eh, eb, minus_pos h b le);
    }
  where
    pos_inj : {m n : ℕ} → pos m ≡ pos n → m ≡ n
    pos_inj e = cc

-- a difference of numbers below 2^63 fits
difference_fits : (a b : ℕ) → a < 2 ^ 63 → b < 2 ^ 63 → SFits w64 (pos a -ℤ pos b)
difference_fits a b l m = omega (arith, ints)

pub natural-requires : goal.natural-requires
natural-requires c = (highest_fits c.args.s (facts c.args.s c.requires.1)).0

pub natural-requires-2 : goal.natural-requires-2
natural-requires-2 c =
    let f = facts c.args.s c.requires.1 in
    rw f.base tt

pub overflow_sub-span : goal.overflow_sub-span
overflow_sub-span c = (sizes c.args.s c.requires.0 c.requires.1 c.natural.ensures c.natural-2.ensures).ordered

pub overflow_sub-distinct : goal.overflow_sub-distinct
overflow_sub-distinct c =
    let f = facts c.args.s c.requires.1 in
    omega (arith, f.fewer, f.most)

pub overflow_cast-result : goal.overflow_cast-result
overflow_cast-result c =
    let z = sizes c.args.s c.requires.0 c.requires.1 c.natural.ensures c.natural-2.ensures in
    record { sfits = omega (arith, z.near) }

pub overflow_sub-result : goal.overflow_sub-result
overflow_sub-result c =
    let z = sizes c.args.s c.requires.0 c.requires.1 c.natural.ensures c.natural-2.ensures in
    omega (arith, ints, z.near)

pub returns : goal.returns
returns c =
    let z = sizes c.args.s c.requires.0 c.requires.1 c.natural.ensures c.natural-2.ensures in
    let span : ℕ = c.natural.result - c.natural-2.result + 1 in
    let some : ℕ = distinct c.args.s in
    let few : some < 2 ^ 63 = omega (arith, z.few) in
    let near : span < 2 ^ 63 = omega (arith, z.near) in
    let same : c.arrivals.result - c.args.s.duplicates ≡ some = omega (arith, z.few) in
    rw (to_z_pos w64 span near, same, to_z_pos w64 some few, to_z-of_z w64 (pos span -ℤ pos some) (difference_fits span some near few)) (sym z.lost_is)
