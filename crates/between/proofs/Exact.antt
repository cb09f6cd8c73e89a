-- The differences between two reports are the true ones, and in the limits of a report's ECN counts. Assumes nothing.
use Rattle.std.specs.Prelude.{Ok, Err}
use mathlib.Core.Path.{◌≡◌, refl, sym, ◌∙◌, ap, subst⁻¹}
use mathlib.Core.Bool.{Bool, true, false, cond, ◌&&◌}
use Prim.Native.Nat.{ℕ, ◌^◌, ◌≤◌, ◌<◌}
use native.Mathlib.Decide.{dec_le}
use native.Mathlib.Omega.{arith}
use borrow.Author.Tests.{le-leb, lt-leb, leb-false}
use lib.Dec.{leb, ltb→lt}
use lib.IntN.{ℤ, pos, nat_abs, ◌-ℤ◌}
use lib.Pow.{pow_pos}
use lib.Signed.{◌<ℤ◌, <ℤ-≤ℤ_trans, le_z_yes}
use Rattle.answers.specs.declared.Refusal.TheVariants.{Limits}
use Rattle.numbers.specs.Since.{since, signed}
use Rattle.numbers.proofs.Integers.{minus_neg, modulo_lt}
use Rattle.numbers.proofs.Differences.{since_exact, signed_exact, signed_low, signed_high}
use Rattle.format.specs.declared.Counts.{Counts}
use Rattle.breaker.specs.declared.EcnCounts.{EcnCounts}
use Rattle.breaker.specs.Limits.{counts_ok}
use Rattle.between.specs.Differences.{signals_of, expecting_of}
use Rattle.between.specs.Theorems.{SignalsExact, BetweenExact, GivenInLimits}

-- ---- the true differences

pub signals_exact : SignalsExact
unfolding signals_of
signals_exact later earlier c d f g t =
    record {
      lost_is = (λ i. signed 16 (since 16 (f.lost i) (g.lost i))) ∙ signed_exact 15 later.lost earlier.lost t.some_lost t.few_lost;
      marked_is = (λ i. pos (since 16 (f.ce i) (g.ce i))) ∙ since_exact 16 later.ce earlier.ce t.some_marked t.few_marked;
    }

-- a difference below 2^31
below : (n : ℕ) {z : ℤ} → pos n ≡ z → z <ℤ pos (2 ^ 31) → n < 2 ^ 31
below n e h = ltb→lt n (2 ^ 31) (subst⁻¹ (λ (z : ℤ). z <ℤ pos (2 ^ 31)) e h).lt

pub between_exact : BetweenExact
unfolding expecting_of
between_exact later earlier c d m n f g p q t a =
    let e = since 32 m n in
    let is : pos e ≡ later.highest -ℤ earlier.highest =
    (λ i. pos (since 32 (p i) (q i))) ∙ since_exact 32 later.highest earlier.highest a.some (<ℤ-≤ℤ_trans a.few (le_z_yes tt)) in
    let given : EcnCounts = record { lost = (signals_of c d).lost; marked = (signals_of c d).marked; expected = e } in
    record {
      counts = given;
      given = ap (λ (b : Bool). cond b (Err Limits) (Ok given)) (lt-leb (2 ^ 31) e (below e is a.few));
      signals = signals_exact later earlier c d f g t;
      expected_is = is;
    }

-- ---- the limits

since_below : (width later earlier : ℕ) → since width later earlier < 2 ^ width
unfolding since
since_below width later earlier = modulo_lt (2 ^ width) (pow_pos width) (pos later -ℤ pos earlier)

signed_size : (n : ℕ) → n < 2 ^ 16 → nat_abs (signed 16 n) ≤ 2 ^ 31
signed_size n h = go (dec_le (2 ^ 15) n)
  where
    go : Dec (2 ^ 15 ≤ n) → nat_abs (signed 16 n) ≤ 2 ^ 31
    go (yes l) = rw (signed_high 15 n l, minus_neg n (2 ^ 16) h) (omega arith)
    go (no g) = rw (signed_low 15 n (omega arith)) (omega arith)

-- L and C of two reports, with a difference below 2^31
all_ok : (c d : Counts) (n : ℕ) → n < 2 ^ 31 → counts_ok (record { lost = (signals_of c d).lost; marked = (signals_of c d).marked; expected = n }) ≡ true
unfolding signals_of counts_ok
all_ok c d n h =
    let marked : since 16 c.ce d.ce ≤ 2 ^ 31 = omega (arith, since_below 16 c.ce d.ce) in
    λ i. le-leb (nat_abs (signed 16 (since 16 c.lost d.lost))) (2 ^ 31) (signed_size _ (since_below 16 c.lost d.lost)) i
    && (le-leb (since 16 c.ce d.ce) (2 ^ 31) marked i && (le-leb n (2 ^ 31) (omega arith) i && true))

pub given_in_limits : GivenInLimits
unfolding expecting_of
given_in_limits c d m n given = go (leb (2 ^ 31) e) refl
  where
    e : ℕ
    e = since 32 m n

    x : EcnCounts
    x = record { lost = (signals_of c d).lost; marked = (signals_of c d).marked; expected = e }

    go : (t : Bool) → leb (2 ^ 31) e ≡ t → cond t (Err Limits) (Ok x) ≡ Ok given → counts_ok given ≡ true
    go true q h = let z : ◌≡◌ {A = ℕ} 0 1 = cc in absurd (omega arith)
    go false q h = let same : x ≡ given = cc in sym (ap counts_ok same) ∙ all_ok c d e (leb-false (2 ^ 31) e q)
