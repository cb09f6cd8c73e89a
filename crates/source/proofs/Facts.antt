-- What holds of a record that is sound, as facts about numbers. Assumes nothing.
use mathlib.Core.Path.{◌≡◌, refl, sym, ap₂, ◌∙◌}
use mathlib.Core.Bool.{Bool, true, false, and-true, or-true, false≢true}
use Prim.Native.Nat.{ℕ, ◌-◌, ◌*◌, ◌^◌, ◌≤◌, ◌<◌}
use native.Mathlib.Omega.{arith}
use borrow.Author.Tests.{leb-true, ltb-true, eqb-true, le-leb, lt-ltb, eq-eqb, ne_eqb}
use lib.Dec.{T, leb, ltb, eqb}
use lib.IntN.{ℤ, pos, negsuc, nat_abs, ◌-ℤ◌}
use lib.ListN.{get_or}
use lib.Signed.{le_z, non_neg}
use Rattle.answers.proofs.Conditions.{all_true, all_false, true_is}
use Rattle.numbers.proofs.Integers.{minus_pos, eq_z_eq}
use Rattle.numbers.proofs.Signed.{not_below_zero}
use Rattle.source.specs.declared.Source.{Source}
use Rattle.source.specs.Places.{marks, places}
use Rattle.source.specs.Distances.{most_ahead}
use Rattle.source.specs.Record.{arrivals, distinct, zeros, fresh_record, fresh, conditions, has_counted, sound}

-- ---- a record that has counted

pub record Facts (s : Source) : Type 0 where
  pub low : ℕ
  pub high : ℕ
  pub base : s.base.0 ≡ pos low
  pub highest : s.highest.0 ≡ pos high
  pub wire : low ≤ 65535
  pub ordered : low ≤ high
  pub some : 1 ≤ arrivals s
  pub most : arrivals s ≤ 2 ^ 48
  pub fewer : s.duplicates < arrivals s
  pub top : marks s.history 0 ≡ true
  pub fits : s.history.older < 2 ^ 36
  pub few : places s.history ≤ distinct s
  pub spread : high - low ≤ most_ahead * (distinct s - 1)

le_of : {a b : ℤ} (m n : ℕ) → a ≡ pos m → b ≡ pos n → le_z a b ≡ true → m ≤ n
le_of m n p q e = leb-true m n (rw (p, q) at e)

-- a number at least one that is not negative
natural_above : (a b : ℤ) → le_z (pos 0) a ≡ true → le_z a b ≡ true → (n : ℕ) × (b ≡ pos n)
natural_above (pos m) (pos n) e f = (n, refl)
natural_above (pos m) (negsuc n) e f = absurd (false≢true f)
natural_above (negsuc m) b e f = absurd (false≢true e)

pub facts : (s : Source) → has_counted s ≡ true → Facts s
unfolding has_counted
facts s e =
    let b = natural_above (pos 0) s.base.0 refl (all_true (conditions s) 0 e) in
    let h = natural_above s.base.0 s.highest.0 (all_true (conditions s) 0 e) (all_true (conditions s) 2 e) in
    let le : b.0 ≤ h.0 = le_of b.0 h.0 b.1 h.1 (all_true (conditions s) 2 e) in
    let d : le_z (s.highest.0 -ℤ s.base.0) (pos (most_ahead * (distinct s - 1))) ≡ true = all_true (conditions s) 9 e in
    record {
      low = b.0;
      high = h.0;
      base = b.1;
      highest = h.1;
      wire = le_of b.0 65535 b.1 refl (all_true (conditions s) 1 e);
      ordered = le;
      some = leb-true 1 (arrivals s) (all_true (conditions s) 3 e);
      most = leb-true (arrivals s) (2 ^ 48) (all_true (conditions s) 4 e);
      fewer = ltb-true s.duplicates (arrivals s) (all_true (conditions s) 5 e);
      top = all_true (conditions s) 6 e;
      fits = ltb-true s.history.older (2 ^ 36) (all_true (conditions s) 7 e);
      few = leb-true (places s.history) (distinct s) (all_true (conditions s) 8 e);
      spread = le_of (h.0 - b.0) (most_ahead * (distinct s - 1)) (ap₂ ◌-ℤ◌ h.1 b.1 ∙ minus_pos h.0 b.0 le) refl d;
    }

-- the highest number is natural, and far from the end of its type
pub highest_fits : (s : Source) → Facts s → T (non_neg s.highest.0) × (nat_abs s.highest.0 < 2 ^ 62)
highest_fits s f =
    let d : distinct s ≤ arrivals s = omega arith in
    rw f.highest (tt, omega (arith, f.spread, f.most, f.wire))

-- and back
pub facts_count : (s : Source) → Facts s → has_counted s ≡ true
unfolding has_counted
facts_count s f =
    let n : s.highest.0 -ℤ s.base.0 ≡ pos (f.high - f.low) = ap₂ ◌-ℤ◌ f.highest f.base ∙ minus_pos f.high f.low f.ordered in
    rw (
      f.top,
      n,
      f.base,
      f.highest,
      le-leb 0 f.low (omega arith),
      le-leb f.low 65535 f.wire,
      le-leb f.low f.high f.ordered,
      le-leb 1 (arrivals s) f.some,
      le-leb (arrivals s) (2 ^ 48) f.most,
      lt-ltb s.duplicates (arrivals s) f.fewer,
      lt-ltb s.history.older (2 ^ 36) f.fits,
      le-leb (places s.history) (distinct s) f.few,
      le-leb (f.high - f.low) (most_ahead * (distinct s - 1)) f.spread,
    )

-- one condition that fails decides
pub not_counted : (s : Source) (i : ℕ) → get_or (conditions s) i true ≡ false → false ≡ has_counted s
unfolding has_counted
not_counted s i e = all_false (conditions s) i e

-- ---- the conditions before the last, one by one

pub record Tests (s : Source) : Type 0 where
  pub base_low : le_z (pos 0) s.base.0 ≡ true
  pub base_high : le_z s.base.0 (pos 65535) ≡ true
  pub ordered : le_z s.base.0 s.highest.0 ≡ true
  pub some : leb 1 (arrivals s) ≡ true
  pub most : leb (arrivals s) (2 ^ 48) ≡ true
  pub fewer : ltb s.duplicates (arrivals s) ≡ true
  pub top : marks s.history 0 ≡ true
  pub fits : ltb s.history.older (2 ^ 36) ≡ true
  pub few : leb (places s.history) (distinct s) ≡ true

module _ (s : Source) (t : Tests s) where
  pub base_natural : T (non_neg s.base.0)
  base_natural = not_below_zero s.base.0 t.base_low

  pub highest_natural : T (non_neg s.highest.0)
  highest_natural = let h = natural_above s.base.0 s.highest.0 t.base_low t.ordered in rw h.1 tt

  pub in_order : (b h : ℕ) → s.base.0 ≡ pos b → s.highest.0 ≡ pos h → b ≤ h
  in_order b h p q = le_of b h p q t.ordered

  -- the last condition decides
  pub has_counted_last : (b h : ℕ) → s.base.0 ≡ pos b → s.highest.0 ≡ pos h → leb (h - b) (most_ahead * (distinct s - 1)) ≡ has_counted s
  unfolding has_counted
  has_counted_last b h p q =
      let span : s.highest.0 -ℤ s.base.0 ≡ pos (h - b) = ap₂ ◌-ℤ◌ q p ∙ minus_pos h b (in_order b h p q) in
      rw (t.base_low, t.base_high, t.ordered, t.some, t.most, t.fewer, t.top, t.fits, t.few, span) (sym (and-true (leb (h - b) (most_ahead * (distinct s - 1)))))

-- ---- the fresh record

pub fresh_none : (s : Source) → fresh s ≡ true → arrivals s ≡ 0
unfolding fresh
fresh_none s e =
    let a = eqb-true s.notect 0 (all_true (zeros s) 2 e) in
    let b = eqb-true s.ect1 0 (all_true (zeros s) 3 e) in
    let c = eqb-true s.ect0 0 (all_true (zeros s) 4 e) in
    let d = eqb-true s.ce 0 (all_true (zeros s) 5 e) in
    omega arith

pub not_zero : (n : ℕ) → 0 < n → eqb n 0 ≡ false
not_zero n h = ne_eqb n 0 (λ e. omega arith)

pub not_fresh : (s : Source) (i : ℕ) → get_or (zeros s) i true ≡ false → false ≡ fresh s
unfolding fresh
not_fresh s i e = all_false (zeros s) i e

pub fresh_sound : sound fresh_record ≡ true
unfolding sound fresh
fresh_sound = refl

-- ---- a sound record

pub sound_has_counted : (s : Source) → sound s ≡ true → fresh s ≡ false → has_counted s ≡ true
unfolding sound
sound_has_counted s e f = rw f at e

pub has_counted_sound : (s : Source) → has_counted s ≡ true → sound s ≡ true
unfolding sound
has_counted_sound s e = rw e (or-true (fresh s))

pub sound_most : (s : Source) → sound s ≡ true → arrivals s ≤ 2 ^ 48
sound_most s e = go (fresh s) refl
  where
    go : (b : Bool) → fresh s ≡ b → arrivals s ≤ 2 ^ 48
    go true f = omega (arith, fresh_none s f)
    go false f = (facts s (sound_has_counted s e f)).most

-- a sound record is fresh where it has no arrival
pub fresh_is : (s : Source) → sound s ≡ true → fresh s ≡ eqb (arrivals s) 0
fresh_is s e = go (fresh s) refl
  where
    go : (b : Bool) → fresh s ≡ b → b ≡ eqb (arrivals s) 0
    go true f = sym (eq-eqb (arrivals s) 0 (fresh_none s f))
    go false f = sym (ne_eqb (arrivals s) 0 (λ z. let some = (facts s (sound_has_counted s e f)).some in omega arith))

-- a sound record with an arrival has counted
pub some_has_counted : (s : Source) → sound s ≡ true → 1 ≤ arrivals s → has_counted s ≡ true
some_has_counted s e h = sound_has_counted s e (fresh_is s e ∙ ne_eqb (arrivals s) 0 (λ z. omega arith))

-- its highest number is natural
pub sound_highest : (s : Source) → sound s ≡ true → (n : ℕ) × (s.highest.0 ≡ pos n)
unfolding fresh
sound_highest s e = go (fresh s) refl
  where
    go : (b : Bool) → fresh s ≡ b → (n : ℕ) × (s.highest.0 ≡ pos n)
    go true f = (0, eq_z_eq s.highest.0 (pos 0) (true_is _ (all_true (zeros s) 1 f)))
    go false f = let k = facts s (sound_has_counted s e f) in (k.high, k.highest)
