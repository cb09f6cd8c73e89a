-- What a scan finds at a place is one of the grammar's: a character of a quoted string, a string, a value. Assumes nothing.
use mathlib.Core.Path.{◌≡◌, refl}
use mathlib.Core.Bool.{Bool, true, false, cond, ◌||◌, false≢true}
use mathlib.Core.List.{List, [], ◌∷◌, ◌++◌}
use Prim.Native.Nat.{ℕ, suc, ◌+◌, ◌≤◌, ◌<◌}
use native.Mathlib.Nat.{add-suc}
use native.Mathlib.Omega.{arith}
use borrow.Author.Tests.{eqb-false, eqb-true, ltb-true, ltb-false}
use lib.Dec.{eqb, ltb}
use lib.ListN.{drop, get_or}
use lib.Seq.{drop-cons}
use Rattle.sdp.specs.declared.fronts.Lead.{Lead}
use Rattle.sdp.specs.Grammar.{quotable, tail, within, Utf8, Qd}
use Rattle.sdp.specs.Lengths.{lead_of, leads, utf8_size, utf8_length, qd_length}
use Rattle.sdp.proofs.Fits.{inside, front, in_bounds, in_within}

-- ---- a choice by cases, with the test

pub cond_cases {ℓ} : {A : Type ℓ} (P : A → Type 0) (t : Bool) {x y : A} → (t ≡ true → P x) → (t ≡ false → P y) → P (cond t x y)
cond_cases P true p q = p refl
cond_cases P false p q = q refl

-- a choice that is not 0 whose other part is 0
chose : (t : Bool) (n : ℕ) → (cond t n 0 ≡ 0 → ⊥) → t ≡ true
chose true n h = refl
chose false n h = absurd (h refl)

nonzero : (least most c : ℕ) → 0 < least → within least most c ≡ true → c ≡ 0 → ⊥
nonzero least most c h e z = let (l, m) = in_bounds least most c e in omega arith

front_next : (s : List ℕ) (at i : ℕ) → (get_or s (at + i) 0 ≡ 0 → ⊥) → drop (at + i) s ≡ get_or s (at + i) 0 ∷ drop (at + suc i) s
front_next s at i h = rw (add-suc at i) (drop-cons s (at + i) 0 (inside s (at + i) h))

-- ---- UTF-8

data LeadIs (a : ℕ) : Lead → Type 0 where
  none : LeadIs a (leads 0 1 0)
  two : within 194 223 a ≡ true → LeadIs a (leads 2 128 191)
  E0 : a ≡ 224 → LeadIs a (leads 3 160 191)
  three : within 225 236 a || within 238 239 a ≡ true → LeadIs a (leads 3 128 191)
  ED : a ≡ 237 → LeadIs a (leads 3 128 159)
  F0 : a ≡ 240 → LeadIs a (leads 4 144 191)
  four : within 241 243 a ≡ true → LeadIs a (leads 4 128 191)
  F4 : a ≡ 244 → LeadIs a (leads 4 128 143)

three_in : (a : ℕ) → 225 ≤ a → a < 240 → (a ≡ 237 → ⊥) → within 225 236 a || within 238 239 a ≡ true
three_in a h k n = go (ltb a 237) refl
  where
    either : (b d : Bool) → b ≡ true → b || d ≡ true
    either true d e = refl
    either false d e = absurd (false≢true e)

    other : (b d : Bool) → d ≡ true → b || d ≡ true
    other true d e = refl
    other false d e = e

    go : (t : Bool) → ltb a 237 ≡ t → within 225 236 a || within 238 239 a ≡ true
    go true e = let l = ltb-true a 237 e in either (within 225 236 a) (within 238 239 a) (in_within 225 236 a h (omega arith))
    go false e =
        let l = ltb-false a 237 e in
        other (within 225 236 a) (within 238 239 a) (in_within 238 239 a (omega arith) (omega arith))

lead_is : (a : ℕ) → LeadIs a (lead_of a)
unfolding lead_of
lead_is a =
    cond_cases (LeadIs a) (ltb a 194) (λ e. none) λ e1.
    cond_cases (LeadIs a) (ltb a 224) (λ e. two (in_within 194 223 a (ltb-false a 194 e1) (let l = ltb-true a 224 e in omega arith))) λ e2.
    cond_cases (LeadIs a) (eqb a 224) (λ e. E0 (eqb-true a 224 e)) λ e3.
    cond_cases (LeadIs a) (eqb a 237) (λ e. ED (eqb-true a 237 e)) λ e4.
    cond_cases (LeadIs a) (ltb a 240)
    (λ e. three (three_in a (let l = ltb-false a 224 e2 in let n = eqb-false a 224 e3 in omega arith) (ltb-true a 240 e) (eqb-false a 237 e4))) λ e5.
    cond_cases (LeadIs a) (eqb a 240) (λ e. F0 (eqb-true a 240 e)) λ e6.
    cond_cases (LeadIs a) (ltb a 244)
    (λ e. four (in_within 241 243 a (let l = ltb-false a 240 e5 in let n = eqb-false a 240 e6 in omega arith) (let m = ltb-true a 244 e in omega arith))) λ e7.
    cond_cases (LeadIs a) (eqb a 244) (λ e. F4 (eqb-true a 244 e)) λ e8. none

-- ---- what a size that is not 0 says of the bytes

module _ (least most b c d : ℕ) where
  two_says : (utf8_size (leads 2 least most) b c d ≡ 0 → ⊥) → within least most b ≡ true
  unfolding utf8_size
  two_says h = chose (within least most b) 2 h

  three_says : (utf8_size (leads 3 least most) b c d ≡ 0 → ⊥) → (within least most b ≡ true) × (tail c ≡ true)
  unfolding utf8_size
  three_says h = let w = chose (within least most b) (cond (tail c) 3 0) h in (w, chose (tail c) 3 (rw w at h))

  four_says : (utf8_size (leads 4 least most) b c d ≡ 0 → ⊥) → (within least most b ≡ true) × (tail c ≡ true) × (tail d ≡ true)
  unfolding utf8_size
  four_says h =
      let w = chose (within least most b) (cond (tail c) (cond (tail d) 4 0) 0) h in
      let t = chose (tail c) (cond (tail d) 4 0) (rw w at h) in (w, t, chose (tail d) 4 (rw (w, t) at h))

  none_says : utf8_size (leads 0 1 0) b c d ≡ 0
  unfolding utf8_size
  none_says = cond_cases (λ n. n ≡ 0) (within 1 0 b) (λ e. refl) (λ e. refl)

-- a rule that holds of the front of a text
abbrev pub At : (List ℕ → Type 0) → List ℕ → Type 0
At P t = (q : List ℕ) × (r : List ℕ) × P q × (t ≡ q ++ r)

module _ (s : List ℕ) (at : ℕ) where
  abbrev b0 : ℕ
  b0 = get_or s at 0

  abbrev b1 : ℕ
  b1 = get_or s (at + 1) 0

  abbrev b2 : ℕ
  b2 = get_or s (at + 2) 0

  abbrev b3 : ℕ
  b3 = get_or s (at + 3) 0

  fronts_two : (b0 ≡ 0 → ⊥) → (b1 ≡ 0 → ⊥) → drop at s ≡ b0 ∷ b1 ∷ drop (at + 2) s
  fronts_two h k = rw (← front_next s at 1 k) (front s at h)

  fronts_three : (b0 ≡ 0 → ⊥) → (b1 ≡ 0 → ⊥) → (b2 ≡ 0 → ⊥) → drop at s ≡ b0 ∷ b1 ∷ b2 ∷ drop (at + 3) s
  fronts_three h k j = rw (← front_next s at 2 j) (fronts_two h k)

  fronts_four : (b0 ≡ 0 → ⊥) → (b1 ≡ 0 → ⊥) → (b2 ≡ 0 → ⊥) → (b3 ≡ 0 → ⊥) → drop at s ≡ b0 ∷ b1 ∷ b2 ∷ b3 ∷ drop (at + 4) s
  fronts_four h k j i = rw (← front_next s at 3 i) (fronts_three h k j)

  tailed : (c : ℕ) → tail c ≡ true → c ≡ 0 → ⊥
  unfolding tail
  tailed c e = nonzero 128 191 c (omega arith) e

  found_two : (least : ℕ) → 0 < least → within 194 223 b0 ≡ true → within least 191 b1 ≡ true → tail b1 ≡ true → At Utf8 (drop at s)
  found_two least h a b t =
      (b0 ∷ b1 ∷ [], drop (at + 2) s, Utf8.two a t, fronts_two (nonzero 194 223 b0 (omega arith) a) (nonzero least 191 b1 h b))

  -- a lead of three bytes by its rule
  found_three : (Utf8 (b0 ∷ b1 ∷ b2 ∷ [])) → (b0 ≡ 0 → ⊥) → (b1 ≡ 0 → ⊥) → (b2 ≡ 0 → ⊥) → At Utf8 (drop at s)
  found_three u h k j = (b0 ∷ b1 ∷ b2 ∷ [], drop (at + 3) s, u, fronts_three h k j)

  found_four : (Utf8 (b0 ∷ b1 ∷ b2 ∷ b3 ∷ [])) → (b0 ≡ 0 → ⊥) → (b1 ≡ 0 → ⊥) → (b2 ≡ 0 → ⊥) → (b3 ≡ 0 → ⊥) → At Utf8 (drop at s)
  found_four u h k j i = (b0 ∷ b1 ∷ b2 ∷ b3 ∷ [], drop (at + 4) s, u, fronts_four h k j i)

  by_lead : {l : Lead} → LeadIs b0 l → (utf8_size l b1 b2 b3 ≡ 0 → ⊥) → At Utf8 (drop at s)
  unfolding tail
  by_lead none h = absurd (h (none_says 1 0 b1 b2 b3))
  by_lead (two a) h = let w = two_says 128 191 b1 b2 b3 h in found_two 128 (omega arith) a w w
  by_lead (E0 e) h =
      let w = three_says 160 191 b1 b2 b3 h in
      found_three (rw e (Utf8.three_E0 w.0 w.1)) (λ z. omega arith) (nonzero 160 191 b1 (omega arith) w.0) (tailed b2 w.1)
  by_lead (three a) h =
      let w = three_says 128 191 b1 b2 b3 h in
      found_three (Utf8.three a w.0 w.1) (λ z. three_zero (rw z at a)) (nonzero 128 191 b1 (omega arith) w.0) (tailed b2 w.1)
    where
      three_zero : within 225 236 0 || within 238 239 0 ≡ true → ⊥
      three_zero e = false≢true e
  by_lead (ED e) h =
      let w = three_says 128 159 b1 b2 b3 h in
      found_three (rw e (Utf8.three_ED w.0 w.1)) (λ z. omega arith) (nonzero 128 159 b1 (omega arith) w.0) (tailed b2 w.1)
  by_lead (F0 e) h =
      let w = four_says 144 191 b1 b2 b3 h in
      found_four (rw e (Utf8.four_F0 w.0 w.1 w.2)) (λ z. omega arith) (nonzero 144 191 b1 (omega arith) w.0) (tailed b2 w.1) (tailed b3 w.2)
  by_lead (four a) h =
      let w = four_says 128 191 b1 b2 b3 h in
      found_four (Utf8.four a w.0 w.1 w.2) (nonzero 241 243 b0 (omega arith) a) (nonzero 128 191 b1 (omega arith) w.0) (tailed b2 w.1)
      (tailed b3 w.2)
  by_lead (F4 e) h =
      let w = four_says 128 143 b1 b2 b3 h in
      found_four (rw e (Utf8.four_F4 w.0 w.1 w.2)) (λ z. omega arith) (nonzero 128 143 b1 (omega arith) w.0) (tailed b2 w.1) (tailed b3 w.2)

  quotable_inside : quotable b0 ≡ true → b0 ≡ 0 → ⊥
  unfolding quotable
  quotable_inside e z = false≢true (rw z at e)

  -- ---- one character

  pub qd_found : (qd_length s at ≡ 0 → ⊥) → At Qd (drop at s)
  unfolding qd_length utf8_length
  qd_found h =
      cond_cases (λ n. (n ≡ 0 → ⊥) → At Qd (drop at s)) (quotable b0)
      (λ e g. (b0 ∷ [], drop (at + 1) s, Qd.plain e, front s at (quotable_inside e)))
      (λ e. cond_cases (λ n. (n ≡ 0 → ⊥) → At Qd (drop at s)) (eqb b0 92)
      (λ f. cond_cases (λ n. (n ≡ 0 → ⊥) → At Qd (drop at s)) (eqb b1 92)
      (λ g k. (92 ∷ 92 ∷ [], drop (at + 2) s, Qd.backslash, pair (eqb-true b0 92 f) (eqb-true b1 92 g) (omega arith)))
      (λ g. cond_cases (λ n. (n ≡ 0 → ⊥) → At Qd (drop at s)) (eqb b1 34)
      (λ i k. (92 ∷ 34 ∷ [], drop (at + 2) s, Qd.quote, pair (eqb-true b0 92 f) (eqb-true b1 34 i) (omega arith)))
      (λ i k. absurd (k refl))))
      (λ f g. let u = by_lead (lead_is b0) g in (u.0, u.1, Qd.nonascii u.2, u.3)))
      h
    where
      pair : {d : ℕ} → b0 ≡ 92 → b1 ≡ d → 0 < d → drop at s ≡ 92 ∷ d ∷ drop (at + 2) s
      pair p q l = rw (← p, ← q) (fronts_two (λ z. omega arith) (λ z. omega arith))
