-- How a scan goes on and ends. Assumes nothing.
use mathlib.Core.Path.{◌≡◌, refl, ap}
use mathlib.Core.Bool.{Bool, true, false, cond}
use mathlib.Core.List.{List, [], ◌∷◌}
use Rattle.std.specs.List.{take_while}
use Rattle.std.proofs.lemmas.List.Sums.{take_while-cons}
use Prim.Native.Nat.{ℕ, zero, suc, ◌+◌, ◌≤◌, ◌<◌}
use native.Mathlib.Omega.{arith}
use borrow.Author.Tests.{eqb-false}
use lib.Dec.{eqb, ltb, leb}
use lib.ListN.{length, get_or, get_or-eq_default}
use Rattle.sdp.specs.declared.fronts.Lead.{Lead}
use Rattle.sdp.specs.Grammar.{token_char, quotable, tail, within}
use Rattle.sdp.specs.Lengths.{token_length, lead_of, utf8_size, utf8_length, qd_length, closes}

-- ---- a token

pub token_while : (s : List ℕ) → length (take_while token_char s) ≡ token_length s
unfolding token_length
token_while [] = refl
token_while (c ∷ s) = rw (take_while-cons token_char c s) (go (token_char c) (token_while s))
  where
    go : (b : Bool) → length (take_while token_char s) ≡ token_length s → length (cond b (c ∷ take_while token_char s) []) ≡ cond b (suc (token_length s)) 0
    go true e = ap suc e
    go false e = refl

-- ---- a quoted string

-- what holds of both parts of a choice holds of it
pub cond_all {ℓ} : {A : Type ℓ} (P : A → Type 0) (b : Bool) {x y : A} → P x → P y → P (cond b x y)
cond_all P true p q = p
cond_all P false p q = q

pub lead_most : (a : ℕ) → (lead_of a).size ≤ 4
unfolding lead_of
lead_most a =
    let P : Lead → Type 0 = λ l. l.size ≤ 4 in
    cond_all P (ltb a 194) (omega arith) (cond_all P (ltb a 224) (omega arith) (cond_all P (eqb a 224) (omega arith) (cond_all P (eqb a 237) (omega arith)
    (cond_all P (ltb a 240) (omega arith) (cond_all P (eqb a 240) (omega arith) (cond_all P (ltb a 244) (omega arith) (cond_all P (eqb a 244) (omega arith)
    (omega arith))))))))

size_most : (l : Lead) (b c d : ℕ) → l.size ≤ 4 → utf8_size l b c d ≤ 4
unfolding utf8_size
size_most l b c d h =
    let P : ℕ → Type 0 = λ n. n ≤ 4 in
    cond_all P (within l.least l.most b) (cond_all P (leb l.size 2) h (cond_all P (tail c) (cond_all P (leb l.size 3) h
    (cond_all P (tail d) h (omega arith))) (omega arith))) (omega arith)

pub qd_most : (s : List ℕ) (at : ℕ) → qd_length s at ≤ 4
unfolding qd_length utf8_length
qd_most s at =
    let P : ℕ → Type 0 = λ n. n ≤ 4 in
    cond_all P (quotable (get_or s at 0)) (omega arith) (cond_all P (eqb (get_or s at 0) 92)
    (cond_all P (eqb (get_or s (at + 1) 0) 92) (omega arith) (cond_all P (eqb (get_or s (at + 1) 0) 34) (omega arith) (omega arith)))
    (size_most (lead_of (get_or s at 0)) _ _ _ (lead_most (get_or s at 0))))

-- from a place on, within enough characters, the string is closed at the place e, or nowhere
pub record Closing (s : List ℕ) (at e : ℕ) : Type 0 where
  pub left : ℕ
  pub enough : length s ≤ at + left
  pub same : closes left s at ≡ e

pub closing_past : (s : List ℕ) (at : ℕ) {e : ℕ} → Closing s at e → length s ≤ at → 0 ≡ e
unfolding closes qd_length utf8_length utf8_size lead_of quotable
closing_past s at {e} w h = go w.left w.same
  where
    go : (k : ℕ) → closes k s at ≡ e → 0 ≡ e
    go zero q = q
    go (suc k) q = let next : length s ≤ at + 1 = omega arith in rw (get_or-eq_default s 0 h, get_or-eq_default s 0 next) at q

-- one character at least is left before the end
room : (s : List ℕ) (at k : ℕ) → at < length s → length s ≤ at + k → (j : ℕ) × (k ≡ suc j)
room s at zero h l = absurd (omega arith)
room s at (suc j) h l = (j, refl)

module _ (s : List ℕ) (at : ℕ) {e : ℕ} (w : Closing s at e) (h : at < length s) where
  again : (j : ℕ) × (length s ≤ at + suc j) × (closes (suc j) s at ≡ e)
  again = let r = room s at w.left h w.enough in (r.0, rw r.1 at w.enough, rw r.1 at w.same)

  pub closing_quoted : get_or s at 0 ≡ 34 → at + 1 ≡ e
  unfolding closes
  closing_quoted q = rw q at again.2

  pub closing_none : eqb (get_or s at 0) 34 ≡ false → qd_length s at ≡ 0 → 0 ≡ e
  unfolding closes
  closing_none q z = rw (q, z) at again.2

  pub closing_goes : (n : ℕ) → eqb (get_or s at 0) 34 ≡ false → n ≡ qd_length s at → eqb n 0 ≡ false → Closing s (at + n) e
  unfolding closes
  closing_goes n q l z =
      record { left = again.0; enough = (let p = eqb-false n 0 z in let r = again.1 in omega arith); same = rw (q, ← l, z) at again.2 }
