-- Laws of integers: equality and order as tests, the number k below n, remainders. Assumes nothing.
use Rattle.std.proofs.Common.{◌≡◌, ℕ, zero, suc, ◌+◌, ◌-◌, ◌*◌, ◌/◌, ◌%◌, ◌<◌, ◌≤◌, Bool, cond, T, eqb, leb, ℤ, pos, negsuc, ◌+ℤ◌, ◌-ℤ◌, neg_ℤ, sym, ap, ◌∙◌, subst, le_trans, le_refl, add-zero, mod-lt, mod-eq_of_lt, le_antisymm, mul-suc, arith, le→leb, eqb→eq, leb→le, le-ltb, lt-ltb}
use native.Mathlib.Nat.{add-mod_right, mod-add-div}
use native.Mathlib.Decide.{dec_le}
use lib.Dec.{eqb_refl}
use lib.IntN.{pos-ne-negsuc, +ℤ_assoc, +ℤ_comm, +ℤ_idr, -ℤ-+ℤ_cancel, neg_ℤ-+ℤ}
use lib.Signed.{le_z}
use Rattle.numbers.specs.Integers.{modulo, eq_z}
use Rattle.answers.proofs.Conditions.{same_test}

-- ---- equality and order

pub eq_z_refl : (x : ℤ) → T (eq_z x x)
eq_z_refl (pos n) = eqb_refl n
eq_z_refl (negsuc n) = eqb_refl n

pub eq_z_eq : (x y : ℤ) → T (eq_z x y) → x ≡ y
eq_z_eq (pos m) (pos n) t = ap pos (eqb→eq m n t)
eq_z_eq (pos m) (negsuc n) t = absurd t
eq_z_eq (negsuc m) (pos n) t = absurd t
eq_z_eq (negsuc m) (negsuc n) t = ap negsuc (eqb→eq m n t)

pub eq_eq_z : (x y : ℤ) → x ≡ y → T (eq_z x y)
eq_eq_z x y e = subst (λ (z : ℤ). T (eq_z x z)) e (eq_z_refl x)

pub le_z_refl : (x : ℤ) → T (le_z x x)
le_z_refl (pos n) = le→leb n n (le_refl n)
le_z_refl (negsuc n) = le→leb n n (le_refl n)

pub le_z_trans : (x y z : ℤ) → T (le_z x y) → T (le_z y z) → T (le_z x z)
le_z_trans (pos a) (pos b) (pos c) h k = le→leb a c (le_trans (leb→le a b h) (leb→le b c k))
le_z_trans (pos a) (pos b) (negsuc c) h k = k
le_z_trans (pos a) (negsuc b) z h k = absurd h
le_z_trans (negsuc a) (pos b) (pos c) h k = tt
le_z_trans (negsuc a) (pos b) (negsuc c) h k = absurd k
le_z_trans (negsuc a) (negsuc b) (pos c) h k = tt
le_z_trans (negsuc a) (negsuc b) (negsuc c) h k = le→leb c a (le_trans (leb→le c b k) (leb→le b a h))

pub le_z_antisym : (x y : ℤ) → T (le_z x y) → T (le_z y x) → x ≡ y
le_z_antisym (pos a) (pos b) h k = ap pos (le_antisymm (leb→le a b h) (leb→le b a k))
le_z_antisym (pos a) (negsuc b) h k = absurd h
le_z_antisym (negsuc a) (pos b) h k = absurd k
le_z_antisym (negsuc a) (negsuc b) h k = ap negsuc (le_antisymm (leb→le a b k) (leb→le b a h))

not_le : (a b : ℕ) → (T (leb a b) → ⊥) → b ≤ a
not_le a b f = let g : a ≤ b → ⊥ = λ h. f (le→leb a b h) in omega (arith, g)

pub le_z_total : (x y : ℤ) → (T (le_z x y) → ⊥) → T (le_z y x)
le_z_total (pos a) (pos b) f = le→leb b a (not_le a b f)
le_z_total (pos a) (negsuc b) f = tt
le_z_total (negsuc a) (pos b) f = absurd (f tt)
le_z_total (negsuc a) (negsuc b) f = le→leb a b (not_le b a f)

-- ---- the number k below n

pub minus_pos : (n k : ℕ) → k ≤ n → pos n -ℤ pos k ≡ pos (n - k)
minus_pos n zero h = ap pos (omega arith)
minus_pos n (suc k) h = ap (λ (c : Bool). cond c (negsuc (suc k - suc n)) (pos (n - suc k))) (le-ltb n (suc k) h)

pub minus_neg : (n k : ℕ) → n < k → pos n -ℤ pos k ≡ negsuc (k - suc n)
minus_neg n zero h = absurd (omega arith)
minus_neg n (suc k) h = ap (λ (c : Bool). cond c (negsuc (suc k - suc n)) (pos (n - suc k))) (lt-ltb n (suc k) h)

pub minus_zero : (n : ℕ) → pos n -ℤ pos 0 ≡ pos n
minus_zero n = ap pos (add-zero n)

pub le_z_minus : (n k : ℕ) → T (le_z (pos n -ℤ pos k) (pos n))
le_z_minus n k = go (dec_le k n)
  where
    go : Dec (k ≤ n) → T (le_z (pos n -ℤ pos k) (pos n))
    go (yes l) = subst (λ (z : ℤ). T (le_z z (pos n))) (sym (minus_pos n k l)) (le→leb (n - k) n (omega arith))
    go (no g) = subst (λ (z : ℤ). T (le_z z (pos n))) (sym (minus_neg n k (omega arith))) tt

-- from n + d, k lower is from n, k - d lower
pub minus_shift : (n d k : ℕ) → d ≤ k → pos (n + d) -ℤ pos k ≡ pos n -ℤ pos (k - d)
minus_shift n d k h = go (dec_le (k - d) n)
  where
    go : Dec (k - d ≤ n) → pos (n + d) -ℤ pos k ≡ pos n -ℤ pos (k - d)
    go (yes l) = minus_pos (n + d) k (omega arith) ∙ ap pos (omega arith) ∙ sym (minus_pos n (k - d) l)
    go (no g) = minus_neg (n + d) k (omega arith) ∙ ap negsuc (omega arith) ∙ sym (minus_neg n (k - d) (omega arith))

-- numbers counted down from n are told apart by their counts
pub minus_inj : (n k j : ℕ) → pos n -ℤ pos k ≡ pos n -ℤ pos j → k ≡ j
minus_inj n k j e = go (dec_le k n) (dec_le j n)
  where
    go : Dec (k ≤ n) → Dec (j ≤ n) → k ≡ j
    go (yes a) (yes b) = let q : n - k ≡ n - j = cc (minus_pos n k a, minus_pos n j b) in omega arith
    go (yes a) (no b) = absurd (pos-ne-negsuc _ _ (sym (minus_pos n k a) ∙ e ∙ minus_neg n j (omega arith)))
    go (no a) (yes b) = absurd (pos-ne-negsuc _ _ (sym (minus_pos n j b) ∙ sym e ∙ minus_neg n k (omega arith)))
    go (no a) (no b) = let q : k - suc n ≡ j - suc n = cc (minus_neg n k (omega arith), minus_neg n j (omega arith)) in omega arith

pub eq_z_minus : (n k j : ℕ) → eq_z (pos n -ℤ pos k) (pos n -ℤ pos j) ≡ eqb k j
eq_z_minus n k j =
    same_test (eq_z (pos n -ℤ pos k) (pos n -ℤ pos j)) (eqb k j)
    (λ t. eq_test k j (minus_inj n k j (eq_z_eq (pos n -ℤ pos k) (pos n -ℤ pos j) t)))
    (λ t. eq_eq_z (pos n -ℤ pos k) (pos n -ℤ pos j) (ap (λ (i : ℕ). pos n -ℤ pos i) (eqb→eq k j t)))
  where
    eq_test : (k j : ℕ) → k ≡ j → T (eqb k j)
    eq_test k j e = subst (λ (i : ℕ). T (eqb k i)) e (eqb_refl k)

-- ---- sums

pub exchange : (a b c : ℤ) → a +ℤ b +ℤ c ≡ a +ℤ c +ℤ b
exchange a b c = +ℤ_assoc a b c ∙ ap (λ (z : ℤ). a +ℤ z) (+ℤ_comm b c) ∙ sym (+ℤ_assoc a c b)

-- what is taken off with v and added again
pub less_more : (c v k : ℤ) → c -ℤ (v +ℤ k) +ℤ k ≡ c -ℤ v
less_more c v k =
    ap (λ (z : ℤ). c +ℤ z +ℤ k) (neg_ℤ-+ℤ v k) ∙ ap (λ (z : ℤ). z +ℤ k) (sym (+ℤ_assoc c (neg_ℤ v) (neg_ℤ k))) ∙ -ℤ-+ℤ_cancel (c -ℤ v) k

-- ---- remainders

module _ (m : ℕ) (h : 0 < m) where
  -- a whole m more
  modulo_one : (z : ℤ) → modulo m (z +ℤ pos m) ≡ modulo m z
  modulo_one (pos n) = add-mod_right n m
  modulo_one (negsuc n) = go (dec_le m n)
    where
      back : (n : ℕ) → m ≤ n → n - m + m ≡ n
      back n l = omega arith

      down : m ≤ n → (n - m) % m ≡ n % m
      down l = sym (add-mod_right (n - m) m) ∙ ap (λ (i : ℕ). i % m) (back n l)

      go : Dec (m ≤ n) → modulo m (negsuc n +ℤ pos m) ≡ m - suc (n % m)
      go (yes l) =
          ap (modulo m) (+ℤ_comm (negsuc n) (pos m)) ∙ ap (modulo m) (minus_neg m (suc n) (omega arith))
          ∙ ap (λ (i : ℕ). m - suc i) (ap (λ (i : ℕ). i % m) (omega arith) ∙ down l)
      go (no g) =
          ap (modulo m) (+ℤ_comm (negsuc n) (pos m)) ∙ ap (modulo m) (minus_pos m (suc n) (omega arith))
          ∙ mod-eq_of_lt (omega arith) ∙ ap (λ (i : ℕ). m - suc i) (sym (mod-eq_of_lt (omega arith)))

  -- k times m more
  pub modulo_more : (k : ℕ) (z : ℤ) → modulo m (z +ℤ pos (m * k)) ≡ modulo m z
  modulo_more zero z = ap (λ (i : ℕ). modulo m (z +ℤ pos i)) (omega arith) ∙ ap (modulo m) (+ℤ_idr z)
  modulo_more (suc k) z =
      ap (λ (i : ℕ). modulo m (z +ℤ pos i)) (mul-suc m k)
      ∙ ap (modulo m) (sym (+ℤ_assoc z (pos (m * k)) (pos m))) ∙ modulo_one (z +ℤ pos (m * k)) ∙ modulo_more k z

  pub modulo_lt : (z : ℤ) → modulo m z < m
  modulo_lt (pos n) = mod-lt n h
  modulo_lt (negsuc n) = omega arith

  -- u is k times m more than v
  More : ℕ → ℤ → ℤ → Type 0
  More k u v = u ≡ v +ℤ pos (m * k)

  more_add : (k : ℕ) (u v c : ℤ) → More k u v → modulo m (u +ℤ c) ≡ modulo m (v +ℤ c)
  unfolding More
  more_add k u v c e = ap (λ (z : ℤ). modulo m (z +ℤ c)) e ∙ ap (modulo m) (exchange v (pos (m * k)) c) ∙ modulo_more k (v +ℤ c)

  more_sub : (k : ℕ) (u v c : ℤ) → More k u v → modulo m (c -ℤ u) ≡ modulo m (c -ℤ v)
  unfolding More
  more_sub k u v c e =
      sym (modulo_more k (c -ℤ u)) ∙ ap (λ (z : ℤ). modulo m (c -ℤ z +ℤ pos (m * k))) e ∙ ap (modulo m) (less_more c v (pos (m * k)))

  -- an integer is some times m more than its remainder, or the other way round
  data Apart (z : ℤ) : Type 0 where
    over : (k : ℕ) → More k z (pos (modulo m z)) → Apart z
    under : (k : ℕ) → More k (pos (modulo m z)) z → Apart z

  apart : (z : ℤ) → Apart z
  unfolding More
  apart (pos n) = over (n / m) (ap pos (sym (mod-add-div n m)))
  apart (negsuc n) = under (suc (n / m)) (sym (+ℤ_comm (negsuc n) (pos (m * suc (n / m))) ∙ back))
    where
      whole : n % m + m * (n / m) ≡ n
      whole = mod-add-div n m

      rest : n % m < m
      rest = mod-lt n h

      back : pos (m * suc (n / m)) -ℤ pos (suc n) ≡ pos (m - suc (n % m))
      back = ap (λ (i : ℕ). pos i -ℤ pos (suc n)) (mul-suc m (n / m)) ∙ minus_pos (m * (n / m) + m) (suc n) (omega (arith, whole, rest)) ∙ ap pos (omega (arith, whole, rest))

  pub modulo_add : (a c : ℤ) → modulo m (pos (modulo m a) +ℤ c) ≡ modulo m (a +ℤ c)
  modulo_add a c = go (apart a)
    where
      go : Apart a → modulo m (pos (modulo m a) +ℤ c) ≡ modulo m (a +ℤ c)
      go (over k e) = sym (more_add k a (pos (modulo m a)) c e)
      go (under k e) = more_add k (pos (modulo m a)) a c e

  pub modulo_sub : (a c : ℤ) → modulo m (c -ℤ pos (modulo m a)) ≡ modulo m (c -ℤ a)
  modulo_sub a c = go (apart a)
    where
      go : Apart a → modulo m (c -ℤ pos (modulo m a)) ≡ modulo m (c -ℤ a)
      go (over k e) = sym (more_sub k a (pos (modulo m a)) c e)
      go (under k e) = more_sub k (pos (modulo m a)) a c e
