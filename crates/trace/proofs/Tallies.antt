-- Laws of adding up, over a list, what breaks a rule. Assumes nothing.
use Rattle.std.proofs.Common.{◌≡◌, ℕ, zero, suc, ◌+◌, ◌-◌, ◌*◌, ◌/◌, ◌<◌, ◌≤◌, Bool, true, false, cond, ◌&&◌, eqb, ltb, leb, List, [], ◌∷◌, ◌++◌, length, get_or, drop, sym, refl, ap, ◌∙◌, add-zero, add_assoc, add-mul, suc-add, one-mul, zero-add, add-one, arith, drop_of_length-le, get_or-drop, drop-cons, drop-drop, eq-eqb, ne_eqb, eqb-true, leb-false, leb-true}
use mathlib.Core.Bool.{and-true, and_assoc}
use borrow.Author.Tests.{eqb-false}
use lib.Bits.{bit_or, and_le_r, or_add_and, or_shr}
use lib.Dec.{eqb-suc-zero}
use Rattle.numbers.specs.BigEndian.{word}
use Rattle.numbers.proofs.BigEndian.{word_two}
use Rattle.format.specs.Forms.{Shape, width}
use Rattle.trace.specs.Contents.{every, is_zero, is_mark, label_byte, good_records}

-- the sum of f over a list
unfoldable pub tally : (ℕ → ℕ) → List ℕ → ℕ
tally f [] = 0
tally f (c ∷ s) = f c + tally f s

module _ (f : ℕ → ℕ) where
  pub tally_append : (s t : List ℕ) → tally f (s ++ t) ≡ tally f s + tally f t
  unfolding tally
  tally_append [] t = rw zero-add
  tally_append (c ∷ s) t = rw (tally_append s t, add_assoc (f c) (tally f s) (tally f t))

  -- a turn of a loop that adds up f
  pub tally_turn : (s : List ℕ) (i sum : ℕ) → i < length s → sum + f (get_or s i 0) + tally f (drop (i + 1) s) ≡ sum + tally f (drop i s)
  unfolding tally
  tally_turn s i sum h = rw (add-one i, drop-cons s i 0) (add_assoc sum (f (get_or s i 0)) (tally f (drop (suc i) s)))

  -- and after its last turn it has the whole sum
  pub tally_done : (s : List ℕ) (i sum : ℕ) → length s ≤ i → sum + tally f (drop i s) ≡ sum
  unfolding tally
  tally_done s i sum h = rw (drop_of_length-le s h) (add-zero sum)

-- a sum is 0 just where both numbers are
pub zero_sum : (a b : ℕ) → eqb (a + b) 0 ≡ (eqb a 0 && eqb b 0)
zero_sum zero b = rw zero-add
zero_sum (suc a) b = rw (suc-add a b, eqb-suc-zero (a + b), eqb-suc-zero a)

module _ (f : ℕ → ℕ) (rule : ℕ → Bool) (fault : (c : ℕ) → eqb (f c) 0 ≡ rule c) where
  -- a sum is 0 just where every element keeps the rule
  pub tally_every : (s : List ℕ) → eqb (tally f s) 0 ≡ every rule s
  unfolding tally every
  tally_every [] = refl
  tally_every (c ∷ s) = rw (zero_sum (f c) (tally f s), fault c, tally_every s)

  -- what the loop's sum says at its end
  pub tally_rule : (s : List ℕ) (i sum : ℕ) → sum + tally f (drop i s) ≡ tally f s → length s ≤ i → eqb sum 0 ≡ every rule s
  tally_rule s i sum e h = ap (λ (n : ℕ). eqb n 0) (sym (tally_done f s i sum h) ∙ e) ∙ tally_every s

-- ---- the rules

pub mark_fault : (m : ℕ) → eqb (m / 4) 0 ≡ is_mark m
mark_fault m = go (leb m 3) refl
  where
    go : (t : Bool) → leb m 3 ≡ t → eqb (m / 4) 0 ≡ t
    go true e = eq-eqb (m / 4) 0 (omega (arith, leb-true m 3 e))
    go false e = ne_eqb (m / 4) 0 (λ z. omega (arith, leb-false m 3 e))

-- 0 where a rule holds, else 1
pub rule_fault : (t : Bool) → eqb (cond t 0 1) 0 ≡ t
rule_fault true = refl
rule_fault false = refl

pub rule_small : (t : Bool) → cond t 0 1 ≤ 1
rule_small true = omega arith
rule_small false = omega arith

-- by the rules on a label's bytes and on times
abbrev pub outside_of : ℕ → ℕ
outside_of c = cond (label_byte c) 0 1

abbrev pub beyond_of : ℕ → ℕ → ℕ
beyond_of limit time = cond (ltb time limit) 0 1

-- ---- a mark and the zero behind it, as one number with the zero first

pair_fault : (z m : ℕ) → m < 256 → eqb ((z * 256 + m) / 4) 0 ≡ (is_mark m && is_zero z)
pair_fault z m h = go (leb m 3) (eqb z 0) refl refl
  where
    go : (t u : Bool) → leb m 3 ≡ t → eqb z 0 ≡ u → eqb ((z * 256 + m) / 4) 0 ≡ (t && u)
    go true true e k = eq-eqb ((z * 256 + m) / 4) 0 (omega (arith, leb-true m 3 e, eqb-true z 0 k))
    go true false e k = ne_eqb ((z * 256 + m) / 4) 0 (λ n. omega (arith, eqb-false z 0 k))
    go false u e k = ne_eqb ((z * 256 + m) / 4) 0 (λ n. omega (arith, leb-false m 3 e))

-- the first m of n things of w bytes, and those after them
pub mul_part : (m n w : ℕ) → m ≤ n → n * w ≡ m * w + (n - m) * w
mul_part m n w h = let e : m + (n - m) ≡ n = omega arith in sym (ap (λ (k : ℕ). k * w) e) ∙ add-mul m (n - m) w

pub mul_turn : (left w : ℕ) → 0 < left → left * w ≡ w + (left - 1) * w
mul_turn left w h = mul_part 1 left w h ∙ ap (λ (k : ℕ). k + (left - 1) * w) (one-mul w)

-- the bits of two numbers together are none just where neither has any
zero_or : (a b : ℕ) → eqb (bit_or a b) 0 ≡ (eqb a 0 && eqb b 0)
zero_or a b = go (eqb a 0) refl
  where
    go : (t : Bool) → eqb a 0 ≡ t → eqb (bit_or a b) 0 ≡ (t && eqb b 0)
    go true e = rw (eqb-true a 0 e)
    go false e = ne_eqb (bit_or a b) 0 (λ z. eqb-false a 0 e (omega (arith, or_add_and a b, and_le_r a b)))

-- and so it is without the two lowest
high_or : (a b : ℕ) → eqb (bit_or a b / 4) 0 ≡ (eqb (a / 4) 0 && eqb (b / 4) 0)
high_or a b = ap (λ (n : ℕ). eqb n 0) (or_shr a b 2) ∙ zero_or (a / 4) (b / 4)

-- a turn of a loop over the records, which puts the bits of all pairs together
pub records_turn : (shape : Shape) (left at seen pair : ℕ) (body : List ℕ) {next zero-at mark_at : ℕ} → 0 < left
    → zero-at ≡ at + (shape.time + 3) → mark_at ≡ at + (shape.time + 2) → next ≡ at + width shape → get_or body mark_at 0 < 256
    → pair ≡ word 2 (get_or body zero-at 0 ∷ get_or body mark_at 0 ∷ []) 0
    → (eqb (bit_or seen pair / 4) 0 && good_records shape (left - 1) (drop next body)) ≡ (eqb (seen / 4) 0 && good_records shape left (drop at body))
unfolding good_records
records_turn shape zero at seen pair body h ez em en o e = absurd (omega arith)
records_turn shape (suc k) at seen pair body {next} {zero-at} {mark_at} h ez em en o e =
    let z = get_or body zero-at 0 in
    let m = get_or body mark_at 0 in
    let rest : Bool = good_records shape k (drop next body) in
    let less : suc k - 1 ≡ k = omega arith in
    let number : pair ≡ z * 256 + m = e ∙ word_two (z ∷ m ∷ []) 0 in
    rw (less, number, high_or seen (z * 256 + m), pair_fault z m o, get_or-drop at body (shape.time + 2) 0, get_or-drop at body (shape.time + 3) 0, drop-drop (width shape) at body, ← ez, ← em, ← en)
    (and_assoc (eqb (seen / 4) 0) (is_mark m && is_zero z) rest ∙ ap (λ (t : Bool). eqb (seen / 4) 0 && t) (and_assoc (is_mark m) (is_zero z) rest))

pub records_done : (shape : Shape) (left seen n : ℕ) (s body : List ℕ) → left ≤ 0 → (eqb (seen / 4) 0 && good_records shape left s) ≡ good_records shape n body → eqb (seen / 4) 0 ≡ good_records shape n body
unfolding good_records
records_done shape zero seen n s body h e = sym (and-true (eqb (seen / 4) 0)) ∙ e
records_done shape (suc left) seen n s body h e = absurd (omega arith)
