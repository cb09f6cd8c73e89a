-- The whole blocks of two stretches: those of the first, and then those of what it left with the second. Assumes nothing.
use Rattle.std.specs.Prelude.{Option, Some, None}
use mathlib.Core.Path.{◌≡◌, refl, sym, ap, ap₂, ◌∙◌}
use mathlib.Core.List.{List, [], ◌∷◌, ◌++◌, append_assoc}
use Prim.Native.Nat.{ℕ, zero, suc, ◌+◌, ◌*◌, ◌/◌, ◌≤◌, ◌<◌}
use native.Mathlib.Omega.{arith}
use native.Mathlib.Decide.{dec_le}
use lib.ListN.{length, take, drop, length-append, length-drop}
use lib.Seq.{take-append-le, drop-append-le, drop-drop}
use Rattle.answers.specs.declared.Refusal.{Refusal}
use Rattle.format.specs.Blocks.{block_bytes}
use Rattle.walk.specs.Programs.{Printed, both, Turn, Program}
use Rattle.walk.specs.Pieces.{wholes, whole_in}
use Rattle.walk.specs.Fitting.{Took, none_taken, one_more, front}
use Rattle.walk.proofs.Pieces.{whole_first, whole_none}
use Rattle.convert.specs.Feeds.{through, rest_in}

-- ---- the bytes

pub record Parted (x t : List ℕ) : Type 0 where
  pub wholes : whole_in (x ++ t) ≡ whole_in x ++ whole_in (rest_in x ++ t)
  pub rest : rest_in (x ++ t) ≡ rest_in (rest_in x ++ t)

pub short_rest : (x : List ℕ) → length x < block_bytes → rest_in x ≡ x
unfolding rest_in wholes
short_rest x h = let e : length x / block_bytes ≡ 0 = omega arith in ap (λ (n : ℕ). drop (block_bytes * n) x) e

pub long_rest : (x : List ℕ) → block_bytes ≤ length x → rest_in x ≡ rest_in (drop block_bytes x)
unfolding rest_in wholes
long_rest x h =
    let d = length-drop block_bytes x in
    let e : block_bytes * (length x / block_bytes) ≡ block_bytes + block_bytes * (length (drop block_bytes x) / block_bytes) = omega arith in
    ap (λ (n : ℕ). drop n x) e ∙ sym (drop-drop (block_bytes * (length (drop block_bytes x) / block_bytes)) block_bytes x)

parted_short : (x t : List ℕ) → length x < block_bytes → Parted x t
parted_short x t h =
    let e = short_rest x h in
    record {
      wholes = ap (λ (l : List ℕ). whole_in (l ++ t)) (sym e) ∙ ap (λ (bs : List (List ℕ)). bs ++ whole_in (rest_in x ++ t)) (sym (whole_none x h));
      rest = ap (λ (l : List ℕ). rest_in (l ++ t)) (sym e);
    }

parted_long : (x t : List ℕ) → block_bytes ≤ length x → Parted (drop block_bytes x) t → Parted x t
parted_long x t k p =
    let f = drop-append-le block_bytes x t k in
    let r = long_rest x k in
    let long : block_bytes ≤ length (x ++ t) = omega (arith, length-append x t) in
    record {
      wholes =
          whole_first (x ++ t) long
          ∙ ap₂ (λ (b l : List ℕ). b ∷ whole_in l) (take-append-le block_bytes x t k) f
          ∙ ap (λ (bs : List (List ℕ)). take block_bytes x ∷ bs) (p.wholes ∙ ap (λ (l : List ℕ). whole_in (drop block_bytes x) ++ whole_in (l ++ t)) (sym r))
          ∙ ap (λ (bs : List (List ℕ)). bs ++ whole_in (rest_in x ++ t)) (sym (whole_first x k));
      rest = long_rest (x ++ t) long ∙ ap rest_in f ∙ p.rest ∙ ap (λ (l : List ℕ). rest_in (l ++ t)) (sym r);
    }

parted_by : (m : ℕ) (x t : List ℕ) → length x < block_bytes * suc m → Parted x t
parted_by zero x t h = parted_short x t (omega arith)
parted_by (suc m) x t h = go (dec_le block_bytes (length x)) (parted_by m (drop block_bytes x) t)
  where
    go : Dec (block_bytes ≤ length x) → (length (drop block_bytes x) < block_bytes * suc m → Parted (drop block_bytes x) t) → Parted x t
    go (no k) p = parted_short x t (omega arith)
    go (yes k) p = parted_long x t k (p (omega (arith, length-drop block_bytes x)))

pub parted : (x t : List ℕ) → Parted x t
parted x t = parted_by (length x) x t (omega arith)

-- ---- the blocks

-- what follows the blocks that were taken: nothing follows a refusal
abbrev pub follows : {S : Type 0} → Took S → Took S → Option Refusal → Took S
follows w v None = record { state = v.state; taken = w.taken + v.taken; printed = both w.printed v.printed; refusal = v.refusal }
follows w v (Some refusal) = w

module _ {S : Type 0} (p : Program S) where
  pub through_append : (i : ℕ) (xs bs : List (List ℕ)) (s : S)
      → let w = through p i xs s in
      through p i (xs ++ bs) s ≡ follows w (through p (i + length xs) bs w.state) w.refusal
  unfolding front
  through_append i [] bs s =
      let v = through p i bs s in
      let e : v.taken ≡ 0 + v.taken = omega arith in
      let n : i ≡ i + 0 = omega arith in
      (λ j. record { state = v.state; taken = e j; printed = v.printed; refusal = v.refusal }) ∙ ap (λ (k : ℕ). follows (none_taken s) (through p k bs s) None) n
  through_append i (a ∷ xs) bs s =
      let t = p.step i s a in
      let n : suc i + length xs ≡ i + suc (length xs) = omega arith in
      go t t.refusal (through p (suc i) xs t.state) (through p (i + suc (length xs)) bs)
      (through_append (suc i) xs bs t.state ∙ ap (λ (k : ℕ). follows (through p (suc i) xs t.state) (through p k bs (through p (suc i) xs t.state).state) (through p (suc i) xs t.state).refusal) n)
    where
      inner : (t : Turn S) (w v : Took S) (o : Option Refusal) → w.refusal ≡ o → one_more t None (follows w v o) ≡ follows (one_more t None w) v o
      inner t w v None q =
          let e : suc (w.taken + v.taken) ≡ suc w.taken + v.taken = omega arith in
          λ j. record { state = v.state; taken = e j; printed = both_assoc t.printed w.printed v.printed j; refusal = v.refusal }
        where
          both_assoc : (a b c : Printed) → both a (both b c) ≡ both (both a b) c
          both_assoc a b c = λ j. record { out = sym (append_assoc a.out b.out c.out) j; err = sym (append_assoc a.err b.err c.err) j }
      inner t w v (Some refusal) q = refl

      go : (t : Turn S) (o : Option Refusal) (w : Took S) (v : S → Took S) {all : Took S} → all ≡ follows w (v w.state) w.refusal
          → one_more t o all ≡ follows (one_more t o w) (v (one_more t o w).state) (one_more t o w).refusal
      go t None w v e = ap (one_more t None) e ∙ inner t w (v w.state) w.refusal refl
      go t (Some refusal) w v e = refl

  -- blocks that are not refused are all taken
  pub all_taken : (i : ℕ) (bs : List (List ℕ)) (s : S) → (through p i bs s).refusal ≡ None → (through p i bs s).taken ≡ length bs
  unfolding front
  all_taken i [] s e = refl
  all_taken i (b ∷ bs) s e =
      let t = p.step i s b in
      go t t.refusal (through p (suc i) bs t.state) (all_taken (suc i) bs t.state) e
    where
      go : (t : Turn S) (o : Option Refusal) (w : Took S) → (w.refusal ≡ None → w.taken ≡ length bs) → (one_more t o w).refusal ≡ None → (one_more t o w).taken ≡ suc (length bs)
      go t None w h e = ap suc (h e)
      go t (Some refusal) w h e = let z : ◌≡◌ {A = ℕ} 0 1 = cc in absurd (omega arith)
