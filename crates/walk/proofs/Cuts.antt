-- A trace cut into blocks. Assumes nothing.
use mathlib.Core.Path.{◌≡◌, refl, ap, ap₂, ◌∙◌, subst⁻¹}
use mathlib.Core.Logic.{◌⊎◌, inl, inr}
use mathlib.Core.List.{List, [], ◌∷◌, ◌++◌}
use Prim.Native.Nat.{ℕ, zero, suc, ◌≤◌}
use native.Mathlib.Omega.{arith}
use native.Mathlib.Decide.{dec_le}
use lib.ListN.{length, take, drop, length-append, length-take, length-drop, drop_of_length-le, take-append-drop}
use lib.Seq.{take_at, drop_at}
use Rattle.format.specs.Blocks.{block_bytes}
use Rattle.walk.specs.Blocks.{cut, blocks_of, joined}
use Rattle.walk.specs.Theorems.{Whole, BlocksJoin}

cut_nil : (most : ℕ) → cut most [] ≡ []
unfolding cut
cut_nil zero = refl
cut_nil (suc most) = refl

cut_back : (most : ℕ) (s : List ℕ) → length s ≤ most → joined (cut most s) ≡ s
unfolding cut
cut_back zero [] h = refl
cut_back zero (c ∷ s) h = absurd (omega arith)
cut_back (suc most) [] h = refl
cut_back (suc most) (c ∷ s) h =
    ap (λ (rest : List ℕ). take block_bytes (c ∷ s) ++ rest) (cut_back most (drop block_bytes (c ∷ s)) (omega (arith, length-drop block_bytes (c ∷ s))))
    ∙ take-append-drop block_bytes (c ∷ s)

full : (b : List ℕ) (rest : List (List ℕ)) → length b ≡ block_bytes → Whole rest → Whole (b ∷ rest)
full b [] e w = (omega arith, omega arith)
full b (c ∷ rest) e w = (e, w)

-- a block's length: what there is, or 512
taken : (s : List ℕ) → block_bytes ≤ length s → length (take block_bytes s) ≡ block_bytes
taken s h = length-take block_bytes s ∙ omega arith

cut_whole : (most : ℕ) (s : List ℕ) → Whole (cut most s)
unfolding cut
cut_whole zero s = tt
cut_whole (suc most) [] = tt
cut_whole (suc most) (c ∷ s) = go (dec_le (length (c ∷ s)) block_bytes) (cut_whole most (drop block_bytes (c ∷ s)))
  where
    go : Dec (length (c ∷ s) ≤ block_bytes) → Whole (cut most (drop block_bytes (c ∷ s))) → Whole (take block_bytes (c ∷ s) ∷ cut most (drop block_bytes (c ∷ s)))
    go (yes h) rest =
        subst⁻¹ (λ (rest : List (List ℕ)). Whole (take block_bytes (c ∷ s) ∷ rest)) (ap (cut most) (drop_of_length-le (c ∷ s) h) ∙ cut_nil most)
        (omega (arith, length-take block_bytes (c ∷ s)), omega (arith, length-take block_bytes (c ∷ s)))
    go (no h) rest = full (take block_bytes (c ∷ s)) (cut most (drop block_bytes (c ∷ s))) (taken (c ∷ s) (omega arith)) rest

pub blocks_join : BlocksJoin
unfolding blocks_of
blocks_join trace = record {
  back =
      ap (λ (rest : List ℕ). take block_bytes trace ++ rest) (cut_back (length trace) (drop block_bytes trace) (omega (arith, length-drop block_bytes trace)))
      ∙ take-append-drop block_bytes trace;
  zeroth = go (dec_le block_bytes (length trace));
  others = cut_whole (length trace) (drop block_bytes trace);
}
  where
    go : Dec (block_bytes ≤ length trace) → (length (take block_bytes trace) ≡ block_bytes) ⊎ (cut (length trace) (drop block_bytes trace) ≡ [])
    go (yes h) = inl (taken trace h)
    go (no h) = inr (ap (cut (length trace)) (drop_of_length-le trace {i = block_bytes} (omega arith)) ∙ cut_nil (length trace))

-- ---- what holds of a trace and of all its parts holds of its blocks

abbrev pub Each : (List ℕ → Type 0) → List (List ℕ) → Type 0
Each P [] = Unit {0}
Each P (b ∷ bs) = P b × Each P bs

module _ (P : List ℕ → Type 0) (front : (n : ℕ) (s : List ℕ) → P s → P (take n s)) (back : (n : ℕ) (s : List ℕ) → P s → P (drop n s)) where
  pub cut_each : (most : ℕ) (s : List ℕ) → P s → Each P (cut most s)
  unfolding cut
  cut_each zero s h = tt
  cut_each (suc most) [] h = tt
  cut_each (suc most) (c ∷ s) h = (front block_bytes (c ∷ s) h, cut_each most (drop block_bytes (c ∷ s)) (back block_bytes (c ∷ s) h))

-- ---- whole blocks put together are cut again

pub cut_joined : (most : ℕ) (bs : List (List ℕ)) → Each (λ b. length b ≡ block_bytes) bs → length bs ≤ most → cut most (joined bs) ≡ bs
unfolding cut
cut_joined zero [] h k = refl
cut_joined (suc most) [] h k = refl
cut_joined zero (b ∷ bs) h k = absurd (omega arith)
cut_joined (suc most) ([] ∷ bs) h k = absurd (omega (arith, h.0))
cut_joined (suc most) ((c ∷ b) ∷ bs) h k =
    ap₂ (λ (first : List ℕ) (rest : List (List ℕ)). first ∷ rest) (take_at (c ∷ b) (joined bs) block_bytes h.0)
    (ap (cut most) (drop_at (c ∷ b) (joined bs) block_bytes h.0) ∙ cut_joined most bs h.1 (omega arith))

-- there are no more blocks than bytes
pub joined_long : (bs : List (List ℕ)) → Each (λ b. length b ≡ block_bytes) bs → length bs ≤ length (joined bs)
joined_long [] h = omega arith
joined_long (b ∷ bs) h = omega (arith, length-append b (joined bs), h.0, joined_long bs h.1)
