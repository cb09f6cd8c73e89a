-- Records packed in blocks, in steps. Assumes nothing.
use mathlib.Core.Path.{◌≡◌, refl, sym, ap, ap₂, ◌∙◌}
use mathlib.Core.Bool.{true}
use mathlib.Core.List.{List, ◌++◌, append_assoc}
use Prim.Native.Nat.{ℕ, zero, suc, ◌+◌, ◌-◌, ◌*◌, ◌/◌, ◌≤◌, ◌<◌}
use native.Mathlib.Nat.{zero-add, zero-mul, suc-mul, add-mul, suc-add, div-mul-le_self, div-add-mod', div-eq_of_lt, mod-lt, mul-add-div_right}
use native.Mathlib.Omega.{arith}
use lib.ListN.{length, take, drop, length-append, length-drop}
use lib.Seq.{take-append-le, drop-append-le, drop-drop, take_at, drop_at, length-take-le}
use Rattle.format.specs.Blocks.{block_bytes, body_bytes}
use Rattle.format.specs.Forms.{Shape, shape_of, width}
use Rattle.format.specs.declared.Form.{Form}
use Rattle.format.specs.declared.Form.TheVariants.{One, Two}
use Rattle.trace.specs.Contents.{count_ok}
use Rattle.trace.specs.Layout.{arrivals_block}
use Rattle.trace.specs.declared.Record.{Record}
use Rattle.trace.proofs.Layouts.{length-arrivals_block}
use Rattle.forms.specs.Packing.{full_blocks, full, left, last_block, packed}

-- a block has room for a record
pub most_some : (form : Form) → 0 < (shape_of form).most
most_some One = omega arith
most_some Two = omega arith

-- and may have so many
pub most_counts : (form : Form) → count_ok (shape_of form) (shape_of form).most ≡ true
unfolding count_ok
most_counts One = refl
most_counts Two = refl

module _ (shape : Shape) where
  abbrev most : ℕ
  most = shape.most

  -- ---- lengths

  pub full_fits : (rs : List Record) → full shape rs * most ≤ length rs
  full_fits rs = div-mul-le_self (length rs) most

  pub length-left : (rs : List Record) → length (left shape rs) ≡ length rs - full shape rs * most
  length-left rs = length-drop (full shape rs * most) rs

  -- fewer records are left than a block may have
  pub left_short : 0 < most → (rs : List Record) → length (left shape rs) < most
  left_short some rs = omega (arith, length-left rs, div-add-mod' (length rs) most, mod-lt (length rs) some)

  pub full_none : (rs : List Record) → length rs < most → full shape rs ≡ 0
  full_none rs h = div-eq_of_lt h

  pub left_all : (rs : List Record) → length rs < most → left shape rs ≡ rs
  left_all rs h = rw (full_none rs h, zero-mul most)

  -- ---- full blocks

  module _ (ssrc : ℕ) where
    -- of more records than they take
    pub full_front : (n : ℕ) (xs ys : List Record) → n * most ≤ length xs → full_blocks shape ssrc n (xs ++ ys) ≡ full_blocks shape ssrc n xs
    unfolding full_blocks
    full_front zero xs ys h = refl
    full_front (suc n) xs ys h =
        let size : suc n * most ≡ n * most + most = suc-mul n most in
        let rest : n * most ≤ length (drop most xs) = rw length-drop (omega arith) in
        rw (take-append-le most xs ys (omega arith), drop-append-le most xs ys (omega arith), full_front n (drop most xs) ys rest)

    -- the first of them
    pub full_first : (n : ℕ) → 0 < n → (first rest : List Record) → length first ≡ most
        → full_blocks shape ssrc n (first ++ rest) ≡ arrivals_block shape first ssrc ++ full_blocks shape ssrc (n - 1) rest
    unfolding full_blocks
    full_first zero h first rest e = absurd (omega arith)
    full_first (suc n) h first rest e = let less : suc n - 1 ≡ n = omega arith in rw (less, take_at first rest most e, drop_at first rest most e)

    -- one after another
    pub full_add : (m n : ℕ) (rs : List Record) → full_blocks shape ssrc (m + n) rs ≡ full_blocks shape ssrc m rs ++ full_blocks shape ssrc n (drop (m * most) rs)
    unfolding full_blocks
    full_add zero n rs = rw (zero-add n, zero-mul most)
    full_add (suc m) n rs =
        let size : most + m * most ≡ suc m * most = omega (arith, suc-mul m most) in
        rw (suc-add m n, full_add m n (drop most rs), drop-drop (m * most) most rs, size)
        (sym (append_assoc (arrivals_block shape (take most rs) ssrc) (full_blocks shape ssrc m (drop most rs)) (full_blocks shape ssrc n (drop (suc m * most) rs))))

    pub length-full : most * width shape ≤ body_bytes → (n : ℕ) (rs : List Record) → n * most ≤ length rs → length (full_blocks shape ssrc n rs) ≡ n * block_bytes
    unfolding full_blocks
    length-full fit zero rs h = refl
    length-full fit (suc n) rs h =
        let size : suc n * most ≡ n * most + most = suc-mul n most in
        let many : length (take most rs) ≡ most = length-take-le most rs (omega arith) in
        let rest : n * most ≤ length (drop most rs) = rw length-drop (omega arith) in
        rw (length-append, length-arrivals_block shape (take most rs) ssrc (rw many fit), length-full fit n (drop most rs) rest, suc-mul n block_bytes) (omega arith)

    -- ---- the packing of records in two parts: the full blocks of the first, and the packing of those that are left and the second

    module _ (some : 0 < most) (rs more : List Record) where
      abbrev rest : List Record
      rest = left shape rs ++ more

      rest_is : drop (full shape rs * most) (rs ++ more) ≡ rest
      rest_is = drop-append-le (full shape rs * most) rs more (full_fits rs)

      full_parts : full shape (rs ++ more) ≡ full shape rs + full shape rest
      full_parts =
          let size : length (rs ++ more) ≡ full shape rs * most + length rest =
          length-append rs more ∙ omega (arith, length-append (left shape rs) more, length-left rs, full_fits rs) in
          ap (λ (n : ℕ). n / most) size ∙ mul-add-div_right some (full shape rs) (length rest)

      left_parts : left shape (rs ++ more) ≡ left shape rest
      left_parts =
          rw (full_parts, add-mul (full shape rs) (full shape rest) most, ← drop-drop (full shape rest * most) (full shape rs * most) (rs ++ more), rest_is)

      pub packed_parts : packed shape ssrc (rs ++ more) ≡ full_blocks shape ssrc (full shape rs) rs ++ packed shape ssrc rest
      unfolding packed
      packed_parts =
          let front : full_blocks shape ssrc (full shape (rs ++ more)) (rs ++ more) ≡ full_blocks shape ssrc (full shape rs) rs ++ full_blocks shape ssrc (full shape rest) rest =
          ap (λ (n : ℕ). full_blocks shape ssrc n (rs ++ more)) full_parts
          ∙ full_add (full shape rs) (full shape rest) (rs ++ more)
          ∙ ap₂ (λ (s t : List ℕ). s ++ t) (full_front (full shape rs) rs more (full_fits rs)) (ap (full_blocks shape ssrc (full shape rest)) rest_is) in
          ap₂ (λ (s : List ℕ) (l : List Record). s ++ last_block shape ssrc l) front left_parts
          ∙ append_assoc (full_blocks shape ssrc (full shape rs) rs) (full_blocks shape ssrc (full shape rest) rest) (last_block shape ssrc (left shape rest))

    -- the packing of fewer records than a block may have
    pub packed_short : (rs : List Record) → length rs < most → packed shape ssrc rs ≡ last_block shape ssrc rs
    unfolding packed full_blocks
    packed_short rs h = rw (full_none rs h, zero-mul most)
