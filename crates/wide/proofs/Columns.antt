-- A product added up from its half-products, column by column. Assumes nothing.
use mathlib.Core.Path.{◌≡◌, sym, ◌∙◌, ap}
use Prim.Native.Nat.{ℕ, ◌+◌, ◌*◌, ◌/◌, ◌%◌, ◌^◌, ◌<◌}
use native.Mathlib.Nat.{mod-lt}
use native.Mathlib.Omega.{arith}
use lib.Pow.{split, pow_pos, high, low}
use Rattle.wide.specs.Products.{value, wide_of, half_products_of, added, AddUp, column0, column1, carry, column2, words_of, ColumnsAddUp}
use Rattle.wide.specs.declared.HalfProducts.{HalfProducts}

-- ---- the half-products, each at its place

-- two numbers cut at B
whole : (B ah al bh bl : ℕ) → al * bl + ah * bl * B + al * bh * B + ah * bh * (B * B) ≡ (ah * B + al) * (bh * B + bl)
whole B ah al bh bl = omega arith

pub add_up : AddUp
add_up a b = whole (2 ^ 32) (a / 2 ^ 32) (a % 2 ^ 32) (b / 2 ^ 32) (b % 2 ^ 32) ∙ (λ i. split a 32 i * split b 32 i)

-- ---- the columns

-- the upper and the lower half of ll are ll₁ and ll₀, those of hl and lh likewise; those of column 1 are c and d
columns : (B ll₁ ll₀ hl₁ hl₀ lh₁ lh₀ hh c d : ℕ) → c * B + d ≡ ll₁ + hl₀ + lh₀
    → (hl₁ + lh₁ + hh + c) * (B * B) + (d * B + ll₀) ≡ ll₁ * B + ll₀ + (hl₁ * B + hl₀) * B + (lh₁ * B + lh₀) * B + hh * (B * B)
columns B ll₁ ll₀ hl₁ hl₀ lh₁ lh₀ hh c d e = omega (arith, ap (λ (n : ℕ). n * B) e)

pub columns_add_up : ColumnsAddUp
columns_add_up h =
    columns (2 ^ 32) (h.ll / 2 ^ 32) (h.ll % 2 ^ 32) (h.hl / 2 ^ 32) (h.hl % 2 ^ 32) (h.lh / 2 ^ 32) (h.lh % 2 ^ 32) h.hh (carry h) (column1 h % 2 ^ 32)
    (split (column1 h) 32)
    ∙ (λ i. split h.ll 32 i + split h.hl 32 i * 2 ^ 32 + split h.lh 32 i * 2 ^ 32 + h.hh * 2 ^ 64)

-- ---- the words

two_halves : (x y : ℕ) → x < 2 ^ 32 → y < 2 ^ 32 → x * 2 ^ 32 + y < 2 ^ 64
two_halves x y hx hy = omega arith

-- the columns give the two words of the product
pub words_are : (a b : ℕ) {h : HalfProducts} → h ≡ half_products_of a b → words_of h ≡ wide_of (a * b)
words_are a b {h} e =
    let lower : (words_of h).low < 2 ^ 64 = two_halves (column1 h % 2 ^ 32) (column0 h) (mod-lt (column1 h) (pow_pos 32)) (mod-lt h.ll (pow_pos 32)) in
    let sum : value (words_of h) ≡ a * b = columns_add_up h ∙ ap added e ∙ add_up a b in
    λ i. record {
      high = (sym (high (column2 h) 64 lower) ∙ ap (λ (n : ℕ). n / 2 ^ 64) sum) i;
      low = (sym (low (column2 h) 64 lower) ∙ ap (λ (n : ℕ). n % 2 ^ 64) sum) i;
    }
