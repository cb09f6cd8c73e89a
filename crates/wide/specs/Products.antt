-- Numbers of up to 128 bits in two words, the half-products that a product of two words is added up from, and the columns that they stand in.
use Rattle.std.specs.Prelude.{◌≡◌, ℕ, ◌+◌, ◌*◌, ◌/◌, ◌%◌, ◌^◌}
use Rattle.wide.specs.declared.Wide.{Wide}
use Rattle.wide.specs.declared.HalfProducts.{HalfProducts}

-- the number that two words hold
abbrev pub value : Wide → ℕ
value x = x.high * 2 ^ 64 + x.low

-- the two words of a number
abbrev pub wide_of : ℕ → Wide
wide_of n = record { high = n / 2 ^ 64; low = n % 2 ^ 64 }

-- ---- the half-products

-- each is the product of the halves that its name says
abbrev pub half_products_of : ℕ → ℕ → HalfProducts
half_products_of a b =
    record {
      ll = a % 2 ^ 32 * (b % 2 ^ 32);
      hl = a / 2 ^ 32 * (b % 2 ^ 32);
      lh = a % 2 ^ 32 * (b / 2 ^ 32);
      hh = a / 2 ^ 32 * (b / 2 ^ 32);
    }

-- the half-products, each at its place
abbrev pub added : HalfProducts → ℕ
added h = h.ll + h.hl * 2 ^ 32 + h.lh * 2 ^ 32 + h.hh * 2 ^ 64

-- they add up to the whole product
abbrev pub AddUp : Type 0
AddUp = (a b : ℕ) → added (half_products_of a b) ≡ a * b

-- ---- the columns, from the right

abbrev pub column0 : HalfProducts → ℕ
column0 h = h.ll % 2 ^ 32

abbrev pub column1 : HalfProducts → ℕ
column1 h = h.ll / 2 ^ 32 + h.hl % 2 ^ 32 + h.lh % 2 ^ 32

abbrev pub carry : HalfProducts → ℕ
carry h = column1 h / 2 ^ 32

-- the last one, which takes hh whole
abbrev pub column2 : HalfProducts → ℕ
column2 h = h.hl / 2 ^ 32 + h.lh / 2 ^ 32 + h.hh + carry h

-- the two words that the columns give
abbrev pub words_of : HalfProducts → Wide
words_of h = record { high = column2 h; low = column1 h % 2 ^ 32 * 2 ^ 32 + column0 h }

-- they hold the sum of the half-products
abbrev pub ColumnsAddUp : Type 0
ColumnsAddUp = (h : HalfProducts) → value (words_of h) ≡ added h
