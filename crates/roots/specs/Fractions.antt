-- Fractions of whole numbers. They are compared by cross-multiplication.
use Rattle.std.specs.Prelude.{◌≡◌, Bool, ℕ, ◌+◌, ◌*◌, ltb}

-- the fraction top / bottom; with bottom 0 it stands for a value above all numbers
pub record Fraction : Type 0 where
  pub top : ℕ
  pub bottom : ℕ

abbrev pub whole : ℕ → Fraction
whole n = record { top = n; bottom = 1 }

infixl 5 ◌equals◌
infixl 10 ◌plus◌
infixl 20 ◌times◌
infixl 20 ◌over◌
abbrev pub ◌plus◌ : Fraction → Fraction → Fraction
x plus y = record { top = x.top * y.bottom + y.top * x.bottom; bottom = x.bottom * y.bottom }

abbrev pub ◌times◌ : Fraction → Fraction → Fraction
x times y = record { top = x.top * y.top; bottom = x.bottom * y.bottom }

abbrev pub ◌over◌ : Fraction → Fraction → Fraction
x over y = record { top = x.top * y.bottom; bottom = x.bottom * y.top }

abbrev pub square : Fraction → Fraction
square x = x times x

-- x and y have one value
abbrev pub ◌equals◌ : Fraction → Fraction → Type 0
x equals y = x.top * y.bottom ≡ y.top * x.bottom

-- whether x is above y
abbrev pub above : Fraction → Fraction → Bool
above x y = ltb (y.top * x.bottom) (x.top * y.bottom)
