-- What holds of every form of a trace: its kinds are told apart, and its records fit a body. Assumes nothing.
use mathlib.Core.Path.{◌≡◌, refl}
use mathlib.Core.Bool.{Bool, true, false, cond}
use Prim.Native.Nat.{ℕ, suc, ◌+◌, ◌*◌, ◌≤◌, ◌<◌}
use native.Mathlib.Nat.{suc-mul, le_trans, mul-le-mul_right}
use native.Mathlib.Omega.{arith}
use borrow.Author.Rules.{rules}
use borrow.Author.Tests.{eqb-true}
use lib.Dec.{eqb}
use Rattle.format.specs.Blocks.{body_bytes}
use Rattle.format.specs.Forms.{Shape, shape_of, width, kind_of}
use Rattle.format.specs.declared.Form.{Form}
use Rattle.format.specs.declared.Form.TheVariants.{One, Two}
use Rattle.format.specs.declared.Kind.{Kind}
use Rattle.format.specs.declared.Kind.TheVariants.{Label, Arrivals, Unknown}

-- ---- kinds

pub kind_label : (form : Form) → kind_of (shape_of form).label ≡ Label form
kind_label One = refl
kind_label Two = refl

pub kind_arrivals : (form : Form) → kind_of (shape_of form).arrivals ≡ Arrivals form
kind_arrivals One = refl
kind_arrivals Two = refl

-- the number that a kind has
abbrev pub Numbered : ℕ → Kind → Type 0
Numbered n (Label form) = n ≡ (shape_of form).label
Numbered n (Arrivals form) = n ≡ (shape_of form).arrivals
Numbered n Unknown = Unit {0}

pub numbered : (n : ℕ) → Numbered n (kind_of n)
numbered n = go (eqb n 1) (eqb n 2) (eqb n 3) (eqb n 4) refl refl refl refl
  where
    go :
        (a b c d : Bool) → eqb n 1 ≡ a → eqb n 2 ≡ b → eqb n 3 ≡ c → eqb n 4 ≡ d
        → Numbered n (cond a (Label One) (cond b (Arrivals One) (cond c (Label Two) (cond d (Arrivals Two) Unknown))))
    go true b c d e₁ e₂ e₃ e₄ = eqb-true n 1 e₁
    go false true c d e₁ e₂ e₃ e₄ = eqb-true n 2 e₂
    go false false true d e₁ e₂ e₃ e₄ = eqb-true n 3 e₃
    go false false false true e₁ e₂ e₃ e₄ = eqb-true n 4 e₄
    go false false false false e₁ e₂ e₃ e₄ = tt

-- ---- records

pub record Fits (shape : Shape) : Type 0 where
  pub label_least : 1 ≤ shape.label
  pub label_most : shape.label < 65536
  pub arrivals_least : 1 ≤ shape.arrivals
  pub arrivals_most : shape.arrivals < 65536
  pub few : shape.most ≤ body_bytes
  pub room : shape.most * width shape ≤ body_bytes

pub fits : (form : Form) → Fits (shape_of form)
fits One = search rules
fits Two = search rules

module _ {shape : Shape} (fit : Fits shape) {n : ℕ} (few : n ≤ shape.most) where
  -- as many records as a block may have lie in its body
  pub records_fit : n * width shape ≤ body_bytes
  records_fit = le_trans (mul-le-mul_right (width shape) few) fit.room

  -- and so does each of them
  pub record_fits : (i : ℕ) → i < n → i * width shape + width shape ≤ body_bytes
  record_fits i h =
      let most : suc i * width shape ≤ n * width shape = mul-le-mul_right (width shape) (omega arith) in
      omega (arith, most, records_fit, suc-mul i (width shape))
