-- Forms that are one by the kind of a label block, which `==` of two forms answers. Assumes nothing.
use denote.Enum.Bare.{sameb}
use mathlib.Core.Path.{◌≡◌, refl}
use native.Mathlib.Omega.{arith}
use Prim.Native.Nat.{ℕ}
use mathlib.Core.Bool.{true}
use Rattle.format.specs.Forms.{same_form}
use Rattle.format.specs.contracts.Form.{the_type}
use Rattle.format.specs.declared.Form.{Form}
use Rattle.format.specs.declared.Form.TheVariants.{One, Two}

pub same_form_lem : (a b : Form) → same_form a b ≡ true → a ≡ b
same_form_lem One One e = refl
same_form_lem One Two e = let z : ◌≡◌ {A = ℕ} 0 1 = cc in absurd (omega arith)
same_form_lem Two One e = let z : ◌≡◌ {A = ℕ} 0 1 = cc in absurd (omega arith)
same_form_lem Two Two e = refl

-- what `a == b` answers, as code and its proofs have it
pub equal_forms : (a b : Form) → sameb the_type a b ≡ same_form a b
equal_forms One One = refl
equal_forms One Two = refl
equal_forms Two One = refl
equal_forms Two Two = refl
