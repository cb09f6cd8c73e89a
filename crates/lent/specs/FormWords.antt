-- The form of a trace (document 02, request L10) as a number, in the order of include/flasknib.h.
use Rattle.std.specs.Prelude.{Bool, cond, ◌||◌, ℕ, eqb}
use Rattle.format.specs.declared.Form.{Form}
use Rattle.format.specs.declared.Form.TheVariants.{One, Two}

abbrev pub form_number : Form → ℕ
form_number One = 1
form_number Two = 2

-- form 1 or 2; no form has another number
abbrev pub is_form : ℕ → Bool
is_form number = eqb number 1 || eqb number 2

abbrev pub form_of : ℕ → Form
form_of number = cond (eqb number 2) Two One
