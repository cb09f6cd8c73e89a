-- Document 02, request L12: the line that is written, in lower case, mode before ect.
use Rattle.sdp.specs.declared.Mode.{Mode}
use Rattle.sdp.specs.declared.Ect.{Ect}
use Rattle.std.specs.Prelude.{cond, List, [], ◌∷◌, ◌++◌, ℕ, ltb, eqb, take, Option, Some, None}
use Rattle.answers.specs.declared.Refusal.{Refusal}
use Rattle.answers.specs.declared.Refusal.TheVariants.{Limits}
use Rattle.answers.specs.Texts.{codes}
use Rattle.sdp.specs.declared.Method.{Method}
use Rattle.sdp.specs.declared.Attribute.{Attribute}
use Rattle.sdp.specs.Grammar.{method_text, mode_text, ect_text}

-- the methods of a record, most wanted first; the places behind `used` say nothing
abbrev pub methods_in : Attribute → List Method
methods_in a = take a.used a.methods

-- the methods with commas between
unfoldable pub with_commas : List Method → List ℕ
with_commas [] = []
with_commas (m ∷ []) = method_text m
with_commas (m ∷ n ∷ ms) = method_text m ++ (44 ∷ with_commas (n ∷ ms))

-- the parameters behind the methods
unfoldable pub with_parms : Option Mode → Option Ect → List ℕ
with_parms None None = []
with_parms None (Some e) = 32 ∷ ect_text e
with_parms (Some m) None = 32 ∷ mode_text m
with_parms (Some m) (Some e) = 32 ∷ (mode_text m ++ (59 ∷ 32 ∷ ect_text e))

unfoldable pub attribute_bytes : Attribute → List ℕ
attribute_bytes a = codes "a=ecn-capable-rtp: " ++ (with_commas (methods_in a) ++ with_parms a.mode a.ect)

-- 10: no method to write, or over 8
unfoldable pub write_fault : Attribute → Option Refusal
write_fault a = cond (eqb a.used 0) (Some Limits) (cond (ltb 8 a.used) (Some Limits) None)
