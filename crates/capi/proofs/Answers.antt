-- A writer's answer as a number. Assumes nothing.
use Rattle.std.specs.Prelude.{Option, Result}
use Rattle.answers.specs.declared.Unwritten.{Unwritten}
use mathlib.Core.Path.{◌≡◌, ap, ◌∙◌}
use mathlib.Core.List.{List}
use Prim.Native.Nat.{ℕ, zero, suc, ◌^◌, ◌<◌}
use native.Mathlib.Omega.{arith}
use lib.IntN.{ℤ, pos, neg_ℤ}
use mir.Syntax.{w64}
use mir.Val.{SFits}
use Rattle.answers.specs.declared.Refusal.{Refusal}
use Rattle.answers.specs.Writers.{Wrote}
use Rattle.numbers.proofs.Signed.{seen, seen_is}
use Rattle.capi.specs.Codes.{length_code, Gives}

-- minus a number
pub negative_fits : (n : ℕ) → n < 2 ^ 63 → SFits w64 (neg_ℤ (pos n))
negative_fits zero h = record { sfits = omega arith }
negative_fits (suc n) h = record { sfits = omega arith }

-- what a function gives and leaves that hands a writer's answer on
module _ {fault : Option Refusal} {new old out : List ℕ} {answer : Result ℕ Unwritten} where
  pub gives : {A : Type 0} (code : Result ℕ Unwritten → A) {r : A} → Wrote fault new old answer out → r ≡ code answer → Gives code fault new old r out
  gives code w e = record { answers = e ∙ ap code w.answers; stores = w.stores }

  pub coded : {r : ℤ} → SFits w64 r → r ≡ length_code answer → Wrote fault new old answer out → Gives length_code fault new old (seen r) out
  coded {r} fits e w = gives length_code w (seen_is r fits ∙ e)
