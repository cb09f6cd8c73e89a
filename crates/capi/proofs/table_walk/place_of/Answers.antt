use native.Mathlib.Omega.{arith}
use Rattle.capi.proofs.table_walk.place_of.Goals as goal

pub returns-then-words-ne0 : goal.returns-then-words-ne0
returns-then-words-ne0 c = λ h. absurd (omega (arith, h))

pub returns-then-n-gt-UNTOLD : goal.returns-then-n-gt-UNTOLD
returns-then-n-gt-UNTOLD c = λ h. absurd (omega (arith, h))
