use borrow.Author.Rules.{rules}
use mathlib.Core.Path.{◌≡◌}
use native.Mathlib.Omega.{arith}
use borrow.Author.Tests.{le-ltb}
use lib.IntN.{ℤ, pos, negsuc}
use lib.Signed.{lt_z}
use mir.Syntax.{w64}
use mir.Val.{SFits, of_z, to_z}
use mir.ValLaws.{to_z-of_z}
use Rattle.shell.specs.Fills.{is_placeless}
use Rattle.shell.proofs.reading.is_placeless.Goals as goal

below : (z : ℤ) → SFits w64 z → lt_z (to_z w64 (of_z w64 z)) (pos 0) ≡ is_placeless z
below (pos n) f = rw (to_z-of_z w64 (pos n) f) (le-ltb n 0 (omega arith))
below (negsuc n) f = rw (to_z-of_z w64 (negsuc n) f)

pub returns : goal.returns
returns c = below c.args.place (search rules)
