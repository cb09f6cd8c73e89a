use mathlib.Core.Path.{ap}
use Prim.Native.Nat.{ℕ}
use lib.Dec.{leb}
use Rattle.source.proofs.places.at_most.Goals as goal

pub returns : goal.returns
returns c = ap (λ (k : ℕ). leb k c.args.n) c.count.ensures
