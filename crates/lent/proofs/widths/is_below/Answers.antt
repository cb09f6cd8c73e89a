use mathlib.Core.Path.{ap}
use Prim.Native.Nat.{ℕ}
use lib.Dec.{ltb}
use Rattle.lent.proofs.widths.is_below.Goals as goal

pub returns : goal.returns
returns c = ap (λ (n : ℕ). ltb n c.args.limit) c.word_at.ensures
