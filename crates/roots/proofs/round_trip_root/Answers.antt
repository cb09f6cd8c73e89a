use mathlib.Core.Path.{refl, ◌∙◌}
use Prim.Native.Nat.{min}
use Rattle.roots.proofs.Floors.{as_radicand}
use Rattle.roots.proofs.round_trip_root.Goals as goal

pub returns : goal.returns
returns c = c.entry.ensures 2 3072 refl ∙ as_radicand 2 3072 (min c.args.n 1024)
