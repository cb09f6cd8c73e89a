use mathlib.Core.Path.{refl, ◌∙◌}
use Prim.Native.Nat.{min}
use Rattle.roots.proofs.Floors.{as_radicand}
use Rattle.roots.proofs.timeout_root.Goals as goal

pub returns : goal.returns
returns c = c.entry.ensures 3 8192 refl ∙ as_radicand 3 8192 (min c.args.n 1024)
