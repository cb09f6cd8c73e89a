use mathlib.Core.Path.{ap}
use Prim.Native.Nat.{ℕ}
use Rattle.salvage.proofs.Progress.moved.Goals as goal

pub returns : goal.returns
returns c = let p = c.args.self in ap (λ (n : ℕ). record { form = p.form; ssrc = p.ssrc; block = n; ended = p.ended }) c.number_after-block.ensures
