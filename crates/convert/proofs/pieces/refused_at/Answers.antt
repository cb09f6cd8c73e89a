use mathlib.Core.Path.{refl}
use Rattle.convert.proofs.pieces.refused_at.Goals as goal

pub returns : goal.returns
returns c = (refl, rw (← c.number.ensures) c.write_refused-line.ensures)
