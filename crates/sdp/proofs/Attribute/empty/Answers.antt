use mathlib.Core.Path.{refl}
use Rattle.sdp.specs.Reading.{attribute_of}
use Rattle.sdp.proofs.Attribute.empty.Goals as goal

pub returns : goal.returns
unfolding attribute_of
returns c = refl
