use Rattle.sdp.specs.Reading.{attribute_of}
use Rattle.sdp.specs.Answers.{with_method}
use Rattle.sdp.proofs.Chosen.attribute.Goals as goal

pub returns : goal.returns
unfolding attribute_of with_method
returns c = rw (c.with_method.ensures, c.empty.ensures)
