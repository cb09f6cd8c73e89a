use Rattle.forms.specs.Pieces.{end_of}
use Rattle.forms.proofs.pieces.Progress.end.Goals as goal

pub returns : goal.returns
unfolding end_of
returns c = record { printed = c.close-last.ensures; told = c.tell_end-line.ensures }
