use Rattle.engine.proofs.Bytes.{shifted_unit}
use Rattle.engine.proofs.steps.unit.Goals as goal

pub returns : goal.returns
returns c = shifted_unit c.args.mark c.requires
