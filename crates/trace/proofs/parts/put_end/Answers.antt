use Rattle.trace.proofs.Layouts.{end_stored}
use Rattle.trace.proofs.parts.put_end.Goals as goal

pub returns : goal.returns
returns c =
    end_stored c.args.out.now c.args.from c.requires.0 c.requires.1 c.put_zeros.ensures c.put_check.ensures
