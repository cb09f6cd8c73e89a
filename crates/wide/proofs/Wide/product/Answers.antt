use Rattle.wide.proofs.Columns.{words_are}
use Rattle.wide.proofs.Wide.product.Goals as goal

pub returns : goal.returns
returns c = words_are c.args.a c.args.b c.of-h.ensures
