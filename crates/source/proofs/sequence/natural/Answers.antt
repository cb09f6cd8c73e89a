use borrow.Author.Rules.{rules}
use Rattle.numbers.proofs.Signed.{natural_cast, natural_seen}
use Rattle.source.proofs.sequence.natural.Goals as goal

pub overflow_cast-result : goal.overflow_cast-result
overflow_cast-result c = natural_cast c.args.e.0 (search rules) c.requires

pub returns : goal.returns
returns c = natural_seen c.args.e.0 (search rules) c.requires
