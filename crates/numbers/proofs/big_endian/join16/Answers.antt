use Rattle.std.proofs.Common.{[], ◌∷◌, sym}
use Rattle.numbers.proofs.BigEndian.{word_two}
use Rattle.numbers.proofs.big_endian.join16.Goals as goal

pub returns : goal.returns
returns c = sym (word_two (c.args.high ∷ c.args.low ∷ []) 0)
