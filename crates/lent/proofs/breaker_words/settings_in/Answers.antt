use lib.Dec.{eqb}
use Rattle.lent.specs.BreakerWords.{settings_of}
use Rattle.lent.proofs.breaker_words.settings_in.Goals as goal

pub returns : goal.returns
unfolding settings_of
returns c =
    λ i. record { k = c.word_at-k.ensures i; m = c.word_at-m.ensures i; timeout = c.word_at-timeout.ensures i; reduce = eqb (c.word_at-reduce.ensures i) 1; full = eqb (c.word_at-full.ensures i) 1 }
