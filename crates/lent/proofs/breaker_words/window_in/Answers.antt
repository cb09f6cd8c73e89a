use Rattle.lent.specs.BreakerWords.{window_of}
use Rattle.lent.proofs.breaker_words.window_in.Goals as goal

pub returns : goal.returns
unfolding window_of
returns c = λ i. record { used = c.word_at-used.ensures i; intervals = c.intervals_in-intervals.ensures i }
