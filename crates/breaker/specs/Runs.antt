-- Lists of calls on a breaker, in the order of time.
use Rattle.std.specs.Prelude.{List, [], ◌∷◌, ℕ}
use Rattle.breaker.specs.declared.Breaker.{Breaker}
use Rattle.breaker.specs.declared.Report.{Report}
use Rattle.breaker.specs.declared.Answer.{Answer}
use Rattle.breaker.specs.declared.Step.{Step}
use Rattle.breaker.specs.Calls.{report_of, tick_of, heard_of}

-- a report, or the time of a tick or of a heard packet
pub data Call : Type 0 where
  report : Report → Call
  tick : ℕ → Call
  heard : ℕ → Call

unfoldable pub called : Breaker → Call → Step
called b (report r) = report_of b r
called b (tick time) = tick_of b time
called b (heard time) = heard_of b time

-- the answers of a list of calls, each on the breaker that the one before hands back
unfoldable pub answers_of : Breaker → List Call → List Answer
answers_of b [] = []
answers_of b (c ∷ cs) = (called b c).answer ∷ answers_of (called b c).breaker cs

-- the breaker after them
unfoldable pub after : Breaker → List Call → Breaker
after b [] = b
after b (c ∷ cs) = after (called b c).breaker cs
