-- The breaker's call that a packet is for (specs/PacketCalls of `between`) as 6 words, in the order of include/flasknib.h: which call, the highest number,
-- the fraction lost, and packets lost, marked and expected. What the call does not take is 0.
use Rattle.std.specs.Prelude.{List, [], ◌∷◌, ℕ, ◌^◌}
use Rattle.numbers.specs.Integers.{modulo}
use Rattle.breaker.specs.declared.Loss.{Loss}
use Rattle.breaker.specs.declared.Loss.TheVariants.{Fraction, Counts}
use Rattle.between.specs.declared.calls.Call.{Call}

-- 1 is flasknib_breaker_report, 2 is flasknib_breaker_report_ecn; the packets lost are signed: their two's complement
unfoldable pub loss_words : ℕ → Loss → List ℕ
loss_words highest (Fraction f) = 1 ∷ highest ∷ f ∷ 0 ∷ 0 ∷ 0 ∷ []
loss_words highest (Counts c) = 2 ∷ highest ∷ 0 ∷ modulo (2 ^ 64) c.lost ∷ c.marked ∷ c.expected ∷ []

-- 0 is flasknib_breaker_heard
unfoldable pub call_words : Call → List ℕ
call_words (Call.Report highest loss) = loss_words highest loss
call_words Call.Heard = 0 ∷ 0 ∷ 0 ∷ 0 ∷ 0 ∷ 0 ∷ []
