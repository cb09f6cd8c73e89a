use mathlib.Core.Path.{sym, ap, ◌∙◌}
use Prim.Native.Nat.{ℕ, ◌+◌}
use Rattle.capi.specs.BreakerCalls.{answer_code}
use Rattle.capi.proofs.circuit.code.Goals as goal

pub returns-in-Stop : goal.returns-in-Stop
returns-in-Stop c = ap (λ (n : ℕ). 256 + n) c.number.ensures ∙ sym (ap answer_code c.in-Stop.is)

pub returns-in-Refused : goal.returns-in-Refused
returns-in-Refused c = ap (λ (n : ℕ). 512 + n) c.number-in-Refused.ensures ∙ sym (ap answer_code c.in-Refused.is)
