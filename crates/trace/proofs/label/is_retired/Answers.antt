use Rattle.std.proofs.Common.{ℕ, Bool, cond, sym, ap}
use Rattle.trace.proofs.Spacing.{retired_line, retired_other}
use Rattle.trace.proofs.label.is_retired.Goals as goal

pub returns-in-10 : goal.returns-in-10
returns-in-10 c = sym (ap (λ (t : Bool). cond {A = ℕ} t 1 0) (retired_line _ c.in-10.is))

pub returns-in_default : goal.returns-in_default
returns-in_default c = sym (ap (λ (t : Bool). cond {A = ℕ} t 1 0) (retired_other _ c.in_default.in_default-own.rest.1))
