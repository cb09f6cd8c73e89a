use borrow.Author.Rules.{rules}
use mathlib.Core.Path.{sym, ap, ◌∙◌}
use native.Mathlib.Omega.{arith}
use Rattle.std.specs.Prelude.{Err}
use Rattle.numbers.proofs.Signed.{seen_is}
use Rattle.answers.specs.declared.Unwritten.{Unwritten}
use Rattle.answers.specs.Writers.{size_in}
use Rattle.capi.specs.Codes.{length_code}
use Rattle.capi.proofs.codes.unwritten.Goals as goal

pub overflow_mul-n : goal.overflow_mul-n
overflow_mul-n c = omega (arith, ap (λ (why : Unwritten). size_in (Err why)) c.in-Room.is, c.requires)

pub overflow_add-n : goal.overflow_add-n
overflow_add-n c = omega (arith, ap (λ (why : Unwritten). size_in (Err why)) c.in-Room.is, c.requires)

pub negative-requires : goal.negative-requires
negative-requires c = omega (arith, ap (λ (why : Unwritten). size_in (Err why)) c.in-Room.is, c.requires)

pub returns-in-Room : goal.returns-in-Room
returns-in-Room c = seen_is c.negative.result (search rules) ∙ c.negative.ensures ∙ sym (ap (λ (why : Unwritten). length_code (Err why)) c.in-Room.is)

pub returns-in-Refused : goal.returns-in-Refused
returns-in-Refused c = seen_is c.minus.result (search rules) ∙ c.minus.ensures ∙ sym (ap (λ (why : Unwritten). length_code (Err why)) c.in-Refused.is)
