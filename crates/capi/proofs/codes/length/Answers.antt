use borrow.Author.Rules.{rules}
use mathlib.Core.Path.{sym, ap, subst, ◌∙◌}
use Prim.Native.Nat.{ℕ, ◌<◌, ◌^◌}
use native.Mathlib.Omega.{arith}
use mir.Syntax.{w64}
use mir.ValLaws.{to_z_pos}
use Rattle.std.specs.Prelude.{Result}
use Rattle.numbers.proofs.Signed.{seen_is}
use Rattle.answers.specs.declared.Unwritten.{Unwritten}
use Rattle.answers.specs.Writers.{size_in}
use Rattle.capi.specs.Codes.{length_code}
use Rattle.capi.proofs.codes.length.Goals as goal

pub overflow_cast-result : goal.overflow_cast-result
overflow_cast-result c = record { sfits = omega (arith, ap size_in c.in-Ok.is, c.requires) }

pub unwritten-requires : goal.unwritten-requires
unwritten-requires c = subst (λ (w : Result ℕ Unwritten). size_in w < 2 ^ 54) c.in-Err.is c.requires

pub returns-in-Ok : goal.returns-in-Ok
returns-in-Ok c =
    let told = c.in-Ok.is in
    to_z_pos w64 c.in-Ok.n (omega (arith, ap size_in told, c.requires)) ∙ sym (ap length_code told)

pub returns-in-Err : goal.returns-in-Err
returns-in-Err c = seen_is c.unwritten.result (search rules) ∙ c.unwritten.ensures ∙ sym (ap length_code c.in-Err.is)
