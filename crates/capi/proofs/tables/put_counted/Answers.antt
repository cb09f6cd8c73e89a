use borrow.Author.Rules.{rules}
use mathlib.Core.Path.{ap, ◌∙◌}
use native.Mathlib.Omega.{arith}
use Prim.Native.Nat.{◌+◌, ◌*◌}
use mir.Syntax.{w64}
use mir.ValLaws.{to_z_pos}
use Rattle.numbers.proofs.Signed.{seen_is}
use Rattle.capi.specs.TableSteps.{jumps_in, restarts_in}
use Rattle.capi.proofs.tables.put_counted.Goals as goal

pub overflow_mul-result : goal.overflow_mul-result
overflow_mul-result c =
    let told = c.in-Block.is in
    omega (arith, ap restarts_in told, c.requires.1)

pub overflow_add-result : goal.overflow_add-result
overflow_add-result c =
    let told = c.in-Block.is in
    let few = c.requires in
    omega (arith, ap restarts_in told, ap jumps_in told, few.0, few.1)

pub overflow_cast-result : goal.overflow_cast-result
overflow_cast-result c =
    let told = c.in-Block.is in
    let few = c.requires in
    record { sfits = omega (arith, ap restarts_in told, ap jumps_in told, few.0, few.1) }

pub returns-in-Block : goal.returns-in-Block
returns-in-Block c =
    let told = c.in-Block.is in
    let few = c.requires in
    record {
      answers = rw told (to_z_pos w64 (256 * c.in-Block.restarts + c.in-Block.jumps) (omega (arith, ap restarts_in told, ap jumps_in told, few.0, few.1)));
      stores = rw told c.store.ensures;
    }

pub returns-in-Refused : goal.returns-in-Refused
returns-in-Refused c =
    let told = c.in-Refused.is in
    record { answers = rw told (seen_is c.minus.result (search rules) ∙ c.minus.ensures); stores = rw told }
