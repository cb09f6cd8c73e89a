use mathlib.Core.Path.{sym, ◌∙◌}
use borrow.Author.Tests.{ne_eqb}
use Rattle.answers.specs.Refusals.{number_of}
use Rattle.capi.proofs.tables.put_arrived.Goals as goal

-- a jump
pub returns-then-number-eq-JUMP : goal.returns-then-number-eq-JUMP
returns-then-number-eq-JUMP c =
    let told = c.in-Refused.is in
    let seven = sym c.number-number.ensures ∙ c.if-number-eq-JUMP.true in
    record { answers = rw (told, seven); stores = rw (told, seven) c.store-then-number-eq-JUMP.ensures }

pub returns-in-Accepted : goal.returns-in-Accepted
returns-in-Accepted c =
    let told = c.in-Accepted.is in
    record { answers = rw told; stores = rw told c.store.ensures }

pub returns-in-Restarted : goal.returns-in-Restarted
returns-in-Restarted c =
    let told = c.in-Restarted.is in
    record { answers = rw told; stores = rw told c.store-in-Restarted.ensures }

-- another refusal
pub returns-else-number-eq-JUMP : goal.returns-else-number-eq-JUMP
returns-else-number-eq-JUMP c =
    let told = c.in-Refused.is in
    let number = c.number-number.ensures in
    record { answers = rw told number; stores = rw (told, ne_eqb (number_of c.in-Refused.refusal) 7 (λ z. c.if-number-eq-JUMP.false (number ∙ z))) }
