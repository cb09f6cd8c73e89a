use Rattle.std.specs.Prelude.{◌≡◌, ℕ, Result, Ok, Err}
use Rattle.std.proofs.Common.{sym, ap, ◌∙◌}
use Rattle.answers.specs.declared.Refusal.{Refusal}
use Rattle.answers.proofs.Conditions.{was_true, was_false}
use Rattle.trace.specs.Numbered.{later_as}
use Rattle.trace.specs.Reading.{fault_of}
use Rattle.trace.specs.declared.Block.{Block}
use Rattle.trace.proofs.Placed.{later_by_lem, later_other, later_foreign, later_own}
use Rattle.trace.proofs.places.read_own.Goals.{in_default-via-in-Ok+in-Label-1, in_default-via-in-Err-1}
use Rattle.trace.proofs.places.read_own.Goals as goal

pub returns-then-not-is_own-clause-value : goal.returns-then-not-is_own-clause-value
returns-then-not-is_own-clause-value c =
    let a = c.args in
    sym (later_foreign a.form a.ssrc a.block.now (sym c.read_block.ensures.value ∙ c.in-Ok-Arrivals.is ∙ ap Ok c.in-Ok-Arrivals.field-0-is) (was_false c.is_own.ensures c.if-not-is_own.true))

pub returns-then-not-is_own-clause-numbered : goal.returns-then-not-is_own-clause-numbered
returns-then-not-is_own-clause-numbered c = ap later_as (returns-then-not-is_own-clause-value c)

pub returns-else-not-is_own-clause-value : goal.returns-else-not-is_own-clause-value
returns-else-not-is_own-clause-value c =
    let a = c.args in
    sym (later_own a.form a.ssrc a.block.now (sym c.read_block.ensures.value ∙ c.in-Ok-Arrivals.is ∙ ap Ok c.in-Ok-Arrivals.field-0-is) (was_true c.is_own.ensures c.if-not-is_own.false))

pub returns-else-not-is_own-clause-numbered : goal.returns-else-not-is_own-clause-numbered
returns-else-not-is_own-clause-numbered c = ap later_as (returns-else-not-is_own-clause-value c)

abbrev refused : Result Block Refusal → Result ℕ Refusal
refused r = Err (fault_of r)

pub returns-in_default-clause-value : goal.returns-in_default-clause-value
returns-in_default-clause-value c =
    let a = c.args in
    let b = a.block.now in
    let read = c.read_block in
    ap Err c.fault_of.ensures
    ∙ elim c.in_default-1.branch [
      | in_default-via-in-Ok+in-Label-1 w ↦
          ap refused w.other-is
          ∙ sym (later_by_lem a.form a.ssrc b (sym read.ensures.value ∙ w.t8-1.given.1) ∙ later_other a.form a.ssrc w.t8-1.given.0.0 w.in-Label-1.keys2)
      | in_default-via-in-Err-1 w ↦
          ap refused (w.other-is ∙ w.enum_told_at-1.given.1) ∙ sym (later_by_lem a.form a.ssrc b (sym read.ensures.value ∙ w.enum_told_at-1.given.1))
    ]

pub returns-in_default-clause-numbered : goal.returns-in_default-clause-numbered
returns-in_default-clause-numbered c = ap later_as (returns-in_default-clause-value c)
