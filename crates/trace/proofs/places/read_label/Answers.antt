use Rattle.std.specs.Prelude.{Result, Ok, Err}
use Rattle.std.proofs.Common.{sym, ap, ◌∙◌}
use Rattle.answers.specs.declared.Refusal.{Refusal}
use Rattle.trace.specs.Numbered.{zeroth_as}
use Rattle.trace.specs.Reading.{fault_of}
use Rattle.trace.specs.declared.Block.{Block}
use Rattle.trace.specs.declared.Zeroth.{Zeroth}
use Rattle.trace.proofs.Placed.{zeroth_by_lem, zeroth_other}
use Rattle.trace.proofs.places.read_label.Goals.{in_default-via-in-Ok+in-Arrivals-1, in_default-via-in-Err-1}
use Rattle.trace.proofs.places.read_label.Goals as goal

pub returns-in-Ok-Label-clause-value : goal.returns-in-Ok-Label-clause-value
returns-in-Ok-Label-clause-value c = sym (zeroth_by_lem c.args.zeroth.now (sym c.read_block.ensures.value ∙ c.in-Ok-Label.is ∙ ap Ok c.in-Ok-Label.field-0-is))

pub returns-in-Ok-Label-clause-numbered : goal.returns-in-Ok-Label-clause-numbered
returns-in-Ok-Label-clause-numbered c = ap zeroth_as (returns-in-Ok-Label-clause-value c)

abbrev refused : Result Block Refusal → Result Zeroth Refusal
refused r = Err (fault_of r)

pub returns-in_default-clause-value : goal.returns-in_default-clause-value
returns-in_default-clause-value c =
    let b = c.args.zeroth.now in
    let read = c.read_block in
    ap Err c.fault_of.ensures
    ∙ elim c.in_default-1.branch [
      | in_default-via-in-Ok+in-Arrivals-1 w ↦
          ap refused w.other-is ∙ sym (zeroth_by_lem b (sym read.ensures.value ∙ w.t6-1.given.1) ∙ zeroth_other w.t6-1.given.0.0 w.in-Arrivals-1.keys2)
      | in_default-via-in-Err-1 w ↦ ap refused (w.other-is ∙ w.enum_told_at-1.given.1) ∙ sym (zeroth_by_lem b (sym read.ensures.value ∙ w.enum_told_at-1.given.1))
    ]

pub returns-in_default-clause-numbered : goal.returns-in_default-clause-numbered
returns-in_default-clause-numbered c = ap zeroth_as (returns-in_default-clause-value c)
