use Rattle.std.specs.Prelude.{Result, Ok, Err}
use mathlib.Core.Path.{sym, ap, ◌∙◌}
use Rattle.answers.specs.declared.Refusal.{Refusal}
use Rattle.trace.specs.Reading.{fault_of}
use Rattle.trace.specs.declared.Block.{Block}
use Rattle.mixed.specs.declared.Run.{Run}
use Rattle.mixed.proofs.Calls.{start_by_lem, start_other}
use Rattle.mixed.proofs.Run.start.Goals.{in_default-via-in-Ok+in-Arrivals-1, in_default-via-in-Err-1}
use Rattle.mixed.proofs.Run.start.Goals as goal

pub returns-in-Ok-Label : goal.returns-in-Ok-Label
returns-in-Ok-Label c = sym (start_by_lem c.args.zeroth.now (sym c.read_block.ensures.value ∙ c.in-Ok-Label.is ∙ ap Ok c.in-Ok-Label.field-0-is))

abbrev refused : Result Block Refusal → Result Run Refusal
refused r = Err (fault_of r)

pub returns-in_default : goal.returns-in_default
returns-in_default c =
    let b = c.args.zeroth.now in
    let read = c.read_block in
    ap Err c.fault_of.ensures
    ∙ elim c.in_default-1.branch [
      | in_default-via-in-Ok+in-Arrivals-1 w ↦
          ap refused w.other-is ∙ sym (start_by_lem b (sym read.ensures.value ∙ w.t5-1.given.1) ∙ start_other w.t5-1.given.0.0 w.in-Arrivals-1.keys2)
      | in_default-via-in-Err-1 w ↦ ap refused (w.other-is ∙ w.enum_told_at-1.given.1) ∙ sym (start_by_lem b (sym read.ensures.value ∙ w.enum_told_at-1.given.1))
    ]
