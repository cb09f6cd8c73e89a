use mathlib.Core.Path.{sym, ap, ◌∙◌}
use Rattle.answers.proofs.Stores.{wrote_refused}
use Rattle.trace.specs.Reading.{found_at}
use Rattle.capi.specs.Codes.{refusal_code}
use Rattle.capi.specs.Blocks.{found_fault, record_words}
use Rattle.capi.proofs.Answers.{gives}
use Rattle.capi.proofs.blocks.flasknib_record_at.Goals as goal

pub returns-in-Ok : goal.returns-in-Ok
returns-in-Ok c =
    let told = sym c.record_at.ensures.value ∙ c.in-Ok.is in
    rw told c.put_found.ensures

pub returns-in-Err : goal.returns-in-Err
returns-in-Err c =
    let a = c.args in
    let told = sym c.record_at.ensures.value ∙ c.in-Err.is in
    gives refusal_code (wrote_refused (record_words (found_at a.block.now a.i)) a.found.now (ap found_fault told)) c.number.ensures
