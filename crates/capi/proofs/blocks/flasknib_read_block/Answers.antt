use Rattle.std.specs.Prelude.{Ok}
use mathlib.Core.Path.{sym, ap, ◌∙◌}
use Rattle.answers.proofs.Stores.{wrote_refused}
use Rattle.trace.specs.Reading.{block_of}
use Rattle.capi.specs.Codes.{refusal_code}
use Rattle.capi.specs.Blocks.{block_fault, found_words}
use Rattle.capi.proofs.Answers.{gives}
use Rattle.capi.proofs.blocks.flasknib_read_block.Goals as goal

pub returns-in-Ok-Label : goal.returns-in-Ok-Label
returns-in-Ok-Label c =
    let told = sym c.read_block.ensures.value ∙ c.in-Ok-Label.is ∙ ap Ok c.in-Ok-Label.field-0-is in
    rw (told, ← c.label.ensures) c.put_found.ensures

pub returns-in-Ok-Arrivals : goal.returns-in-Ok-Arrivals
returns-in-Ok-Arrivals c =
    let told = sym c.read_block.ensures.value ∙ c.in-Ok-Arrivals.is ∙ ap Ok c.in-Ok-Arrivals.field-0-is in
    rw (told, ← c.arrivals.ensures) c.put_found-in-Ok-Arrivals.ensures

pub returns-in-Err : goal.returns-in-Err
returns-in-Err c =
    let a = c.args in
    let told = sym c.read_block.ensures.value ∙ c.in-Err.is in
    gives refusal_code (wrote_refused (found_words (block_of a.block.now)) a.found.now (ap block_fault told)) c.number.ensures
