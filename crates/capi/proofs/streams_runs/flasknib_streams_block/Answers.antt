use mathlib.Core.Path.{sym, ◌∙◌}
use Rattle.lent.proofs.StreamTaking.{three, none_sound, taken}
use Rattle.capi.proofs.StepLaws.{takes_as}
use Rattle.capi.proofs.StreamsSteps.{streams_refused, streams_stepped}
use Rattle.capi.proofs.streams_runs.flasknib_streams_block.Goals as goal

pub put_run-requires : goal.put_run-requires
put_run-requires c =
    let a = c.args in
    let told = sym c.load.ensures ∙ c.in-Ok.is in
    let words = a.run.now in
    let ws = a.lines.now in
    three words ws (none_sound words ws (taken words ws told).0).whole

pub returns-in-Err : goal.returns-in-Err
returns-in-Err c =
    let a = c.args in
    let told = sym c.load.ensures ∙ c.in-Err.is in
    let w = streams_refused a.run.now a.lines.now a.block.now told in
    record { takes = takes_as c.number.ensures w.takes; holds = takes_as c.number.ensures w.holds }

pub returns-in-Ok : goal.returns-in-Ok
returns-in-Ok c =
    let a = c.args in
    let told = sym c.load.ensures ∙ c.in-Ok.is in
    streams_stepped a.run.now a.lines.now a.block.now told c.block-step.ensures c.put_lines.ensures c.put_run.ensures
