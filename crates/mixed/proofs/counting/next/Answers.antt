use Rattle.std.specs.Prelude.{◌≡◌, true, Ok}
use Rattle.std.proofs.lemmas.Result.{err_from_is_err_and}
use mathlib.Core.Path.{sym, ap, ◌∙◌}
use Rattle.answers.proofs.Conditions.{was_true, was_false}
use Rattle.trace.specs.Reading.{block_of}
use Rattle.trace.specs.declared.Block.{Block}
use Rattle.mixed.specs.Runs.{sound_run}
use Rattle.mixed.proofs.Calls.{call_malformed, call_refused, call_label, call_foreign, call_goes, of_trace, takes_refuses}
use Rattle.mixed.proofs.counting.next.Goals.{Else-not-is_sound, In_ok-read}
use Rattle.mixed.proofs.counting.next.Goals as goal

is_sound : (c : Else-not-is_sound) → sound_run c.args.run c.args.lines.now ≡ true
is_sound c = was_true c.is_sound.ensures c.if-not-is_sound.false

-- what the block reads as
reads : (c : In_ok-read) {b : Block} → c.in_ok-read.read ≡ b → block_of c.args.block.now ≡ Ok b
reads c is = sym c.read_block.ensures.value ∙ c.in_ok-read.was ∙ ap Ok is

pub returns-then-not-is_sound : goal.returns-then-not-is_sound
returns-then-not-is_sound c =
    let a = c.args in
    takes_refuses a.run a.lines.now (call_malformed a.run a.lines.now a.block.now (was_false c.is_sound.ensures c.if-not-is_sound.true))

pub returns-in_err-read : goal.returns-in_err-read
returns-in_err-read c =
    let a = c.args in
    let p = err_from_is_err_and c.from_residual.result c.from_residual.ensures.1 in
    rw (p.1, p.2)
    (takes_refuses a.run a.lines.now
    (call_refused a.run a.lines.now a.block.now (is_sound (goal.at.returns-in_err-read c).Else-not-is_sound) (sym c.read_block.ensures.value ∙ c.in_err-read.was)))

pub returns-in-Label : goal.returns-in-Label
returns-in-Label c =
    let a = c.args in
    let at = goal.at.returns-in-Label c in
    takes_refuses a.run a.lines.now (call_label a.run a.lines.now a.block.now (is_sound at.Else-not-is_sound) (reads at.In_ok-read c.in-Label.is))

pub returns-then-not-is_of_trace : goal.returns-then-not-is_of_trace
returns-then-not-is_of_trace c =
    let a = c.args in
    let at = goal.at.returns-then-not-is_of_trace c in
    takes_refuses a.run a.lines.now
    (call_foreign a.run a.lines.now a.block.now (is_sound at.Else-not-is_sound) (reads at.In_ok-read c.in-Arrivals.is) (was_false c.is_of_trace.ensures c.if-not-is_of_trace.true))

pub arrivals-requires : goal.arrivals-requires
arrivals-requires c =
    let at = goal.at.arrivals-requires c in (
      is_sound at.Else-not-is_sound,
      reads at.In_ok-read c.in-Arrivals.is ∙ of_trace c.args.run _ _ _ (was_true c.is_of_trace.ensures c.if-not-is_of_trace.false),
    )

pub returns-else-not-is_of_trace : goal.returns-else-not-is_of_trace
returns-else-not-is_of_trace c =
    let a = c.args in
    let at = goal.at.returns-else-not-is_of_trace c in
    rw (call_goes a.run a.lines.now a.block.now (is_sound at.Else-not-is_sound) (reads at.In_ok-read c.in-Arrivals.is) (was_true c.is_of_trace.ensures c.if-not-is_of_trace.false))
    c.arrivals.ensures
