use mathlib.Core.Path.{sym, ◌∙◌}
use native.Mathlib.Omega.{arith}
use Rattle.sources.proofs.Held.{has_ssrc, held_not_empty, sound_unheld}
use Rattle.sources.proofs.finding.is_empty.Goals as goal

pub returns-then-p-gt0 : goal.returns-then-p-gt0
returns-then-p-gt0 c = let p = c.args.p in has_ssrc p c.if-p-gt0.true

pub returns-then-is_held : goal.returns-then-is_held
returns-then-is_held c = held_not_empty c.args.p (sym c.is_held.ensures ∙ c.if-is_held.true)

pub returns : goal.returns
returns c =
    let p = c.args.p in
    c.is_sound.ensures ∙ sound_unheld p (omega arith) (sym c.is_held.ensures ∙ c.if-is_held.false)
