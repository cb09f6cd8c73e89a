use borrow.Author.Rules.{rules}
use mathlib.Core.Path.{◌≡◌, sym, ap, ◌∙◌}
use Prim.Native.Nat.{◌-◌}
use native.Mathlib.Omega.{arith}
use lib.ListN.{length, get_or, set}
use Rattle.sources.specs.declared.runs.Tally.{Tally}
use Rattle.sources.specs.Tallies.{no_tally, raised, shifted, tallied}
use Rattle.sources.proofs.Turns.{length-mapped}
use Rattle.sources.proofs.Tallying.{set_beyond}
use Rattle.sources.proofs.stepping.tallied.Goals as goal

pub returns-then-stand : goal.returns-then-stand
unfolding tallied
returns-then-stand c =
    let a = c.args in
    rw c.if-stand.true
    (c.shifted.ensures ∙ ap (λ (t : Tally). shifted a.stand.at (16 - a.stand.at) t a.tallies)
    (c.raised-first.ensures ∙ ap (λ (t : Tally). raised t a.jumps a.restarts) c.fresh.ensures))

pub returns-then-at-lt16 : goal.returns-then-at-lt16
unfolding tallied
returns-then-at-lt16 c =
    let a = c.args in
    rw c.if-stand.false (ap (set a.tallies a.stand.at) c.raised-t.ensures)

pub returns-else-at-lt16 : goal.returns-else-at-lt16
unfolding tallied
returns-else-at-lt16 c =
    let a = c.args in
    let long : length a.tallies ≡ 16 = search (rules, length-mapped) in
    let h = c.if-at-lt16.false in
    rw c.if-stand.false (sym (set_beyond a.tallies a.stand.at (raised (get_or a.tallies a.stand.at no_tally) a.jumps a.restarts) (omega arith)))
