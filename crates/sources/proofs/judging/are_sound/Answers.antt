use borrow.Author.Rules.{rules}
use mathlib.Core.Path.{refl, sym, ap, ◌∙◌}
use mathlib.Core.Bool.{Bool, ◌&&◌}
use Prim.Native.Nat.{◌+◌}
use native.Mathlib.Omega.{arith}
use lib.ListN.{drop}
use Rattle.answers.proofs.Conditions.{was_true, was_false}
use Rattle.sources.proofs.Turns.{length-mapped}
use Rattle.sources.proofs.Tallying.{all_tallied, tallies_turn, tallies_done}
use Rattle.sources.proofs.judging.are_sound.Goals as goal

pub loop-i-init : goal.loop-i-init
loop-i-init c = (search (rules, length-mapped), refl)

pub returns-then-not-is_sound : goal.returns-then-not-is_sound
returns-then-not-is_sound c =
    let ts = c.args.tallies in
    let l = c.loop-i in
    let h = c.loop-i-test.true in
    sym (sym l.invariant.1 ∙ tallies_turn ts l.i (omega (arith, l.invariant.0, h))
    ∙ ap (λ (b : Bool). b && all_tallied (drop (l.i + 1) ts)) (was_false c.is_sound.ensures c.if-not-is_sound.true))

pub loop-i-preserved : goal.loop-i-preserved
loop-i-preserved c =
    let ts = c.args.tallies in
    let l = c.loop-i in
    let h = c.loop-i-test.true in (
      l.invariant.0,
      sym (tallies_turn ts l.i (omega (arith, l.invariant.0, h))
          ∙ ap (λ (b : Bool). b && all_tallied (drop (l.i + 1) ts)) (was_true c.is_sound.ensures c.if-not-is_sound.false)) ∙ l.invariant.1,
    )

pub returns : goal.returns
returns c =
    let l = c.loop-i in
    let h = c.loop-i-test.false in
    sym (sym l.invariant.1 ∙ tallies_done c.args.tallies l.i (omega (arith, l.invariant.0, h)))
