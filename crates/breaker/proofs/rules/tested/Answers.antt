use borrow.Author.Rules.{rules}
use mathlib.Core.Path.{◌≡◌, sym, ◌∙◌, ap}
use native.Mathlib.Omega.{arith}
use mathlib.Core.Bool.{true, not}
use borrow.Author.Tests.{lt-ltb, le-ltb}
use mathlib.Core.List.{map}
use lib.ListN.{length}
use Rattle.answers.proofs.Conditions.{cond_ends, cond_goes, was_false, was_true}
use Rattle.answers.specs.Conditions.{all}
use Rattle.breaker.specs.declared.Answer.TheVariants.{Go, Reduce}
use Rattle.breaker.specs.declared.Window.{Window}
use Rattle.breaker.specs.declared.Step.{Step}
use Rattle.breaker.specs.Answers.{answers}
use Rattle.breaker.specs.Rules.{stored, window_after, last_intervals}
use Rattle.breaker.specs.Private.{interval_ok, tested}
use Rattle.breaker.proofs.Places.{length-mapped}
use Rattle.breaker.proofs.Facts.{settings_of_lem, after_intervals}
use Rattle.breaker.proofs.rules.tested.Goals.{After-window_after-window, Start}
use Rattle.breaker.proofs.rules.tested.Goals as goal

-- the array has 32 places
long : (c : Start) → length c.args.b.window.intervals ≡ 32
long c = search (rules, length-mapped)

-- the answer may be shown with the window as the program has it
shown : (c : After-window_after-window) {z : Step} → z ≡ tested c.args.b c.args.r c.args.run c.window_after-window.result
    → z ≡ tested c.args.b c.args.r c.args.run (window_after c.args.b c.args.r)
shown c e = e ∙ ap (tested c.args.b c.args.r c.args.run) c.window_after-window.ensures

pub window_after-window-requires : goal.window_after-window-requires
window_after-window-requires c = c.requires

pub returns-then-window-b : goal.returns-then-window-b
unfolding tested
returns-then-window-b c =
    shown (goal.at.returns-then-window-b c).After-window_after-window
    (cond_ends _ _ _ _ (lt-ltb _ _ c.if-window-b.true) (c.answered.ensures ∙ ap (answers Go) c.stored.ensures))

pub exceeds-requires : goal.exceeds-requires
unfolding window_after
exceeds-requires c =
    let b = c.args.b in
    let h = c.requires in
    let e = c.window_after-window.ensures in (
      settings_of_lem b h.is_sound,
      ap (λ (w : Window). all (map interval_ok (last_intervals b.settings w))) e
          ∙ after_intervals b c.args.r h (long (goal.at.exceeds-requires c).Start) (omega (arith, c.if-window-b.false, ap (λ (w : Window). w.used) e)),
      h.in_limits,
    )

pub returns-then-not-exceeds : goal.returns-then-not-exceeds
unfolding tested
returns-then-not-exceeds c =
    shown (goal.at.returns-then-not-exceeds c).After-window_after-window
    (cond_goes _ _ _ _ (le-ltb _ _ c.if-window-b.false)
    (cond_ends _ _ _ _ (ap not (was_false c.exceeds.ensures c.if-not-exceeds.true))
    (c.answered-then-not-exceeds.ensures ∙ ap (answers Go) c.stored-then-not-exceeds.ensures)))

pub returns-then-may_reduce : goal.returns-then-may_reduce
unfolding tested
returns-then-may_reduce c =
    let s = c.args in
    shown (goal.at.returns-then-may_reduce c).After-window_after-window
    (cond_goes _ _ _ _ (le-ltb _ _ c.if-window-b.false)
    (cond_goes _ _ _ _ (ap not (was_true c.exceeds.ensures c.if-not-exceeds.false))
    (cond_ends _ _ _ _ (sym c.may_reduce.ensures ∙ c.if-may_reduce.true)
    (c.answered-then-may_reduce.ensures ∙ ap (answers Reduce) (c.stored-then-may_reduce.ensures ∙ ap (stored s.b s.r s.run true) c.empty.ensures)))))

pub returns : goal.returns
unfolding tested
returns c =
    shown (goal.at.returns c).After-window_after-window
    (cond_goes _ _ _ _ (le-ltb _ _ c.if-window-b.false)
    (cond_goes _ _ _ _ (ap not (was_true c.exceeds.ensures c.if-not-exceeds.false))
    (cond_goes _ _ _ _ (sym c.may_reduce.ensures ∙ c.if-may_reduce.false) c.stopped.ensures)))
