use mathlib.Core.Path.{◌≡◌, ◌∙◌, ap}
use borrow.Author.Tests.{le-leb, lt-leb, eq-eqb, ne_eqb}
use mathlib.Core.Bool.{not, cond}
use Prim.Native.Nat.{ℕ}
use lib.Dec.{leb, eqb}
use Rattle.answers.proofs.Conditions.{cond_ends, cond_goes}
use Rattle.breaker.specs.declared.Reason.TheVariants.{Timeout, Media}
use Rattle.breaker.specs.declared.Answer.TheVariants.{Go}
use Rattle.breaker.specs.declared.Window.{Window}
use Rattle.breaker.specs.declared.Breaker.{Breaker}
use Rattle.breaker.specs.declared.Report.{Report}
use Rattle.breaker.specs.Answers.{answers, goes, stops}
use Rattle.breaker.specs.Windows.{empty_window}
use Rattle.breaker.specs.Rules.{stored, late, window_after, ruled_by, ruled}
use Rattle.breaker.specs.Private.{tested}
use Rattle.breaker.specs.declared.Step.{Step}
use Rattle.breaker.proofs.rules.ruled.Goals.{After-run_after-run}
use Rattle.breaker.proofs.rules.ruled.Goals as goal

-- the rules with the media run and the window as the program has them
unfoldable by_rules : Breaker → Report → ℕ → Window → Step
by_rules b r run w =
    cond (eqb r.rate 0) (goes (stored b r 0 b.trial empty_window))
    (cond (late b r.time) (stops Timeout b)
    (cond (leb b.settings.m run) (stops Media b)
    (cond (not b.reported) (goes (stored b r run b.trial b.window))
    (tested b r run w))))

-- past rate 0 the answer may be shown with the media run as the program has it
shown : (c : After-run_after-run) {z : Step}
    → z ≡ by_rules c.args.b c.args.r c.run_after-run.result (window_after c.args.b c.args.r)
    → z ≡ ruled c.args.b c.args.r
unfolding ruled_by ruled tested by_rules
shown c e =
    let b = c.args.b in
    let r = c.args.r in
    e ∙ ap (λ (n : ℕ). by_rules b r n (window_after b r)) c.run_after-run.ensures

pub returns-then-r-eq0 : goal.returns-then-r-eq0
unfolding ruled_by ruled
returns-then-r-eq0 c =
    let b = c.args.b in
    let r = c.args.r in
    cond_ends _ _ _ _ (eq-eqb _ _ c.if-r-eq0.true) (c.answered.ensures ∙ ap (answers Go) (c.stored.ensures ∙ ap (stored b r 0 b.trial) c.empty.ensures))

pub returns-then-b-r : goal.returns-then-b-r
unfolding ruled_by ruled
returns-then-b-r c =
    cond_goes _ _ _ _ (ne_eqb _ _ c.if-r-eq0.false)
    (cond_ends _ _ _ _ (le-leb _ _ c.if-b-r.true) c.stopped.ensures)

pub returns-then-b-run : goal.returns-then-b-run
unfolding by_rules
returns-then-b-run c =
    shown (goal.at.returns-then-b-run c).After-run_after-run
    (cond_goes _ _ _ _ (ne_eqb _ _ c.if-r-eq0.false)
    (cond_goes _ _ _ _ (lt-leb _ _ c.if-b-r.false)
    (cond_ends _ _ _ _ (le-leb _ _ c.if-b-run.true) c.stopped-then-b-run.ensures)))

pub returns-then-not-b : goal.returns-then-not-b
unfolding by_rules
returns-then-not-b c =
    shown (goal.at.returns-then-not-b c).After-run_after-run
    (cond_goes _ _ _ _ (ne_eqb _ _ c.if-r-eq0.false)
    (cond_goes _ _ _ _ (lt-leb _ _ c.if-b-r.false)
    (cond_goes _ _ _ _ (lt-leb _ _ c.if-b-run.false)
    (cond_ends _ _ _ _ c.if-not-b.true (c.answered-then-not-b.ensures ∙ ap (answers Go) c.stored-then-not-b.ensures)))))

pub tested-requires : goal.tested-requires
tested-requires c = c.requires

pub returns : goal.returns
unfolding by_rules
returns c =
    shown (goal.at.returns c).After-run_after-run
    (cond_goes _ _ _ _ (ne_eqb _ _ c.if-r-eq0.false)
    (cond_goes _ _ _ _ (lt-leb _ _ c.if-b-r.false)
    (cond_goes _ _ _ _ (lt-leb _ _ c.if-b-run.false)
    (cond_goes _ _ _ _ c.if-not-b.false
    c.tested.ensures))))
