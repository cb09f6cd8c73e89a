use borrow.Author.Rules.{rules}
use mathlib.Core.Path.{◌≡◌, refl, sym, ◌∙◌}
use lib.ListN.{length}
use Rattle.answers.proofs.Conditions.{cond_ends}
use Rattle.breaker.proofs.Places.{length-mapped}
use Rattle.capi.proofs.Steps.{back_stored}
use Rattle.capi.proofs.circuit.put_back.Goals.{Start}
use Rattle.capi.proofs.circuit.put_back.Goals as goal

long : (c : Start) → length c.args.step.breaker.window.intervals ≡ 32
long c = search (rules, length-mapped)

pub returns-then-is_refused : goal.returns-then-is_refused
returns-then-is_refused c =
    let refused = sym c.is_refused.ensures ∙ c.if-is_refused.true in
    record { answers = c.code.ensures; stores = cond_ends _ _ _ _ refused refl }

pub returns : goal.returns
returns c =
    let kept = sym c.is_refused.ensures ∙ c.if-is_refused.false in
    record { answers = c.code-2.ensures; stores = back_stored c.args.step c.args.words.now kept c.requires (long (goal.at.returns c).Start) c.store.ensures }
