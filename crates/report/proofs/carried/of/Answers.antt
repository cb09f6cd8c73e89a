use borrow.Author.Rules.{rules}
use mathlib.Core.Path.{sym, ap, ap₂, ◌∙◌}
use Prim.Native.Nat.{ℕ, ◌^◌}
use Rattle.std.specs.Prelude.{Ok, Result}
use Rattle.std.proofs.lemmas.Result.{err_from_is_err_and}
use Rattle.answers.specs.declared.Refusal.{Refusal}
use Rattle.numbers.specs.Integers.{modulo}
use Rattle.numbers.proofs.Signed.{seen_is}
use Rattle.format.specs.declared.Counts.{Counts}
use Rattle.source.proofs.Losses.{lost_packets}
use Rattle.report.specs.declared.carried.Carried.{Carried}
use Rattle.report.specs.Carried.{carried_of}
use Rattle.report.proofs.Faults.{carried_refused}
use Rattle.report.proofs.carried.of.Goals as goal

pub counts-requires : goal.counts-requires
counts-requires c = seen_is c.in_ok-lost.lost (search rules) ∙ (lost_packets c.args.s (sym c.lost.ensures.value ∙ c.in_ok-lost.was)).is

pub returns-in_err-lost : goal.returns-in_err-lost
returns-in_err-lost c =
    let p = err_from_is_err_and c.from_residual.result c.from_residual.ensures.1 in
    rw (p.1, p.2) (carried_refused c.args.s (sym c.lost.ensures.value ∙ c.in_err-lost.was))

pub returns : goal.returns
unfolding carried_of
returns c =
    let s = c.args.s in
    let n = lost_packets s (sym c.lost.ensures.value ∙ c.in_ok-lost.was) in
    let highest = c.low32.ensures ∙ ap (modulo (2 ^ 32)) (seen_is s.highest.0 (search rules)) in
    let carried : (h : ℕ) → Counts → Result Carried Refusal = λ h k. Ok (record { highest = h; counts = k }) in
    rw n.good (ap₂ carried highest c.counts.ensures)
