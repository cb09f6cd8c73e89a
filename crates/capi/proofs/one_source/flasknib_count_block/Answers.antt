use borrow.Author.Rules.{rules}
use mathlib.Core.Path.{sym, ◌∙◌}
use native.Mathlib.Omega.{arith}
use Prim.Native.Nat.{◌+◌, ◌*◌}
use mir.Syntax.{w64}
use mir.ValLaws.{to_z_pos}
use Rattle.source.proofs.Totalled.{few_jumps, few_restarts}
use Rattle.numbers.proofs.Signed.{seen_is}
use Rattle.capi.proofs.Records.{counts_other, counts_next, counts_refused}
use Rattle.capi.proofs.one_source.flasknib_count_block.Goals as goal

pub returns-in_default : goal.returns-in_default
returns-in_default c =
    let a = c.args in
    let w = counts_other a.words.now a.width a.records.now (sym c.load.ensures ∙ c.in_default.is) in
    record { answers = seen_is c.minus.result (search rules) ∙ c.minus.ensures ∙ w.answers; stores = w.stores }

pub overflow_mul-result : goal.overflow_mul-result
overflow_mul-result c =
    let a = c.args in
    let e = sym c.load.ensures ∙ c.in-Some.is in
    let f = sym c.count_block.ensures.value ∙ c.in-Counted.is in
    let jumps = few_jumps _ a.width a.records.now f in
    let restarts = few_restarts _ a.width a.records.now f in
    record { fits = omega (arith, restarts) }

pub overflow_add-result : goal.overflow_add-result
overflow_add-result c =
    let a = c.args in
    let e = sym c.load.ensures ∙ c.in-Some.is in
    let f = sym c.count_block.ensures.value ∙ c.in-Counted.is in
    let jumps = few_jumps _ a.width a.records.now f in
    let restarts = few_restarts _ a.width a.records.now f in
    record { fits = omega (arith, restarts, jumps) }

pub overflow_cast-result : goal.overflow_cast-result
overflow_cast-result c =
    let a = c.args in
    let e = sym c.load.ensures ∙ c.in-Some.is in
    let f = sym c.count_block.ensures.value ∙ c.in-Counted.is in
    let jumps = few_jumps _ a.width a.records.now f in
    let restarts = few_restarts _ a.width a.records.now f in
    record { sfits = omega (arith, restarts, jumps) }

pub returns-in-Counted : goal.returns-in-Counted
returns-in-Counted c =
    let a = c.args in
    let e = sym c.load.ensures ∙ c.in-Some.is in
    let f = sym c.count_block.ensures.value ∙ c.in-Counted.is in
    let jumps = few_jumps _ a.width a.records.now f in
    let restarts = few_restarts _ a.width a.records.now f in
    let w = counts_next a.words.now a.width a.records.now _ e f in
    record {
      answers = to_z_pos w64 (256 * c.in-Counted.restarts + c.in-Counted.jumps) (omega (arith, restarts, jumps)) ∙ w.answers;
      stores = c.store.ensures
          ∙ w.stores;
    }

pub returns-in-Refused : goal.returns-in-Refused
returns-in-Refused c =
    let a = c.args in
    let e = sym c.load.ensures ∙ c.in-Some.is in
    let f = sym c.count_block.ensures.value ∙ c.in-Refused.is in
    let w = counts_refused a.words.now a.width a.records.now _ e f in
    record { answers = seen_is c.minus-in-Refused.result (search rules) ∙ c.minus-in-Refused.ensures ∙ w.answers; stores = w.stores }
