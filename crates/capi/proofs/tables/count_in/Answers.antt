use borrow.Author.Rules.{rules}
use mathlib.Core.Path.{sym, ◌∙◌}
use Rattle.numbers.proofs.Signed.{seen_is}
use Rattle.capi.proofs.TableCalls.{counts_refused, few_counted, counts_taken}
use Rattle.capi.proofs.tables.count_in.Goals as goal

pub put_counted-requires : goal.put_counted-requires
put_counted-requires c =
    let a = c.args in
    let told = sym c.load.ensures ∙ c.in-Ok.is in
    few_counted a.words.now a.ssrc a.width a.records.now told c.count_block.ensures

pub returns-in-Err : goal.returns-in-Err
returns-in-Err c =
    let a = c.args in
    let told = sym c.load.ensures ∙ c.in-Err.is in
    let w = counts_refused a.words.now a.ssrc a.width a.records.now told in
    record { answers = seen_is c.minus.result (search rules) ∙ c.minus.ensures ∙ w.answers; stores = w.stores }

pub returns-in-Ok : goal.returns-in-Ok
returns-in-Ok c =
    let a = c.args in
    let told = sym c.load.ensures ∙ c.in-Ok.is in
    let w = counts_taken a.words.now a.ssrc a.width a.records.now told c.count_block.ensures c.put_counted.ensures in
    record { answers = seen_is c.put_counted.result (search rules) ∙ w.answers; stores = w.stores }
