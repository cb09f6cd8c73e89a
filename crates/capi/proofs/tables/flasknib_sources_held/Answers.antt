use borrow.Author.Rules.{rules}
use mathlib.Core.Path.{sym, ◌∙◌}
use Rattle.numbers.proofs.Signed.{seen_is}
use Rattle.capi.proofs.TableCalls.{held_refused, held_taken}
use Rattle.capi.proofs.tables.flasknib_sources_held.Goals as goal

pub returns-in-Err : goal.returns-in-Err
returns-in-Err c =
    let words = c.args.words.now in
    let told = sym c.load.ensures ∙ c.in-Err.is in
    seen_is c.minus.result (search rules) ∙ c.minus.ensures ∙ held_refused words told

pub returns-in-Ok : goal.returns-in-Ok
returns-in-Ok c =
    let words = c.args.words.now in
    let told = sym c.load.ensures ∙ c.in-Ok.is in
    seen_is c.held_in.result (search rules) ∙ held_taken words told c.held_in.ensures
