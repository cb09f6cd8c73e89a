use Rattle.std.proofs.lemmas.Result.{err_from_is_err_and}
use mathlib.Core.Path.{sym, ◌∙◌}
use native.Mathlib.Omega.{arith}
use Rattle.answers.proofs.Conditions.{was_false, was_true}
use Rattle.lent.proofs.Taking.{outside, whole, few, fitting, large_held, large_refused}
use Rattle.lent.proofs.table_words.load.Goals as goal

pub returns-then-not-are_places : goal.returns-then-not-are_places
returns-then-not-are_places c =
    outside c.args.words.now (was_false c.are_places.ensures c.if-not-are_places.true)

pub table_in-table-requires : goal.table_in-table-requires
table_in-table-requires c =
    let words = c.args.words.now in
    let e = was_true c.are_places.ensures c.if-not-are_places.false in
    (few words e, omega (arith, whole words e))

pub each_below-requires : goal.each_below-requires
each_below-requires c =
    let words = c.args.words.now in
    (few words (was_true c.are_places.ensures c.if-not-are_places.false), omega arith)

pub returns-then-each_below : goal.returns-then-each_below
returns-then-each_below c =
    let words = c.args.words.now in
    let e = was_true c.are_places.ensures c.if-not-are_places.false in
    fitting words e (sym c.each_below.ensures ∙ c.if-each_below.true) c.table_in-table.ensures

pub returns : goal.returns
returns c =
    let words = c.args.words.now in
    let e = was_true c.are_places.ensures c.if-not-are_places.false in
    let w = sym c.each_below.ensures ∙ c.if-each_below.false in
    large_held words e w c.table_in-table.ensures (sym c.in_ok-check.was ∙ c.check.ensures)

pub returns-in_err-check : goal.returns-in_err-check
returns-in_err-check c =
    let words = c.args.words.now in
    let e = was_true c.are_places.ensures c.if-not-are_places.false in
    let w = sym c.each_below.ensures ∙ c.if-each_below.false in
    let p = err_from_is_err_and c.from_residual.result c.from_residual.ensures.1 in
    rw (p.1, p.2) (large_refused words e w c.table_in-table.ensures (sym c.in_err-check.was ∙ c.check.ensures))
