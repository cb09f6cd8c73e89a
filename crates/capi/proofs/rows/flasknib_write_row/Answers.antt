use borrow.Author.Rules.{rules}
use mathlib.Core.Path.{sym, ◌∙◌}
use native.Mathlib.Omega.{arith}
use Rattle.source.specs.declared.Source.{Source}
use Rattle.table.specs.Lines.{row_fault, row_bytes}
use Rattle.table.specs.Theorems.{row_most}
use Rattle.answers.proofs.Stores.{wrote_size}
use Rattle.table.proofs.RowFits.{row_fits}
use Rattle.capi.proofs.Answers.{coded}
use Rattle.capi.proofs.Records.{held_wrote, other_wrote}
use Rattle.capi.proofs.rows.flasknib_write_row.Goals as goal

pub returns-in_default : goal.returns-in_default
returns-in_default c =
    let a = c.args in
    coded (search rules) c.minus.ensures
    (other_wrote a.words.now (λ (s : Source). row_fault a.label.now (record { source = s; jumped = a.jumped; restarts = a.restarts }))
    (λ (s : Source). row_bytes a.label.now a.ssrc (record { source = s; jumped = a.jumped; restarts = a.restarts })) a.out.now
    (sym c.load.ensures ∙ c.in_default.is))

pub length-requires : goal.length-requires
length-requires c = omega (arith, wrote_size row_most (λ e. row_fits _ _ _ (search rules) e) c.write_row.ensures)

pub returns : goal.returns
returns c =
    let a = c.args in
    let e = sym c.load.ensures ∙ c.in-Some.is in
    coded (search rules) c.length.ensures
    (held_wrote a.words.now (λ (s : Source). row_fault a.label.now (record { source = s; jumped = a.jumped; restarts = a.restarts }))
    (λ (s : Source). row_bytes a.label.now a.ssrc (record { source = s; jumped = a.jumped; restarts = a.restarts })) a.out.now e c.write_row.ensures)
