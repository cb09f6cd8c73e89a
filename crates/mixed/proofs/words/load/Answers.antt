use mathlib.Core.Path.{sym, ap, ◌∙◌}
use borrow.Author.Tests.{lt-leb}
use lib.ListN.{get_or}
use Rattle.answers.proofs.Conditions.{was_true, was_false, all_false}
use Rattle.source.specs.Record.{sound}
use Rattle.source.specs.Totals.{most_told}
use Rattle.lent.proofs.SourceLaws.{held}
use Rattle.mixed.specs.Lines.{record_in, line_conditions}
use Rattle.mixed.proofs.Taking.{no_record, totals_none, totals_some}
use Rattle.mixed.proofs.words.load.Goals as goal

pub returns-then-jumped-gt-MOST : goal.returns-then-jumped-gt-MOST
returns-then-jumped-gt-MOST c =
    let line = c.args.line.now in
    totals_none line (all_false (line_conditions line) 2 (lt-leb (get_or line 11 0) most_told c.if-jumped-gt-MOST.true))

pub returns-then-restarts-gt-MOST : goal.returns-then-restarts-gt-MOST
returns-then-restarts-gt-MOST c =
    let line = c.args.line.now in
    totals_none line (all_false (line_conditions line) 3 (lt-leb (get_or line 12 0) most_told c.if-restarts-gt-MOST.true))

pub returns-in_err-source : goal.returns-in_err-source
returns-in_err-source c =
    let line = c.args.line.now in
    rw c.from_residual.ensures (totals_none line (all_false (line_conditions line) 0 (no_record (record_in line) (sym c.load.ensures ∙ c.in_err-source.was))))

pub returns-then-not-is_sound : goal.returns-then-not-is_sound
returns-then-not-is_sound c =
    let line = c.args.line.now in
    let is = held (record_in line) (sym c.load.ensures ∙ c.in_ok-source.was) in
    totals_none line (all_false (line_conditions line) 1 (ap sound (sym is.2) ∙ was_false c.is_sound.ensures c.if-not-is_sound.true))

pub returns : goal.returns
returns c =
    let line = c.args.line.now in
    totals_some line c.in_ok-source.source (sym c.load.ensures ∙ c.in_ok-source.was)
    (was_true c.is_sound.ensures c.if-not-is_sound.false) c.if-jumped-gt-MOST.false c.if-restarts-gt-MOST.false
