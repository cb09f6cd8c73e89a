use mathlib.Core.Path.{◌∙◌}
use borrow.Author.Tests.{ne_eqb, lt-leb}
use Rattle.answers.proofs.Conditions.{all_false}
use Rattle.format.specs.Blocks.{body_bytes}
use Rattle.sources.specs.Rules.{most_places}
use Rattle.sources.specs.Runs.{own_fields}
use Rattle.sources.proofs.RunFaults.{fields_last}
use Rattle.sources.proofs.judging.has_fields.Goals as goal

pub returns-then-table-ne-MOST : goal.returns-then-table-ne-MOST
returns-then-table-ne-MOST c = let run = c.args.run in all_false (own_fields run) 0 (ne_eqb run.table.count most_places c.if-table-ne-MOST.true)

pub returns-then-run-gt-BODY_BYTES : goal.returns-then-run-gt-BODY_BYTES
returns-then-run-gt-BODY_BYTES c = let run = c.args.run in all_false (own_fields run) 1 (lt-leb run.length body_bytes c.if-run-gt-BODY_BYTES.true)

pub returns : goal.returns
returns c = c.are_sound.ensures ∙ fields_last c.args.run c.if-table-ne-MOST.false c.if-run-gt-BODY_BYTES.false
