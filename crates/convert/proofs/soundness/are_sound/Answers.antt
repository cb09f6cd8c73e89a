use mathlib.Core.Path.{sym, ◌∙◌}
use borrow.Author.Tests.{lt-leb}
use Rattle.answers.proofs.Conditions.{all_false}
use Rattle.source.specs.Totals.{most_told}
use Rattle.source.proofs.Losses.{lost_refused, lost_packets}
use Rattle.convert.specs.Runs.{sound_totals}
use Rattle.convert.proofs.Kept.{totals_last}
use Rattle.convert.proofs.soundness.are_sound.Goals as goal

pub returns-in_default : goal.returns-in_default
returns-in_default c = let t = c.args.t in all_false (sound_totals t) 0 (lost_refused t.source (sym c.lost.ensures.value ∙ c.in_default.is))

pub returns-then-t-gt-MOST : goal.returns-then-t-gt-MOST
returns-then-t-gt-MOST c = let t = c.args.t in all_false (sound_totals t) 1 (lt-leb t.jumped most_told c.if-t-gt-MOST.true)

pub returns : goal.returns
returns c =
    let t = c.args.t in
    totals_last t (lost_packets t.source (sym c.lost.ensures.value ∙ c.in-Ok.is)).good c.if-t-gt-MOST.false
