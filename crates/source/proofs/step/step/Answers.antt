use mathlib.Core.Path.{sym, ap, ◌∙◌}
use native.Mathlib.Omega.{arith}
use Rattle.source.specs.declared.Arrival.TheVariants.{Accepted}
use Rattle.source.proofs.Answers.{arrival_full, arrival_first, arrival_later}
use Rattle.source.proofs.Facts.{sound_most, some_has_counted}
use Rattle.source.proofs.step.step.Goals as goal

pub overflow_add-n : goal.overflow_add-n
overflow_add-n g c = omega (arith, sound_most c.args.s c.requires.0)

pub overflow_add-n-2 : goal.overflow_add-n-2
overflow_add-n-2 g c = omega (arith, sound_most c.args.s c.requires.0)

pub overflow_add-n-3 : goal.overflow_add-n-3
overflow_add-n-3 g c = omega (arith, sound_most c.args.s c.requires.0)

pub returns-then-n-ge-MOST : goal.returns-then-n-ge-MOST
returns-then-n-ge-MOST g c =
    sym (arrival_full c.args.s c.args.wire c.args.mark c.requires.0 c.requires.1 c.if-n-ge-MOST.true)

pub returns-then-n-eq0 : goal.returns-then-n-eq0
returns-then-n-eq0 g c =
    ap Accepted c.first.ensures ∙ sym (arrival_first c.args.s c.args.wire c.args.mark c.requires.0 c.requires.1 c.if-n-eq0.true)

pub later-requires : goal.later-requires
later-requires g c =
    (some_has_counted c.args.s c.requires.0 (omega arith), omega arith)

pub returns : goal.returns
returns g c =
    c.later.ensures ∙ sym (arrival_later c.args.s c.args.wire c.args.mark c.requires.0 c.requires.1 (omega arith) (omega arith))
