use Rattle.std.specs.Prelude.{Ok}
use borrow.Author.Rules.{rules}
use mathlib.Core.Path.{sym, ap, ◌∙◌}
use Rattle.answers.proofs.Conditions.{was_false, was_true}
use Rattle.source.specs.Numbered.{lost_as}
use Rattle.source.proofs.Facts.{sound_has_counted}
use Rattle.numbers.proofs.Signed.{seen_is}
use Rattle.source.specs.Record.{lost, lost_answer}
use mathlib.Core.Path.{ap}
use Rattle.source.proofs.Source.lost.Goals as goal

pub returns-then-not-is_sound-clause-value : goal.returns-then-not-is_sound-clause-value
unfolding lost_answer
returns-then-not-is_sound-clause-value c = rw (was_false c.is_sound.ensures c.if-not-is_sound.true)

pub returns-then-not-is_sound-clause-numbered : goal.returns-then-not-is_sound-clause-numbered
returns-then-not-is_sound-clause-numbered c = ap lost_as (returns-then-not-is_sound-clause-value c)

pub returns-then-is_fresh-clause-value : goal.returns-then-is_fresh-clause-value
unfolding lost_answer lost
returns-then-is_fresh-clause-value c =
    rw (was_true c.is_sound.ensures c.if-not-is_sound.false, sym c.is_fresh.ensures ∙ c.if-is_fresh.true)

pub returns-then-is_fresh-clause-numbered : goal.returns-then-is_fresh-clause-numbered
returns-then-is_fresh-clause-numbered c = ap lost_as (returns-then-is_fresh-clause-value c)

pub packets-requires : goal.packets-requires
packets-requires c =
    let s = c.args.self in
    let f = sym c.is_fresh.ensures ∙ c.if-is_fresh.false in
    (f, sound_has_counted s (was_true c.is_sound.ensures c.if-not-is_sound.false) f)

pub returns-clause-value : goal.returns-clause-value
unfolding lost_answer
returns-clause-value c =
    rw (was_true c.is_sound.ensures c.if-not-is_sound.false) (ap Ok (seen_is c.packets.result (search rules) ∙ c.packets.ensures))

pub returns-clause-numbered : goal.returns-clause-numbered
returns-clause-numbered c = ap lost_as (returns-clause-value c)
