use Rattle.std.specs.Prelude.{Option}
use Rattle.answers.specs.declared.Refusal.{Refusal}
use mathlib.Core.Path.{sym, ap}
use Rattle.convert.specs.Feeds.{answer_by}
use Rattle.convert.proofs.feed_blocks.answer_of.Goals as goal

pub returns-in-None : goal.returns-in-None
returns-in-None c = let a = c.args in sym (ap (λ (e : Option Refusal). answer_by a.block a.length e) c.in-None.is)

pub returns-in-Some : goal.returns-in-Some
returns-in-Some c = let a = c.args in sym (ap (λ (e : Option Refusal). answer_by a.block a.length e) c.in-Some.is)
