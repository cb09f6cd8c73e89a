use mathlib.Core.Path.{sym}
use lib.Seq.{set_out}
use Rattle.lent.proofs.access.put.Goals as goal

pub returns-else-at-words : goal.returns-else-at-words
returns-else-at-words c =
    let a = c.args in
    sym (set_out a.words.now a.at a.x c.if-at-words.false)
