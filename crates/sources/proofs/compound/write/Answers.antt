use mathlib.Core.Path.{sym, ap, ◌∙◌}
use Rattle.answers.proofs.Stores.{wrote_refused}
use Rattle.sources.specs.Compounds.{compound_bytes}
use Rattle.sources.specs.Tables.{lent}
use Rattle.sources.specs.Seeing.{checked_seen}
use Rattle.sources.proofs.Checking.{told_refused, told_held}
use Rattle.sources.proofs.Calling.{checked_seen_lem}
use Rattle.sources.proofs.compound.write.Goals as goal

pub write_held-requires : goal.write_held-requires
write_held-requires c =
    let t = c.args.t in
    told_held t (sym c.in-Ok.is ∙ c.judged.ensures ∙ ap checked_seen c.find.ensures ∙ checked_seen_lem 0 t)

pub returns-in-Err : goal.returns-in-Err
returns-in-Err c =
    let a = c.args in
    wrote_refused (compound_bytes a.sender (lent a.t)) a.out.now
    (told_refused a.t (sym c.in-Err.is ∙ c.judged.ensures ∙ ap checked_seen c.find.ensures ∙ checked_seen_lem 0 a.t))
