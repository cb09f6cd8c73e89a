use mathlib.Core.Path.{refl}
use native.Mathlib.Omega.{arith}
use Rattle.answers.specs.Meanings.{meaning_of}
use Rattle.answers.specs.Parts.{parts_fit, parts_of}
use Rattle.answers.proofs.Meant.{none_below, none_above, some_between}
use Rattle.answers.proofs.Parted.{part_at}
use Rattle.answers.proofs.Stores.{wrote_refused}
use Rattle.answers.proofs.meanings.write_meaning.Goals as goal

pub returns-in_default : goal.returns-in_default
returns-in_default c =
    let a = c.args in
    wrote_refused (meaning_of a.number) a.out.now (none_below a.number (omega arith))

pub returns-in_default-2 : goal.returns-in_default-2
returns-in_default-2 c =
    let a = c.args in
    wrote_refused (meaning_of a.number) a.out.now (none_above a.number (omega arith) (omega arith))

pub write_part-requires : goal.write_part-requires
unfolding parts_fit
write_part-requires c = (omega arith, refl)

pub returns : goal.returns
unfolding parts_of meaning_of
returns c = rw (some_between c.args.number (omega arith) (omega arith)) (rw (← part_at) at c.write_part.ensures)
