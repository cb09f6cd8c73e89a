use Rattle.answers.proofs.Conditions.{was_true, was_false}
use Rattle.answers.proofs.Stores.{wrote_refused}
use Rattle.mixed.specs.Rows.{row_of}
use Rattle.mixed.proofs.Told.{row_malformed, row_foreign, row_behind}
use Rattle.mixed.proofs.Run.row.Goals as goal

pub returns-then-not-is_sound : goal.returns-then-not-is_sound
returns-then-not-is_sound c =
    let a = c.args in
    wrote_refused (row_of a.self a.i a.lines.now a.zeroth.now) a.out.now
    (row_malformed a.self a.i a.lines.now a.zeroth.now (was_false c.is_sound.ensures c.if-not-is_sound.true))

pub returns-then-not-is_own : goal.returns-then-not-is_own
returns-then-not-is_own c =
    let a = c.args in
    wrote_refused (row_of a.self a.i a.lines.now a.zeroth.now) a.out.now
    (row_foreign a.self a.i a.lines.now a.zeroth.now (was_true c.is_sound.ensures c.if-not-is_sound.false) (was_false c.is_own.ensures c.if-not-is_own.true))

pub returns-then-self-i : goal.returns-then-self-i
returns-then-self-i c =
    let a = c.args in
    let sound = was_true c.is_sound.ensures c.if-not-is_sound.false in
    let own = was_true c.is_own.ensures c.if-not-is_own.false in
    wrote_refused (row_of a.self a.i a.lines.now a.zeroth.now) a.out.now
    (row_behind a.self a.i a.lines.now a.zeroth.now sound own c.if-self-i.true)

pub write-requires : goal.write-requires
write-requires c = (
  was_true c.is_sound.ensures c.if-not-is_sound.false,
  was_true c.is_own.ensures c.if-not-is_own.false,
  c.if-self-i.false,
)
