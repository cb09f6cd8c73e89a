use mathlib.Core.Path.{refl}
use native.Mathlib.Omega.{arith}
use Rattle.answers.proofs.Stores.{wrote_short, wrote_all}
use Rattle.sources.specs.Rows.{lines_of, label_of, rows_of}
use Rattle.sources.proofs.rows.write_all.Goals as goal

pub rows_size-size-requires : goal.rows_size-size-requires
rows_size-size-requires c = c.requires

pub returns-then-out-size : goal.returns-then-out-size
returns-then-out-size c =
    let a = c.args in
    let s = c.rows_size-size.ensures in
    wrote_short (rows_of (label_of a.run a.zeroth.now) (lines_of a.run)) a.out.now refl (omega (arith, s, c.if-out-size.true)) s

pub put_rows-requires : goal.put_rows-requires
put_rows-requires c = (c.requires, omega (arith, c.rows_size-size.ensures, c.if-out-size.false))

pub returns : goal.returns
returns c =
    let a = c.args in
    let s = c.rows_size-size.ensures in
    wrote_all (rows_of (label_of a.run a.zeroth.now) (lines_of a.run)) a.out.now refl (omega (arith, s, c.if-out-size.false)) s c.put_rows.ensures
