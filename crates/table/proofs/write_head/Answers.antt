use mathlib.Core.Path.{refl}
use Rattle.answers.proofs.Stores.{wrote_short, wrote_all}
use Rattle.table.specs.Field.{line}
use Rattle.table.specs.Lines.{head_bytes}
use Rattle.table.proofs.write_head.Goals as goal

pub returns-then-out-lt65 : goal.returns-then-out-lt65
unfolding head_bytes line
returns-then-out-lt65 c =
    let a = c.args in
    wrote_short head_bytes a.out.now refl c.if-out-lt65.true refl

pub returns : goal.returns
unfolding head_bytes line
returns c =
    let a = c.args in
    wrote_all head_bytes a.out.now refl c.if-out-lt65.false refl c.put_bytes.ensures
