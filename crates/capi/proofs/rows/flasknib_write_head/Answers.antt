use borrow.Author.Rules.{rules}
use native.Mathlib.Omega.{arith}
use lib.Dec.{leb→le}
use Rattle.answers.proofs.Stores.{wrote_size}
use Rattle.table.specs.Field.{line}
use Rattle.table.specs.Lines.{head_bytes}
use Rattle.capi.proofs.Answers.{coded}
use Rattle.capi.proofs.rows.flasknib_write_head.Goals as goal

pub length-requires : goal.length-requires
unfolding head_bytes line
length-requires c = omega (arith, wrote_size 65 (λ _. leb→le 65 65 tt) c.write_head.ensures)

pub returns : goal.returns
returns c = coded (search rules) c.length.ensures c.write_head.ensures
