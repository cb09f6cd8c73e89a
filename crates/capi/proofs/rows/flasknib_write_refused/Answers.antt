use borrow.Author.Rules.{rules}
use native.Mathlib.Omega.{arith}
use Rattle.answers.proofs.Stores.{wrote_size}
use Rattle.table.proofs.Digits.{length-u64}
use Rattle.table.proofs.RefusedLines.{length-refused}
use Rattle.capi.proofs.Answers.{coded}
use Rattle.capi.proofs.rows.flasknib_write_refused.Goals as goal

pub length-requires : goal.length-requires
length-requires c =
    let a = c.args in
    let number = length-u64 a.number (search rules) in
    let block = length-u64 a.block (search rules) in
    omega (arith, wrote_size 57 (λ _. omega (arith, length-refused a.number a.block, number, block)) c.write_refused.ensures)

pub returns : goal.returns
returns c = coded (search rules) c.length.ensures c.write_refused.ensures
