use mathlib.Core.Path.{ap}
use native.Mathlib.Omega.{arith}
use native.Mathlib.Numerals.{add-one}
use lib.ListN.{length, length-set}
use Rattle.table.proofs.Texts.{byte_quote, byte_other, byte_length}
use Rattle.table.proofs.field.put_byte.Goals as goal

pub bounds-out-at : goal.bounds-out-at
bounds-out-at c = omega (arith, byte_length c.args.c)

pub bounds-out-at-then-c-eq34 : goal.bounds-out-at-then-c-eq34
bounds-out-at-then-c-eq34 c = simp length-set (omega (arith, ap length (byte_quote c.args.c c.if-c-eq34.true)))

pub returns-then-c-eq34 : goal.returns-then-c-eq34
returns-then-c-eq34 c = let e = byte_quote c.args.c c.if-c-eq34.true in record { value = rw e; written = rw (e, add-one) }

pub returns : goal.returns
returns c = let e = byte_other c.args.c c.if-c-eq34.false in record { value = rw e; written = rw e }
