use native.Mathlib.Omega.{arith}
use Rattle.shell.proofs.Ends.{one_unread}
use Rattle.shell.proofs.reading.Input.left_end.Goals as goal

pub overflow_add-result : goal.overflow_add-result
overflow_add-result c = let one = one_unread c.args.self in record { fits = omega (arith, c.if-length-self.false, c.unread.ensures) }

pub returns : goal.returns
returns c = let one = one_unread c.args.self in omega (arith, c.if-length-self.false, c.unread.ensures)
