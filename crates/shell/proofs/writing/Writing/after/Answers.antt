use mathlib.Core.Path.{sym, ap}
use native.Mathlib.Omega.{arith}
use Rattle.shell.specs.Tries.{bytes_in}
use Rattle.shell.specs.Writes.{writing_after}
use Rattle.shell.proofs.writing.Writing.after.Goals as goal

pub overflow_add-result : goal.overflow_add-result
overflow_add-result c = record { fits = omega (arith, c.requires, ap bytes_in c.in-Bytes.is) }

pub returns-in-Bytes : goal.returns-in-Bytes
returns-in-Bytes c = sym (ap (writing_after c.args.self) c.in-Bytes.is)

pub returns-in-Nothing : goal.returns-in-Nothing
returns-in-Nothing c = sym (ap (writing_after c.args.self) c.in-Nothing.is)

pub returns-in-Again : goal.returns-in-Again
returns-in-Again c = sym (ap (writing_after c.args.self) c.in-Again.is)

pub returns-in-Failed : goal.returns-in-Failed
returns-in-Failed c = sym (ap (writing_after c.args.self) c.in-Failed.is)
