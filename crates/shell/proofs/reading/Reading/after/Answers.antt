use mathlib.Core.Path.{sym, ap, ◌∙◌}
use native.Mathlib.Omega.{arith}
use Rattle.shell.specs.Tries.{bytes_in}
use Rattle.shell.specs.Fills.{reading_after}
use Rattle.shell.proofs.reading.Reading.after.Goals as goal

pub overflow_add-bytes : goal.overflow_add-bytes
overflow_add-bytes c = record { fits = omega (arith, c.requires, ap bytes_in c.in-Bytes.is) }

pub returns-in-Bytes : goal.returns-in-Bytes
returns-in-Bytes c =
    c.reached.ensures ∙ sym (ap (reading_after c.args.self) c.in-Bytes.is)

pub returns-in-Nothing : goal.returns-in-Nothing
returns-in-Nothing c = c.reached-in-Nothing.ensures ∙ sym (ap (reading_after c.args.self) c.in-Nothing.is)

pub returns-in-Again : goal.returns-in-Again
returns-in-Again c =
    c.reached-in-Again.ensures ∙ sym (ap (reading_after c.args.self) c.in-Again.is)

pub returns-in-Failed : goal.returns-in-Failed
returns-in-Failed c = c.reached-in-Failed.ensures ∙ sym (ap (reading_after c.args.self) c.in-Failed.is)
