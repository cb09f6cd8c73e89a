use Rattle.std.specs.Prelude.{Option}
use Rattle.format.specs.declared.Wire.{Wire}
use borrow.Author.Rules.{rules}
use mathlib.Core.Path.{◌≡◌, sym, ap, subst}
use borrow.Author.Tests.{lt-ltb}
use mathlib.Core.Bool.{true}
use Rattle.source.specs.Record.{wire_number}
use Rattle.engine.specs.Lean.{awaited_in}
use Rattle.engine.proofs.lean.awaited_in.Goals as goal

pub returns-in-Some : goal.returns-in-Some
returns-in-Some c =
    (sym (ap awaited_in c.in-Some.is), subst (λ (r : Option Wire). wire_number r ≡ true) (sym c.in-Some.is) (lt-ltb c.in-Some.wire.0 65536 (search rules)))
