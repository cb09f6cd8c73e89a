use mathlib.Core.Path.{sym, subst}
use mathlib.Core.List.{List}
use Prim.Native.Nat.{ℕ}
use Rattle.sdp.specs.Reading.{Reads}
use Rattle.capi.specs.AttributeCalls.{ReadsAttribute}
use Rattle.capi.proofs.AttributeSteps.{read_refused, read_short, read_told}
use Rattle.capi.proofs.attributes.flasknib_read_attribute.Goals as goal

pub returns-then-found-lt-WORDS : goal.returns-then-found-lt-WORDS
returns-then-found-lt-WORDS c =
    let a = c.args in
    read_short a.line.now a.found.now (subst (Reads a.line.now) c.in-Ok.is c.read.ensures) c.if-found-lt-WORDS.true

pub returns-in-Err : goal.returns-in-Err
returns-in-Err c =
    let a = c.args in
    subst (λ (n : ℕ). ReadsAttribute a.line.now a.found.now n a.found.now) (sym c.number.ensures)
    (read_refused a.line.now a.found.now (subst (Reads a.line.now) c.in-Err.is c.read.ensures))

pub returns-else-found-lt-WORDS : goal.returns-else-found-lt-WORDS
returns-else-found-lt-WORDS c =
    let a = c.args in
    subst (λ (l : List ℕ). ReadsAttribute a.line.now a.found.now 0 l) (sym c.store.ensures)
    (read_told a.line.now a.found.now (subst (Reads a.line.now) c.in-Ok.is c.read.ensures) c.if-found-lt-WORDS.false)
