use Rattle.std.proofs.Common.{◌≡◌, true, false, eqb, sym, ◌∙◌, ap₂, eq-eqb, ne_eqb}
use Rattle.format.specs.Forms.{same_form}
use Rattle.trace.proofs.places.is_own.Goals as goal

pub returns-then-label : goal.returns-then-label
returns-then-label c =
    let a = c.args in
    let other : same_form a.form a.own ≡ false = ap₂ eqb (sym c.label.ensures) (sym c.label-2.ensures) ∙ ne_eqb _ _ c.if-label.true in
    rw other

pub returns : goal.returns
returns c =
    let a = c.args in
    let same : same_form a.form a.own ≡ true = ap₂ eqb (sym c.label.ensures) (sym c.label-2.ensures) ∙ eq-eqb _ _ c.if-label.false in
    rw same
