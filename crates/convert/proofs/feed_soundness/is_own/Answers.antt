use mathlib.Core.Path.{◌≡◌, sym, ap, ◌∙◌}
use mathlib.Core.Bool.{true, false, and-true}
use borrow.Author.Tests.{eq-eqb, ne_eqb}
use lib.Dec.{eqb}
use Rattle.format.specs.Forms.{same_form}
use Rattle.convert.specs.Feeds.{own_by}
use Rattle.convert.proofs.SoundUploads.{forms_differ, forms_agree, own_refused}
use Rattle.convert.proofs.feed_soundness.is_own.Goals as goal

pub returns-in_default : goal.returns-in_default
returns-in_default c = let a = c.args in sym (ap (own_by a.run) (sym c.read_label.ensures.value) ∙ own_refused a.run c.in_default.is)

pub returns-then-ne : goal.returns-then-ne
returns-then-ne c =
    let a = c.args in
    let own = ap (own_by a.run) (sym c.read_label.ensures.value ∙ c.in-Ok.is) in
    let other : same_form c.in-Ok.field-0.form a.run.form ≡ false = forms_differ c.in-Ok.field-0.form a.run.form c.if-ne.ensures in
    sym (own ∙ rw other)

pub returns-then-length-run : goal.returns-then-length-run
returns-then-length-run c =
    let a = c.args in
    let own = ap (own_by a.run) (sym c.read_label.ensures.value ∙ c.in-Ok.is) in
    let same : same_form c.in-Ok.field-0.form a.run.form ≡ true = forms_agree c.in-Ok.field-0.form a.run.form c.if-ne.ensures in
    sym (own ∙ rw (same, ne_eqb c.in-Ok.field-0.length a.run.length c.if-length-run.true))

pub returns : goal.returns
returns c =
    let a = c.args in
    let own = ap (own_by a.run) (sym c.read_label.ensures.value ∙ c.in-Ok.is) in
    let same : same_form c.in-Ok.field-0.form a.run.form ≡ true = forms_agree c.in-Ok.field-0.form a.run.form c.if-ne.ensures in
    sym (own ∙ rw (same, eq-eqb c.in-Ok.field-0.length a.run.length c.if-length-run.false, and-true (eqb c.in-Ok.field-0.ssrc a.run.ssrc)))
