use mathlib.Core.Path.{ap, ◌∙◌}
use native.Mathlib.Omega.{arith}
use lib.ListN.{length-set}
use Rattle.numbers.proofs.BigEndian.{Octets}
use Rattle.format.specs.Forms.{shape_of, width, other_form}
use Rattle.format.specs.declared.Form.{Form}
use Rattle.forms.proofs.Moved.{two_stored, one_stored}
use Rattle.forms.proofs.moving.put_record.Goals as goal

pub bounds-out-at-in-One : goal.bounds-out-at-in-One
bounds-out-at-in-One c =
    let wide = ap (λ (f : Form). width (shape_of (other_form f))) c.in-One.is in
    simp length-set (omega (arith, wide))

pub move_eight-requires : goal.move_eight-requires
move_eight-requires c =
    let narrow = ap (λ (f : Form). width (shape_of f)) c.in-One.is in
    let wide = ap (λ (f : Form). width (shape_of (other_form f))) c.in-One.is in
    (omega (arith, narrow), simp length-set (omega (arith, wide)))

pub move_eight-requires-in-Two : goal.move_eight-requires-in-Two
move_eight-requires-in-Two c =
    let wide = ap (λ (f : Form). width (shape_of f)) c.in-Two.is in
    let narrow = ap (λ (f : Form). width (shape_of (other_form f))) c.in-Two.is in
    (omega (arith, wide), omega (arith, narrow))

pub shape_of-out-in-One : goal.shape_of-out-in-One
shape_of-out-in-One c = c.move_eight.auto.out ∙ simp length-set

pub returns-in-One : goal.returns-in-One
returns-in-One c =
    let a = c.args in
    let octets : Octets a.body.now = λ i. omega (arith, c.shared_slice_known-1.given i) in
    two_stored a.body.now a.out.now a.from a.at octets a.form c.in-One.is c.requires.0 c.requires.1 c.move_eight.ensures

pub returns-in-Two : goal.returns-in-Two
returns-in-Two c =
    let a = c.args in
    let octets : Octets a.body.now = λ i. omega (arith, c.shared_slice_known-1.given i) in
    one_stored a.body.now a.out.now a.from a.at octets a.form c.in-Two.is c.requires.0 c.requires.1 c.move_eight-in-Two.ensures
