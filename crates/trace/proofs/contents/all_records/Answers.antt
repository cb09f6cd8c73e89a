use Rattle.std.proofs.Common.{◌≡◌, sym, ap, ◌∙◌, arith}
use Rattle.format.specs.Forms.{shape_of, width}
use Rattle.format.specs.declared.Form.{Form}
use Rattle.trace.proofs.contents.all_records.Goals.{After-width, After-width-in-Two}
use Rattle.trace.proofs.contents.all_records.Goals as goal

-- the step of each call
wide : (c : After-width) → c.width.result ≡ width (shape_of c.args.form)
wide c = c.width.ensures ∙ ap (λ (f : Form). width (shape_of f)) (sym c.in-One.is)

wide-2 : (c : After-width-in-Two) → c.width-in-Two.result ≡ width (shape_of c.args.form)
wide-2 c = c.width-in-Two.ensures ∙ ap (λ (f : Form). width (shape_of f)) (sym c.in-Two.is)

pub good_ends-requires : goal.good_ends-requires
good_ends-requires c =
    (omega (arith, wide (goal.at.good_ends-requires c).After-width), rw (wide (goal.at.good_ends-requires c).After-width) c.requires.1)

pub good_ends-requires-in-Two : goal.good_ends-requires-in-Two
good_ends-requires-in-Two c =
    (omega (arith, wide-2 (goal.at.good_ends-requires-in-Two c).After-width-in-Two), rw (wide-2 (goal.at.good_ends-requires-in-Two c).After-width-in-Two) c.requires.1)

pub returns-in-One : goal.returns-in-One
returns-in-One c = c.good_ends.ensures (shape_of c.args.form) (wide (goal.at.returns-in-One c).After-width)

pub returns-in-Two : goal.returns-in-Two
returns-in-Two c = c.good_ends-in-Two.ensures (shape_of c.args.form) (wide-2 (goal.at.returns-in-Two c).After-width-in-Two)
