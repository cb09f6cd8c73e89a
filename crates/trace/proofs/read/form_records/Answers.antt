use Rattle.std.proofs.Common.{◌≡◌, ◌*◌, ◌≤◌, length, sym, ap, ◌∙◌, arith}
use Rattle.format.specs.Forms.{shape_of, width}
use Rattle.format.specs.declared.Form.{Form}
use Rattle.format.proofs.Fits.{fits, records_fit}
use Rattle.trace.proofs.read.form_records.Goals.{After-width-width, After-width-width-in-Two, Start}
use Rattle.trace.proofs.read.form_records.Goals as goal

-- the records that each form's call is about lie in the body
records-room : (s : Start) → s.args.n * width (shape_of s.args.form) ≤ length s.args.body.now
records-room s = omega (arith, records_fit (fits s.args.form) s.requires.0, s.requires.1)

-- the step of each form's calls
wide : (c : After-width-width) → c.width-width.result ≡ width (shape_of c.args.form)
wide c = c.width-width.ensures ∙ ap (λ (f : Form). width (shape_of f)) (sym c.in-One.is)

wide-2 : (c : After-width-width-in-Two) → c.width-width-in-Two.result ≡ width (shape_of c.args.form)
wide-2 c = c.width-width-in-Two.ensures ∙ ap (λ (f : Form). width (shape_of f)) (sym c.in-Two.is)

pub holds_records-requires : goal.holds_records-requires
holds_records-requires c =
    (omega (arith, wide (goal.at.holds_records-requires c).After-width-width), rw (← c.if-n-most.true, wide (goal.at.holds_records-requires c).After-width-width) (records-room (goal.at.holds_records-requires c).Start), c.requires.1)

pub returns-then-n-most : goal.returns-then-n-most
returns-then-n-most c =
    rw c.if-n-most.true (c.holds_records.ensures (shape_of c.args.form) (wide (goal.at.returns-then-n-most c).After-width-width))

pub holds_records-requires-in-One : goal.holds_records-requires-in-One
holds_records-requires-in-One c =
    (omega (arith, wide (goal.at.holds_records-requires-in-One c).After-width-width), rw (wide (goal.at.holds_records-requires-in-One c).After-width-width) (records-room (goal.at.holds_records-requires-in-One c).Start), c.requires.1)

pub holds_records-requires-then-n-most-2 : goal.holds_records-requires-then-n-most-2
holds_records-requires-then-n-most-2 c =
    (omega (arith, wide-2 (goal.at.holds_records-requires-then-n-most-2 c).After-width-width-in-Two), rw (← c.if-n-most-2.true, wide-2 (goal.at.holds_records-requires-then-n-most-2 c).After-width-width-in-Two) (records-room (goal.at.holds_records-requires-then-n-most-2 c).Start), c.requires.1)

pub returns-then-n-most-2 : goal.returns-then-n-most-2
returns-then-n-most-2 c =
    rw c.if-n-most-2.true (c.holds_records-then-n-most-2.ensures (shape_of c.args.form) (wide-2 (goal.at.returns-then-n-most-2 c).After-width-width-in-Two))

pub holds_records-requires-in-Two : goal.holds_records-requires-in-Two
holds_records-requires-in-Two c =
    (omega (arith, wide-2 (goal.at.holds_records-requires-in-Two c).After-width-width-in-Two), rw (wide-2 (goal.at.holds_records-requires-in-Two c).After-width-width-in-Two) (records-room (goal.at.holds_records-requires-in-Two c).Start), c.requires.1)

pub returns-else-n-most : goal.returns-else-n-most
returns-else-n-most c = c.holds_records-in-One.ensures (shape_of c.args.form) (wide (goal.at.returns-else-n-most c).After-width-width)

pub returns-else-n-most-2 : goal.returns-else-n-most-2
returns-else-n-most-2 c = c.holds_records-in-Two.ensures (shape_of c.args.form) (wide-2 (goal.at.returns-else-n-most-2 c).After-width-width-in-Two)
