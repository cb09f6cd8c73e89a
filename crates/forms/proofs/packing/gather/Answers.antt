use mathlib.Core.Path.{◌≡◌, sym, ap, ◌∙◌}
use mathlib.Core.List.{List}
use Prim.Native.Nat.{ℕ, ◌+◌, ◌*◌, ◌≤◌}
use native.Mathlib.Nat.{add-mul}
use native.Mathlib.Omega.{arith}
use lib.ListN.{length, take}
use lib.Seq.{sets, length-take-le}
use Rattle.answers.proofs.Stores.{sets-step}
use Rattle.numbers.proofs.BigEndian.{Octets}
use Rattle.format.specs.Forms.{Shape, shape_of, width, other_form}
use Rattle.format.specs.declared.Form.{Form}
use Rattle.trace.specs.Layout.{records_bytes}
use Rattle.trace.specs.Theorems.{records_in}
use Rattle.trace.specs.declared.Record.{Record}
use Rattle.trace.proofs.Records.{bytes_records, bytes_append}
use Rattle.forms.proofs.packing.gather.Goals.{After-width}
use Rattle.forms.proofs.packing.gather.Goals as goal

wide : (c : After-width) → c.width.result ≡ width (shape_of (other_form c.args.form))
wide c = c.width.ensures ∙ ap (λ (f : Form). width (shape_of f)) c.other.ensures

-- the records that are held lie in the part
fits : (c : After-width) → c.args.held * c.width.result ≤ length c.args.part.now
fits c = rw (wide c) c.requires.0.held_long

-- and with the others in the output
room : (c : After-width) → c.args.at + c.args.held * c.width.result + c.args.n * width (shape_of (other_form c.args.form)) ≤ length c.args.out.now
room c =
    let a = c.args in
    let both = add-mul a.held a.n (width (shape_of (other_form a.form))) in
    let first = ap (λ (k : ℕ). a.held * k) (wide c) in
    omega (arith, both, first, c.requires.1)

pub overflow_mul-end : goal.overflow_mul-end
overflow_mul-end c = omega (arith, fits (goal.at.overflow_mul-end c).After-width)

pub slice_bounds-put_bytes-end : goal.slice_bounds-put_bytes-end
slice_bounds-put_bytes-end c = sym (length-take-le _ _ (fits (goal.at.slice_bounds-put_bytes-end c).After-width))

pub overflow_add-at : goal.overflow_add-at
overflow_add-at c = omega (arith, room (goal.at.overflow_add-at c).After-width)

pub put_records-requires : goal.put_records-requires
put_records-requires c =
    (c.requires.0.good, c.requires.0.long, omega (arith, room (goal.at.put_records-requires c).After-width, c.put_bytes.auto.out))

pub returns : goal.returns
returns c =
    let a = c.args in
    let to : Shape = shape_of (other_form a.form) in
    let held : List Record = records_in to a.held a.part.now in
    let more : List Record = records_in (shape_of a.form) a.n a.body.now in
    let octets : Octets a.part.now = λ i. omega (arith, c.shared_slice_known-1.given i) in
    let at : a.held * c.width.result ≡ a.held * width to = ap (λ (k : ℕ). a.held * k) (wide (goal.at.returns c).After-width) in
    let back : records_bytes to held ≡ take (a.held * width to) a.part.now = bytes_records to a.held a.part.now octets c.requires.0.held_long c.requires.0.held_good in
    let first = c.put_bytes.ensures ∙ ap (λ (k : ℕ). sets a.out.now a.at (take k a.part.now)) at ∙ ap (sets a.out.now a.at) (sym back) in
    let size : length (records_bytes to held) ≡ a.held * width to = ap length back ∙ length-take-le _ _ c.requires.0.held_long in
    c.put_records.ensures
    ∙ sets-step a.out.now a.at (records_bytes to held) (records_bytes to more) (bytes_append to held more) first (omega (arith, at, size))
