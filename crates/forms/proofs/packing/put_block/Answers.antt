use mathlib.Core.Path.{◌≡◌, sym, ap, ◌∙◌}
use mathlib.Core.Bool.{true}
use mathlib.Core.List.{List}
use Prim.Native.Nat.{ℕ, ◌+◌, ◌-◌, ◌*◌, ◌≤◌}
use native.Mathlib.Omega.{arith}
use lib.ListN.{length}
use lib.Seq.{sets}
use Rattle.format.specs.Forms.{shape_of, width, other_form}
use Rattle.format.specs.declared.Form.{Form}
use Rattle.format.proofs.Fits.{fits, records_fit}
use Rattle.trace.specs.Contents.{count_ok}
use Rattle.trace.specs.Layout.{records_bytes}
use Rattle.trace.specs.declared.Record.{Record}
use Rattle.forms.specs.Steps.{joined}
use Rattle.forms.proofs.Blocks.{block_over, length-joined}
use Rattle.forms.proofs.Packed.{most_counts}
use Rattle.forms.proofs.packing.put_block.Goals.{After-most-most}
use Rattle.forms.proofs.packing.put_block.Goals as goal

most_is : (c : After-most-most) → c.most-most.result ≡ (shape_of (other_form c.args.form)).most
most_is c = c.most-most.ensures ∙ ap (λ (f : Form). (shape_of f).most) c.other-to.ensures

-- they fit a body
few : (c : After-most-most) → c.most-most.result * width (shape_of (other_form c.args.form)) ≤ 502
few c = records_fit (fits (other_form c.args.form)) (omega (arith, most_is c))

pub overflow_sub-most : goal.overflow_sub-most
overflow_sub-most c = omega (arith, most_is (goal.at.overflow_sub-most c).After-most-most, c.requires.0)

pub gather-requires : goal.gather-requires
gather-requires c =
    let all : c.args.held + (c.most-most.result - c.args.held) ≡ c.most-most.result = omega (arith, most_is (goal.at.gather-requires c).After-most-most, c.requires.0) in
    let size = ap (λ (k : ℕ). k * width (shape_of (other_form c.args.form))) all in
    (rw (most_is (goal.at.gather-requires c).After-most-most) c.requires.1, omega (arith, size, few (goal.at.gather-requires c).After-most-most, c.requires.2))

pub returns : goal.returns
returns c =
    let a = c.args in
    let to : Form = other_form a.form in
    let m = most_is (goal.at.returns c).After-most-most in
    let rs : List Record = joined a.form a.held a.part.now ((shape_of to).most - a.held) a.body.now in
    let many : length rs ≡ (shape_of to).most = length-joined a.form a.held a.part.now a.body.now c.requires.0 in
    let stands = c.gather.ensures ∙ ap (λ (k : ℕ). sets a.out.now (a.at + 8) (records_bytes (shape_of to) (joined a.form a.held a.part.now (k - a.held) a.body.now))) m in
    let fit : length rs * width (shape_of to) ≤ 502 = rw (many, ← m) (few (goal.at.returns c).After-most-most) in
    let some : count_ok (shape_of to) (length rs) ≡ true = rw many (most_counts to) in
    let size : a.at + 512 - a.at ≡ 512 = omega arith in
    block_over to rs a.ssrc a.out.now a.at fit c.requires.2 stands c.other-to.ensures (m ∙ sym many) size some c.seal.ensures.stores
