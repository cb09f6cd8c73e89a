use mathlib.Core.Path.{◌≡◌, sym, ap, ap₂, ◌∙◌}
use native.Mathlib.Omega.{arith}
use Prim.Native.Nat.{ℕ, ◌+◌, ◌-◌}
use borrow.Author.Tests.{ne_eqb, lt-leb}
use lib.Dec.{eqb}
use lib.ListN.{length, take, drop}
use Rattle.answers.proofs.Conditions.{all_false}
use Rattle.format.specs.Blocks.{block_bytes, body_bytes}
use Rattle.trace.specs.Contents.{label_ok}
use Rattle.mixed.specs.Rows.{own_conditions, own_label}
use Rattle.mixed.proofs.Told.{own_last}
use Rattle.mixed.proofs.soundness.is_own.Goals as goal

pub returns-then-zeroth-ne-BLOCK : goal.returns-then-zeroth-ne-BLOCK
unfolding own_label
returns-then-zeroth-ne-BLOCK c =
    let a = c.args in all_false (own_conditions a.run a.zeroth.now) 0 (ne_eqb (length a.zeroth.now) block_bytes c.if-zeroth-ne-BLOCK.true)

pub returns-then-read16-label : goal.returns-then-read16-label
unfolding own_label
returns-then-read16-label c =
    let a = c.args in
    let kind = c.read16 in
    let label = c.label in
    all_false (own_conditions a.run a.zeroth.now) 1 (ap₂ eqb (sym kind.ensures) (sym label.ensures) ∙ ne_eqb kind.result label.result c.if-read16-label.true)

pub returns-then-read16-run : goal.returns-then-read16-run
unfolding own_label
returns-then-read16-run c =
    let a = c.args in
    let count = c.read16-2 in
    all_false (own_conditions a.run a.zeroth.now) 2 (ap (λ (n : ℕ). eqb n a.run.length) (sym count.ensures)
    ∙ ne_eqb count.result a.run.length c.if-read16-run.true)

pub returns-then-run-gt-BODY_BYTES : goal.returns-then-run-gt-BODY_BYTES
unfolding own_label
returns-then-run-gt-BODY_BYTES c =
    let a = c.args in
    all_false (own_conditions a.run a.zeroth.now) 3 (lt-leb a.run.length body_bytes c.if-run-gt-BODY_BYTES.true)

pub returns : goal.returns
returns c =
    let a = c.args in
    let kind = c.read16 in
    let form = c.label in
    let count = c.read16-2 in
    let same : 8 + a.run.length - 8 ≡ a.run.length = omega arith in
    c.is_label.ensures
    ∙ ap (λ (k : ℕ). label_ok (take k (drop 8 a.zeroth.now))) same
    ∙ own_last a.run a.zeroth.now c.if-zeroth-ne-BLOCK.false (sym kind.ensures ∙ c.if-read16-label.false ∙ form.ensures)
    (sym count.ensures ∙ c.if-read16-run.false) c.if-run-gt-BODY_BYTES.false
