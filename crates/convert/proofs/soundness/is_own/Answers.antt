use mathlib.Core.Path.{sym, ap, ap₂, ◌∙◌}
use Prim.Native.Nat.{ℕ}
use borrow.Author.Tests.{ne_eqb}
use lib.Dec.{eqb}
use lib.ListN.{length}
use Rattle.answers.proofs.Conditions.{all_false}
use Rattle.format.specs.Blocks.{block_bytes}
use Rattle.convert.specs.Runs.{own_label}
use Rattle.convert.proofs.Kept.{own_last}
use Rattle.convert.proofs.soundness.is_own.Goals as goal

pub returns-then-zeroth-ne-BLOCK : goal.returns-then-zeroth-ne-BLOCK
returns-then-zeroth-ne-BLOCK c = let a = c.args in all_false (own_label a.run a.zeroth.now) 0 (ne_eqb (length a.zeroth.now) block_bytes c.if-zeroth-ne-BLOCK.true)

pub returns-then-read16-label : goal.returns-then-read16-label
returns-then-read16-label c =
    let a = c.args in
    let kind = c.read16 in
    let label = c.label in
    all_false (own_label a.run a.zeroth.now) 1 (ap₂ eqb (sym kind.ensures) (sym label.ensures) ∙ ne_eqb kind.result label.result c.if-read16-label.true)

pub returns-then-read16-run : goal.returns-then-read16-run
returns-then-read16-run c =
    let a = c.args in
    let count = c.read16-2 in
    all_false (own_label a.run a.zeroth.now) 2 (ap (λ (n : ℕ). eqb n a.run.length) (sym count.ensures) ∙ ne_eqb count.result a.run.length c.if-read16-run.true)

pub returns : goal.returns
returns c =
    let a = c.args in
    let kind = sym c.read16.ensures ∙ c.if-read16-label.false ∙ c.label.ensures in
    ap (λ (n : ℕ). eqb n a.run.ssrc) c.read32.ensures
    ∙ own_last a.run a.zeroth.now c.if-zeroth-ne-BLOCK.false kind (sym c.read16-2.ensures ∙ c.if-read16-run.false)
