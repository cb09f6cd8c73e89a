use Rattle.std.specs.Prelude.{Ok}
use Rattle.std.proofs.Common.{◌≡◌, ℕ, ◌+◌, ◌*◌, ◌≤◌, true, refl, ap, ◌∙◌, arith}
use borrow.Enum.Refused.{opened}
use Rattle.trace.specs.Numbered.{found_as}
use Rattle.answers.proofs.Conditions.{was_true, was_false}
use Rattle.format.specs.Forms.{shape_of}
use Rattle.format.specs.declared.Kind.TheVariants.{Arrivals}
use Rattle.format.proofs.Fits.{fits, record_fits}
use Rattle.trace.proofs.Decisions.{count_right, kind_told, found_short, found_whole, found_other, found_none, found_past, found_here}
use Rattle.trace.specs.Contents.{count_ok}
use Rattle.trace.specs.Layout.{record_at, body_of}
use Rattle.trace.specs.Reading.{found_by, found_at}
use mathlib.Core.Path.{ap}
use Rattle.trace.proofs.read.record_at.Goals.{After-width, Else-not-is_count, In-Arrivals}
use Rattle.trace.proofs.read.record_at.Goals as goal

-- an arrivals block of the form
arrivals : (c : In-Arrivals) → found_by c.args.b.now c.args.i (Arrivals c.in-Arrivals.form) ≡ found_at c.args.b.now c.args.i
arrivals c =
    let b = c.args.b.now in
    found_whole b c.args.i c.if-b-ne-BLOCK.false (kind_told b c.read16.ensures c.of-kind.ensures c.in-Arrivals.is)

count : (c : Else-not-is_count) → count_ok (shape_of c.in-Arrivals.form) c.read16-count.result ≡ true
count c = was_true c.is_count.ensures c.if-not-is_count.false

room : (c : After-width) → c.args.i * c.width.result + c.width.result ≤ 502
room c = rw c.width.ensures (record_fits (fits c.in-Arrivals.form) (count_right _ _ (was_true c.is_count.ensures c.if-not-is_count.false)).1 c.args.i c.if-count-i.false)

pub returns-then-b-ne-BLOCK-clause-value : goal.returns-then-b-ne-BLOCK-clause-value
returns-then-b-ne-BLOCK-clause-value c = let a = c.args in found_short a.b.now a.i c.if-b-ne-BLOCK.true

pub returns-then-b-ne-BLOCK-clause-numbered : goal.returns-then-b-ne-BLOCK-clause-numbered
returns-then-b-ne-BLOCK-clause-numbered c = ap found_as (returns-then-b-ne-BLOCK-clause-value c)

pub returns-in_default-clause-value : goal.returns-in_default-clause-value
returns-in_default-clause-value c =
    let a = c.args in
    found_other a.b.now a.i c.of-kind.result (opened c.in_default.in_default-own.keys2) ∙ found_whole a.b.now a.i c.if-b-ne-BLOCK.false (kind_told a.b.now c.read16.ensures c.of-kind.ensures refl)

pub returns-in_default-clause-numbered : goal.returns-in_default-clause-numbered
returns-in_default-clause-numbered c = ap found_as (returns-in_default-clause-value c)

pub returns-then-not-is_count-clause-value : goal.returns-then-not-is_count-clause-value
returns-then-not-is_count-clause-value c =
    let a = c.args in
    found_none a.b.now a.i c.in-Arrivals.form c.read16-count.ensures (was_false c.is_count.ensures c.if-not-is_count.true) ∙ arrivals (goal.at.returns-then-not-is_count-clause-value c).In-Arrivals

pub returns-then-not-is_count-clause-numbered : goal.returns-then-not-is_count-clause-numbered
returns-then-not-is_count-clause-numbered c = ap found_as (returns-then-not-is_count-clause-value c)

pub returns-then-count-i-clause-value : goal.returns-then-count-i-clause-value
returns-then-count-i-clause-value c =
    let a = c.args in
    found_past a.b.now a.i c.in-Arrivals.form c.read16-count.ensures (count (goal.at.returns-then-count-i-clause-value c).Else-not-is_count) c.if-count-i.true ∙ arrivals (goal.at.returns-then-count-i-clause-value c).In-Arrivals

pub returns-then-count-i-clause-numbered : goal.returns-then-count-i-clause-numbered
returns-then-count-i-clause-numbered c = ap found_as (returns-then-count-i-clause-value c)

pub overflow_mul-i : goal.overflow_mul-i
overflow_mul-i c = omega (arith, room (goal.at.overflow_mul-i c).After-width)

pub record_in-requires : goal.record_in-requires
record_in-requires c = omega (arith, room (goal.at.record_in-requires c).After-width)

pub returns-clause-value : goal.returns-clause-value
returns-clause-value c =
    let a = c.args in
    let form = c.in-Arrivals.form in
    ap Ok (c.record_in.ensures ∙ ap (λ (w : ℕ). record_at (shape_of form) (body_of a.b.now) (a.i * w)) c.width.ensures)
    ∙ found_here a.b.now a.i form c.read16-count.ensures (count (goal.at.returns-clause-value c).Else-not-is_count) c.if-count-i.false ∙ arrivals (goal.at.returns-clause-value c).In-Arrivals

pub returns-clause-numbered : goal.returns-clause-numbered
returns-clause-numbered c = ap found_as (returns-clause-value c)
