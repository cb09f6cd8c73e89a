use mathlib.Core.Path.{◌≡◌, sym, ap, subst, ◌∙◌}
use native.Mathlib.Omega.{arith}
use Prim.Native.Nat.{ℕ, ◌+◌, ◌-◌, ◌*◌, ◌≤◌}
use lib.ListN.{take, drop}
use Rattle.format.specs.Blocks.{body_bytes}
use Rattle.trace.proofs.Accepted.{accepted}
use mathlib.Core.List.{List}
use Rattle.walk.specs.Steps.{goes}
use Rattle.sources.specs.declared.runs.Tally.{Tally}
use Rattle.sources.specs.Tables.{counted_in}
use Rattle.sources.specs.Runs.{counted_run, TakesBlock}
use Rattle.sources.proofs.RunSteps.{count_refuses, count_goes, takes_refuses, takes_goes}
use Rattle.sources.proofs.stepping.count_in.Goals.{After-width-width}
use Rattle.sources.proofs.stepping.count_in.Goals as goal

-- the records lie in the body
few : (c : After-width-width) → c.args.n * c.width-width.result ≤ body_bytes
few c = rw c.width-width.ensures (accepted c.args.block.now c.requires).block.room

pub overflow_mul-end : goal.overflow_mul-end
overflow_mul-end c = omega (arith, few (goal.at.overflow_mul-end c).After-width-width)

pub overflow_add-end : goal.overflow_add-end
overflow_add-end c = omega (arith, few (goal.at.overflow_add-end c).After-width-width)

pub slice_bounds-count_block-end : goal.slice_bounds-count_block-end
slice_bounds-count_block-end c =
    omega (arith, few (goal.at.slice_bounds-count_block-end c).After-width-width, (accepted c.args.block.now c.requires).block.whole)

pub returns-in-Refused : goal.returns-in-Refused
returns-in-Refused c =
    let a = c.args in
    let b = a.block.now in
    let wide = c.width-width in
    let size : 8 + a.n * wide.result - 8 ≡ a.n * wide.result = omega arith in
    let count = c.count_block-next.ensures ∙ ap (λ (k : ℕ). counted_in a.run.table a.ssrc wide.result (take k (drop 8 b))) size
    ∙ ap (λ (w : ℕ). counted_in a.run.table a.ssrc w (take (a.n * w) (drop 8 b))) wide.ensures in
    subst (TakesBlock a.run (counted_run a.run a.n a.ssrc b)) (sym c.refused.ensures)
    (takes_refuses a.run (count_refuses a.run a.n a.ssrc b c.count_block-next.result count c.in-Refused.is))

pub returns-in-Block : goal.returns-in-Block
returns-in-Block c =
    let a = c.args in
    let b = a.block.now in
    let wide = c.width-width in
    let u = c.count_block-next.result in
    let size : 8 + a.n * wide.result - 8 ≡ a.n * wide.result = omega arith in
    let count = c.count_block-next.ensures ∙ ap (λ (k : ℕ). counted_in a.run.table a.ssrc wide.result (take k (drop 8 b))) size
    ∙ ap (λ (w : ℕ). counted_in a.run.table a.ssrc w (take (a.n * w) (drop 8 b))) wide.ensures in
    subst (TakesBlock a.run (counted_run a.run a.n a.ssrc b)) (sym c.taken.ensures)
    (takes_goes a.run
    (count_goes a.run a.n a.ssrc b u count c.in-Block.is
    ∙ ap (λ (ts : List Tally). goes (record { form = a.run.form; length = a.run.length; table = u.table; tallies = ts })) (sym c.tallied-moved.ensures)))
