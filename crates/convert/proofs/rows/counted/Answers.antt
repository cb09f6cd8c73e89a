use mathlib.Core.Path.{◌≡◌, ap, ◌∙◌}
use native.Mathlib.Omega.{arith}
use Prim.Native.Nat.{ℕ, ◌+◌, ◌-◌, ◌*◌, ◌≤◌}
use lib.ListN.{take, drop}
use Rattle.format.specs.Blocks.{body_bytes}
use Rattle.source.specs.Blocks.{block_count}
use Rattle.source.specs.Totals.{with_block}
use Rattle.trace.proofs.Accepted.{accepted}
use Rattle.convert.specs.Runs.{arrived}
use Rattle.convert.proofs.rows.counted.Goals as goal

pub overflow_mul-end : goal.overflow_mul-end
overflow_mul-end c =
    let h = accepted c.args.block.now c.requires in
    let few : c.args.n * c.width-width.result ≤ body_bytes = rw c.width-width.ensures h.block.room in
    omega arith

pub overflow_add-end : goal.overflow_add-end
overflow_add-end c =
    let h = accepted c.args.block.now c.requires in
    let few : c.args.n * c.width-width.result ≤ body_bytes = rw c.width-width.ensures h.block.room in
    omega arith

pub slice_bounds-count_block-end : goal.slice_bounds-count_block-end
slice_bounds-count_block-end c =
    let h = accepted c.args.block.now c.requires in
    let few : c.args.n * c.width-width.result ≤ body_bytes = rw c.width-width.ensures h.block.room in
    omega (arith, h.block.whole)

pub returns : goal.returns
unfolding arrived
returns c =
    let run = c.args.run in
    let b = c.args.block.now in
    let wide = c.width-width in
    let size : 8 + c.args.n * wide.result - 8 ≡ c.args.n * wide.result = omega arith in
    let count = c.count_block-counted.ensures.value ∙ ap (λ (k : ℕ). block_count run.totals.source wide.result (take k (drop 8 b))) size
    ∙ ap (λ (w : ℕ). block_count run.totals.source w (take (c.args.n * w) (drop 8 b))) wide.ensures in
    λ i. record { form = run.form; length = run.length; ssrc = run.ssrc; totals = (c.with_block.ensures ∙ ap (with_block run.totals) count) i }
