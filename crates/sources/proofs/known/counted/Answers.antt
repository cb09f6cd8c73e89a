use mathlib.Core.Path.{◌≡◌, refl, sym, ap, ◌∙◌}
use native.Mathlib.Omega.{arith}
use Prim.Native.Nat.{ℕ, ◌+◌, ◌-◌, ◌*◌, ◌≤◌}
use lib.ListN.{take, drop}
use Rattle.format.specs.Blocks.{body_bytes}
use Rattle.trace.proofs.Accepted.{accepted}
use Rattle.source.specs.Blocks.{block_count}
use Rattle.sources.proofs.known.counted.Goals.{After-width-width}
use Rattle.sources.proofs.known.counted.Goals as goal

-- the records lie in the body
few : (c : After-width-width) → c.args.n * c.width-width.result ≤ body_bytes
few c = rw c.width-width.ensures (accepted c.args.block.now c.requires).block.room

pub overflow_mul-end : goal.overflow_mul-end
overflow_mul-end c = omega (arith, few (goal.at.overflow_mul-end c).After-width-width)

pub overflow_add-end : goal.overflow_add-end
overflow_add-end c = omega (arith, few (goal.at.overflow_add-end c).After-width-width)

pub slice_bounds-count_block-end : goal.slice_bounds-count_block-end
slice_bounds-count_block-end c =
    omega (arith, few (goal.at.slice_bounds-count_block-end c).After-width-width, (accepted c.args.block.now c.requires).block.whole)

pub returns-in-Counted : goal.returns-in-Counted
returns-in-Counted c =
    let a = c.args in
    let b = a.block.now in
    let wide = c.width-width in
    let size : 8 + a.n * wide.result - 8 ≡ a.n * wide.result = omega arith in
    let count = c.count_block.ensures.value ∙ ap (λ (k : ℕ). block_count a.p.source wide.result (take k (drop 8 b))) size
    ∙ ap (λ (w : ℕ). block_count a.p.source w (take (a.n * w) (drop 8 b))) wide.ensures in
    record { jumps = _; restarts = _; counts = sym count ∙ c.in-Counted.is; ssrc = refl; raises = c.raised.ensures }
