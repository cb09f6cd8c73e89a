use Rattle.std.specs.Prelude.{Option}
use Rattle.answers.specs.declared.Refusal.{Refusal}
use mathlib.Core.Path.{◌≡◌, sym, ap, ◌∙◌}
use Prim.Native.Nat.{ℕ, ◌*◌, ◌/◌}
use native.Mathlib.Omega.{arith}
use lib.ListN.{length, drop, drop_of_length-le}
use Rattle.format.specs.Blocks.{block_bytes}
use Rattle.walk.specs.Pieces.{wholes}
use Rattle.convert.specs.Feeds.{left_by, rest_in}
use Rattle.convert.proofs.feed_blocks.left_from.Goals as goal

pub returns-in-None : goal.returns-in-None
unfolding rest_in wholes
returns-in-None c = (
  λ rest long.
      let same : c.args.n / 512 * 512 ≡ block_bytes * (length rest / block_bytes) = omega (arith, long) in
      ap (λ (n : ℕ). drop n rest) same ∙ sym (ap (λ (e : Option Refusal). left_by (rest_in rest) e) c.in-None.is),
  omega arith,
  omega arith,
)

pub returns-in-Some : goal.returns-in-Some
returns-in-Some c = (
  λ rest long. drop_of_length-le rest {i = c.args.n} (omega (arith, long)) ∙ sym (ap (λ (e : Option Refusal). left_by (rest_in rest) e) c.in-Some.is),
  omega arith,
  omega arith,
)
