use borrow.Author.Rules.{rules}
use mathlib.Core.Path.{ap, ◌∙◌}
use native.Mathlib.Omega.{arith}
use Rattle.numbers.proofs.Signed.{seen_is}
use Rattle.capi.specs.Blocks.{spaced_code}
use Rattle.capi.proofs.Lengths.{spaced_size_lem}
use Rattle.capi.proofs.blocks.flasknib_space_label.Goals as goal

pub replaced-requires : goal.replaced-requires
replaced-requires c =
    let a = c.args in
    omega (arith, spaced_size_lem a.zeroth.now a.out.now c.space_label.ensures.spaces)

pub returns : goal.returns
returns c =
    let w = c.space_label.ensures.spaces in
    record { answers = seen_is c.replaced.result (search rules) ∙ c.replaced.ensures ∙ ap spaced_code w.answers; stores = w.stores }
