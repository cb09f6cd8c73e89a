use borrow.Author.Rules.{rules}
use mathlib.Core.Path.{sym, ap, ◌∙◌}
use native.Mathlib.Omega.{arith}
use Rattle.numbers.proofs.Signed.{seen_is}
use Rattle.capi.specs.Blocks.{spaced_size, spaced_code}
use Rattle.capi.proofs.Lengths.{spaced_as_length, spaced_as_size}
use Rattle.capi.proofs.blocks.replaced.Goals as goal

pub length-requires : goal.length-requires
length-requires c = omega (arith, ap spaced_size c.in-Ok.is, c.requires)

pub unwritten-requires : goal.unwritten-requires
unwritten-requires c = omega (arith, spaced_as_size c.in-Err.why, ap spaced_size c.in-Err.is, c.requires)

pub returns-in-Ok : goal.returns-in-Ok
returns-in-Ok c = seen_is c.length.result (search rules) ∙ c.length.ensures ∙ sym (ap spaced_code c.in-Ok.is)

pub returns-in-Err : goal.returns-in-Err
returns-in-Err c = seen_is c.unwritten.result (search rules) ∙ c.unwritten.ensures ∙ spaced_as_length c.in-Err.why ∙ sym (ap spaced_code c.in-Err.is)
