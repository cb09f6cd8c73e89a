use mathlib.Core.Path.{ap, ◌∙◌}
use Prim.Native.Nat.{◌%◌, ◌^◌}
use Rattle.numbers.specs.Integers.{modulo}
use Rattle.numbers.proofs.Signed.{seen_is}
use Rattle.report.specs.Carried.{counts_of}
use Rattle.report.proofs.carried.counts.Goals as goal

pub returns : goal.returns
unfolding counts_of
returns c =
    let a = c.args in
    λ i. record {
      ect0 = a.s.ect0 % 2 ^ 32;
      ect1 = a.s.ect1 % 2 ^ 32;
      ce = a.s.ce % 2 ^ 16;
      notect = a.s.notect % 2 ^ 16;
      lost = (c.low16.ensures ∙ ap (modulo (2 ^ 16)) (seen_is a.lost c.ranges.lost ∙ c.requires)) i;
      duplicates = a.s.duplicates % 2 ^ 16;
    }
