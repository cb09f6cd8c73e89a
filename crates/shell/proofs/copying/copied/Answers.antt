use mathlib.Core.Path.{refl, subst}
use mathlib.Core.List.{List}
use Prim.Native.Nat.{ℕ}
use lib.ListN.{length}
use Rattle.shell.specs.Kept.{Printed}
use Rattle.shell.proofs.copying.copied.Goals as goal

pub returns : goal.returns
returns c =
    let kept = c.with_printed in
    let now = c.printed_now-next in
    record {
      between = kept.result;
      kept = kept.ensures;
      printed =
          subst (λ (l : List ℕ). Printed (length l) kept.result now.result) c.front_of-front.ensures now.ensures;
      other = refl;
    }
