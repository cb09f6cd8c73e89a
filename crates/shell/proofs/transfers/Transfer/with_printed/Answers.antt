use mathlib.Core.Path.{refl, subst}
use Prim.Native.Nat.{ℕ}
use Rattle.shell.specs.Kept.{Moved}
use Rattle.shell.proofs.transfers.Transfer.with_printed.Goals as goal

pub returns : goal.returns
returns c =
    let a = c.args in
    let out = c.with_printed-next-2 in
    let err = c.with_printed-next in
    record {
      out = subst (λ (n : ℕ). Moved n a.self.out a.lines.now out.result out.new.buffer) c.ready-2.ensures out.ensures;
      err =
          subst (λ (n : ℕ). Moved n a.self.err a.errors.now err.result err.new.buffer)
          c.ready.ensures
          err.ensures;
      other = refl;
    }
