use Prim.Native.Nat.{◌-◌, min}
use native.Mathlib.Omega.{arith}
use borrow.Author.Rules.{rules}
use Rattle.roots.proofs.Entries.{entry_root, zero_root}
use Rattle.roots.proofs.entry.Goals as goal

pub returns-then-m-eq0 : goal.returns-then-m-eq0
returns-then-m-eq0 c = λ top bottom t.
    zero_root top bottom c.args.table t (search rules) (min c.args.n 1024) (omega arith)

pub returns : goal.returns
returns c = λ top bottom t.
    entry_root top bottom c.args.table t (c.min-m.result - 1) (min c.args.n 1024) (search rules) (omega arith)
