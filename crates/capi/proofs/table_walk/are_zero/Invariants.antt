use lib.ListN.{drop}
use Rattle.capi.specs.TableWalks.{AllZero}
use Rattle.capi.proofs.table_walk.are_zero.Given as goal

abbrev pub invariant-loop-i : goal.invariant-loop-i
invariant-loop-i l = AllZero (drop l.i l.words) → AllZero (drop l.from l.words)
