use mathlib.Core.Path.{sym}
use native.Mathlib.Omega.{arith}
use borrow.Author.Tests.{le-leb}
use Rattle.source.specs.Record.{arrivals}
use Rattle.sources.proofs.Held.{last_mark}
use Rattle.sources.proofs.finding.is_held.Goals as goal

pub returns-then-s-gt0 : goal.returns-then-s-gt0
returns-then-s-gt0 c = let p = c.args.p in sym (le-leb 1 (arrivals p.source) (omega arith))

pub returns-then-s-gt0-2 : goal.returns-then-s-gt0-2
returns-then-s-gt0-2 c = let p = c.args.p in sym (le-leb 1 (arrivals p.source) (omega arith))

pub returns-then-s-gt0-3 : goal.returns-then-s-gt0-3
returns-then-s-gt0-3 c = let p = c.args.p in sym (le-leb 1 (arrivals p.source) (omega arith))

pub returns : goal.returns
returns c = let s = c.args.p.source in last_mark s.notect s.ect1 s.ect0 s.ce (omega arith)
