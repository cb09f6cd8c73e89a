use borrow.Author.Rules.{rules}
use mathlib.Core.Path.{◌≡◌}
use native.Mathlib.Omega.{arith}
use lib.ListN.{length, length-take}
use Rattle.sources.proofs.Turns.{length-mapped}
use Rattle.lent.proofs.table_words.in_use.Goals as goal

pub returns : goal.returns
returns c =
    let t = c.args.t in
    let long : length t.places ≡ 16 = search (rules, length-mapped) in
    omega (arith, long, length-take t.count t.places, c.min.ensures)
