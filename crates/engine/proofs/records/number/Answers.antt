use borrow.Author.Rules.{rules}
use mathlib.Core.Path.{sym, ◌∙◌}
use mathlib.Core.List.{[], ◌∷◌}
use Prim.Native.Nat.{◌+◌, ◌-◌}
use lib.ListN.{get_or}
use Rattle.numbers.proofs.BigEndian.{word_two}
use Rattle.engine.proofs.records.number.Goals as goal

pub returns : goal.returns
returns c =
    let a = c.args in
    let place = a.at + (a.width - 4) in
    (c.join16.ensures ∙ word_two (get_or a.records.now place 0 ∷ get_or a.records.now (place + 1) 0 ∷ []) 0 ∙ sym (word_two a.records.now place), search rules)
