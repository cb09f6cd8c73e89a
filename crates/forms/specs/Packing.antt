-- Request L10: records packed in blocks of a form, full in order.
use Rattle.std.specs.Prelude.{ℕ, zero, suc, ◌*◌, ◌/◌, List, [], ◌∷◌, ◌++◌, length, take, drop}
use Rattle.format.specs.Forms.{Shape}
use Rattle.trace.specs.Layout.{arrivals_block}
use Rattle.trace.specs.declared.Record.{Record}

-- the first n full blocks
unfoldable pub full_blocks : Shape → ℕ → ℕ → List Record → List ℕ
full_blocks shape ssrc zero records = []
full_blocks shape ssrc (suc n) records = arrivals_block shape (take shape.most records) ssrc ++ full_blocks shape ssrc n (drop shape.most records)

-- how many blocks are full, and the records behind them
abbrev pub full : Shape → List Record → ℕ
full shape records = length records / shape.most

abbrev pub left : Shape → List Record → List Record
left shape records = drop (full shape records * shape.most) records

-- the last block, where records are left
abbrev pub last_block : Shape → ℕ → List Record → List ℕ
last_block shape ssrc [] = []
last_block shape ssrc (r ∷ records) = arrivals_block shape (r ∷ records) ssrc

-- all blocks
unfoldable pub packed : Shape → ℕ → List Record → List ℕ
packed shape ssrc records = full_blocks shape ssrc (full shape records) records ++ last_block shape ssrc (left shape records)
