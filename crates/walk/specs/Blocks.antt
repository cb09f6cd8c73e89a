-- Document 01, "Trace file": a trace as its blocks.
use Rattle.std.specs.Prelude.{ℕ, zero, suc, List, [], ◌∷◌, ◌++◌, length, take, drop}
use Rattle.format.specs.Blocks.{block_bytes}

-- block 0, and the others
pub record Blocks : Type 0 where
  pub zeroth : List ℕ
  pub others : List (List ℕ)

-- at most `most` blocks; a tail under 512 bytes is the last
unfoldable pub cut : ℕ → List ℕ → List (List ℕ)
cut zero s = []
cut (suc most) [] = []
cut (suc most) (c ∷ s) = take block_bytes (c ∷ s) ∷ cut most (drop block_bytes (c ∷ s))

-- an empty trace is an empty block 0
unfoldable pub blocks_of : List ℕ → Blocks
blocks_of trace = record { zeroth = take block_bytes trace; others = cut (length trace) (drop block_bytes trace) }

-- the blocks put together
abbrev pub joined : List (List ℕ) → List ℕ
joined [] = []
joined (b ∷ bs) = b ++ joined bs
