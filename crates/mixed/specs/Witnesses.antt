-- The hypotheses of the theorems can be met: a trace of two sources, and lent words, that meet them all.
use Rattle.std.specs.Prelude.{◌≡◌, List, [], ◌∷◌, ◌++◌, ℕ, ◌*◌, ◌^◌, ◌≤◌, ◌<◌, length, replicate, Ok}
use Rattle.format.specs.Blocks.{block_bytes}
use Rattle.format.specs.Forms.{shape_of}
use Rattle.format.specs.declared.Form.TheVariants.{One}
use Rattle.trace.specs.Layout.{label_block, arrivals_block}
use Rattle.trace.specs.Reading.{block_of}
use Rattle.trace.specs.declared.Block.TheVariants.{Label}
use Rattle.trace.specs.Writing.{records_of}
use Rattle.walk.specs.Blocks.{blocks_of}
use Rattle.walk.specs.Programs.{Printed}
use Rattle.walk.specs.Pieces.{Octets}
use Rattle.walk.specs.Machines.{Machine, Session}
use Rattle.walk.specs.Singles.{Held, singly}
use Rattle.mixed.specs.Blocks.{most_lines}
use Rattle.mixed.specs.Theorems.{Lent, block_calls, OfSources}

-- the label of SSRC 9, then arrivals of SSRC 2, of SSRC 1, with a jump, and of SSRC 2 again
abbrev pub trace : List ℕ
trace =
    label_block (shape_of One) (65 ∷ []) 9
    ++ (arrivals_block (shape_of One) (records_of (0 ∷ 20 ∷ []) (65535 ∷ 0 ∷ []) (2 ∷ 3 ∷ [])) 2
    ++ (arrivals_block (shape_of One) (records_of (0 ∷ 30 ∷ []) (7 ∷ 30000 ∷ []) (1 ∷ 1 ∷ [])) 1
    ++ arrivals_block (shape_of One) (records_of (40 ∷ []) (2 ∷ []) (0 ∷ [])) 2))

abbrev pub words : List ℕ
words = replicate 208 0

-- the calls: block 0, and then the others one by one
abbrev pub single : Machine (Held Lent)
single = singly (block_calls words)

pub record Met : Type 0 where
  -- CallsPrint
  pub bytes : Octets trace
  pub few : length trace < block_bytes * 2 ^ 64
  pub room : 13 * most_lines ≤ length words
  pub session : (q : Printed) × Session single trace q
  -- SixteenSuffice
  pub label : block_of (blocks_of trace).zeroth ≡ Ok (Label One 1 9)
  pub sources : OfSources One (1 ∷ 2 ∷ []) (blocks_of trace).others
