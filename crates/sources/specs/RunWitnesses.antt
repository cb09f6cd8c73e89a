-- The hypotheses of the theorems on a run of ecnstreams can be met: a trace of two sources, and what it meets, by theorem.
use Rattle.std.specs.Prelude.{◌≡◌, List, [], ◌∷◌, ◌++◌, ℕ, ◌*◌, ◌^◌, ◌<◌, length, take, None}
use Rattle.format.specs.Blocks.{block_bytes}
use Rattle.format.specs.Forms.{shape_of}
use Rattle.format.specs.declared.Form.TheVariants.{One}
use Rattle.trace.specs.Layout.{label_block, arrivals_block}
use Rattle.trace.specs.Writing.{records_of}
use Rattle.walk.specs.Programs.{Printed}
use Rattle.walk.specs.Pieces.{Octets}
use Rattle.walk.specs.Machines.{Machine, Session}
use Rattle.walk.specs.Singles.{Held as Handed, singly}
use Rattle.sources.specs.Streams.{Kept}
use Rattle.sources.specs.Pieces.{end_fault, Narrow, Held, calls}
use Rattle.sources.specs.RunTheorems.{block_calls}

-- the label of SSRC 9, then arrivals of SSRC 2, of SSRC 1, with a jump, and of SSRC 2 again
abbrev pub trace : List ℕ
trace =
    label_block (shape_of One) (65 ∷ []) 9
    ++ (arrivals_block (shape_of One) (records_of (0 ∷ 20 ∷ []) (65535 ∷ 0 ∷ []) (2 ∷ 3 ∷ [])) 2
    ++ (arrivals_block (shape_of One) (records_of (0 ∷ 30 ∷ []) (7 ∷ 30000 ∷ []) (1 ∷ 1 ∷ [])) 1
    ++ arrivals_block (shape_of One) (records_of (40 ∷ []) (2 ∷ []) (0 ∷ [])) 2))

-- block 0, and what stands behind it
abbrev pub zeroth : List ℕ
zeroth = take block_bytes trace

abbrev pub begun : Held
begun = (calls.begin zeroth).state

-- the calls for one block each: block 0, and then the others one by one
abbrev pub single : Machine (Handed Kept)
single = singly block_calls

pub record MetRun : Type 0 where
  -- CallsPrint, TracePrints, LinesRise
  pub bytes : Octets trace
  pub few : length trace < block_bytes * 2 ^ 64
  pub singles : (q : Printed) × Session single trace q
  pub pieces : (q : Printed) × Session calls trace q
  -- EndHasRoom
  pub small : begun.progress.block < 2 ^ 64
  pub narrow : Narrow begun.progress.run.table.places
  pub good : end_fault begun.progress zeroth begun.progress.ended [] ≡ None
