-- Request L1: the lines that ecnstreams prints rows of are the held places of the table of several sources.
use Rattle.answers.specs.declared.Refusal.{Refusal}
use Rattle.std.specs.Prelude.{◌≡◌, List, [], ◌∷◌, map, ℕ, ◌*◌, take, drop, replicate, None, Result, Ok, Err}
use Rattle.format.specs.Blocks.{block_bytes, body_at}
use Rattle.format.specs.Forms.{shape_of, width}
use Rattle.trace.specs.Reading.{block_of}
use Rattle.trace.specs.Theorems.{Below}
use Rattle.trace.specs.declared.Block.{Block}
use Rattle.trace.specs.declared.Block.TheVariants.{Label, Arrivals}
use Rattle.walk.specs.Blocks.{blocks_of}
use Rattle.walk.specs.Programs.{walked}
use Rattle.sources.specs.declared.Place.{Place}
use Rattle.sources.specs.Places.{empty_place, held_of}
use Rattle.sources.specs.Answers.{count_places}
use Rattle.mixed.specs.declared.Line.{Line}
use Rattle.mixed.specs.Tables.{ecnstreams}

-- a line without its jumps and restarts
abbrev pub place_of : Line → Place
place_of l = record { ssrc = l.ssrc; source = l.totals.source }

-- a table after the call on the arrivals of a block
abbrev pub table_by : List Place → List ℕ → Result Block Refusal → List Place
table_by ps b (Ok (Arrivals form n ssrc)) = count_places ps ssrc (width (shape_of form)) (take (n * width (shape_of form)) (drop body_at b))
table_by ps b (Ok (Label form n ssrc)) = ps
table_by ps b (Err refusal) = ps

-- and after the calls on blocks in turn
abbrev pub table_behind : List Place → List (List ℕ) → List Place
table_behind ps [] = ps
table_behind ps (b ∷ bs) = table_behind (table_by ps b (block_of b)) bs

-- where no block is refused, the lines behind a trace are, as places, those held behind its blocks from 16 empty places, where what stands behind block 0
-- are bytes
abbrev pub LinesAreTable : Type 0
LinesAreTable =
    (trace : List ℕ) → Below 256 (drop block_bytes trace) → (walked ecnstreams (blocks_of trace)).ended ≡ None
    → map place_of (walked ecnstreams (blocks_of trace)).state.lines ≡ held_of (table_behind (replicate 16 empty_place) (blocks_of trace).others)
