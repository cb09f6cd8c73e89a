-- The hypotheses of the theorems on pieces of a trace can be met: traces of a label and C1's arrivals, whole and with a part of a block behind them, each in one piece.
use Rattle.std.specs.Prelude.{◌≡◌, true, List, [], ◌∷◌, ◌++◌, ℕ, ◌*◌, ◌^◌, ◌≤◌, ◌<◌, length, None}
use Rattle.format.specs.Blocks.{block_bytes}
use Rattle.table.specs.Theorems.{row_most}
use Rattle.walk.specs.Programs.{Printed, nothing, both, to_output, Program}
use Rattle.walk.specs.Pieces.{Octets, IsWhole, wholes, whole_in}
use Rattle.walk.specs.Fitting.{fitting}
use Rattle.walk.specs.Machines.{Gave, Session}
use Rattle.walk.specs.Singles.{Held as Single, singly}
use Rattle.convert.specs.declared.pieces.Progress.{Progress}
use Rattle.convert.specs.Runs.{sound_run}
use Rattle.convert.specs.Tables.{Kept}
use Rattle.convert.specs.Theorems.{block_calls}
use Rattle.convert.specs.Pieces.{Held, calls, took_of}
use Rattle.demands.specs.Witnesses.{label, c1_block, whole, begun}

-- ---- ecntable's calls

-- a byte of the next block
abbrev pub part : List ℕ
part = 67 ∷ []

abbrev pub parted : List ℕ
parted = label ++ (c1_block ++ part)

-- the progress behind block 0
abbrev pub started : Progress
started = record { run = begun; block = 1; ended = None }

-- begin, a piece with room for one row, and the end with what the piece left
abbrev pub gave : List ℕ → Gave Held
gave piece = calls.blocks (record { progress = started; zeroth = label }) piece row_most

abbrev pub given : List ℕ → List ℕ → Printed
given piece rest = both (calls.begin label).printed (both (gave piece).printed (calls.end (gave piece).state rest))

-- the calls for one block each: block 0, the next with room for its row, and the end
abbrev pub single : Gave (Single Kept)
single = (singly block_calls).blocks ((singly block_calls).begin label).state c1_block row_most

abbrev pub single_given : Printed
single_given = both ((singly block_calls).begin label).printed (both single.printed ((singly block_calls).end single.state []))

-- ---- a program of which each block prints one byte, and which refuses none

abbrev pub one : Program (Unit {0})
one = record {
  begin = λ b. record { state = tt; printed = nothing; refusal = None };
  step = λ i s b. record { state = tt; printed = to_output (i ∷ []); refusal = None };
  close = λ s e. nothing;
}

-- ---- what they meet, by theorem

pub record MetPieces : Type 0 where
  -- TracePrints and SessionPrints
  pub whole_bytes : Octets whole
  pub parted_bytes : Octets parted
  pub whole_few : length whole < block_bytes * 2 ^ 64
  pub parted_few : length parted < block_bytes * 2 ^ 64
  pub whole_session : Session calls whole (given c1_block [])
  pub parted_session : Session calls parted (given (c1_block ++ part) part)
  -- CallsPrint and SinglesPrint
  pub single_session : Session (singly block_calls) whole single_given
  -- RowsHaveRoom
  pub sound : sound_run begun label ≡ true
  pub block_bytes_lem : Octets c1_block
  pub row_room : wholes c1_block * row_most ≤ row_most
  pub row_taken : (took_of started label c1_block row_most).refusal ≡ None
  -- BlocksInPieces and TraceInPieces
  pub label_whole : IsWhole label
  pub label_some : 1 ≤ length label
  -- RoomIsEnough
  pub byte_room : wholes whole * 1 ≤ 2
  pub byte_taken : (fitting one 1 (whole_in whole) tt 2).refusal ≡ None
