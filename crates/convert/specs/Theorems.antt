-- What holds between the calls for one block each and the whole run.
use Rattle.answers.specs.declared.Refusal.{Refusal}
use Rattle.std.specs.Prelude.{◌≡◌, List, ℕ, ◌*◌, ◌^◌, ◌<◌, length, Some, Result, Ok, Err}
use Rattle.format.specs.Blocks.{block_bytes}
use Rattle.table.specs.Lines.{head_bytes}
use Rattle.walk.specs.Programs.{Printed, ending_at}
use Rattle.walk.specs.Pieces.{Octets}
use Rattle.walk.specs.Steps.{Next, goes, refuses}
use Rattle.walk.specs.Machines.{Session}
use Rattle.walk.specs.Singles.{Singles, singly}
use Rattle.convert.specs.declared.Run.{Run}
use Rattle.convert.specs.Runs.{row_in, start_of, call_next}
use Rattle.convert.specs.Tables.{Kept, closing, printed}

-- ---- the calls: each later block on the run that the call before handed back, with block 0

abbrev pub started_on : List ℕ → Result Run Refusal → Next Kept
started_on zeroth (Ok run) = goes (record { run = run; zeroth = zeroth })
started_on zeroth (Err refusal) = refuses refusal

abbrev pub next_on : List ℕ → Next Run → Next Kept
next_on zeroth (goes run) = goes (record { run = run; zeroth = zeroth })
next_on zeroth (refuses refusal) = refuses refusal

abbrev pub block_calls : Singles Kept
block_calls = record {
  start = λ b. started_on b (start_of b);
  head = λ b. head_bytes;
  next = λ k b. next_on k.zeroth (call_next k.run k.zeroth b);
  bytes = λ k b. row_in k.zeroth (call_next k.run k.zeroth b);
  end = λ k e. closing e;
  over = λ refusal. closing (ending_at 0 (Some refusal));
}

-- the head line, what the calls over a trace's blocks write, and the line of the refused block, if there is one, are what ecntable prints on both outputs
abbrev pub CallsPrint : Type 0
CallsPrint = (trace : List ℕ) (q : Printed) → Octets trace → length trace < block_bytes * 2 ^ 64 → Session (singly block_calls) trace q → q ≡ printed trace
