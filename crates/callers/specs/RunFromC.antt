-- A run of ecntable from C (include/flasknib.h, "a run of ecntable"): flasknib_run_start on block 0, and flasknib_run_block on each later block, on the words that the
-- call before left, print what ecntable prints.
use Rattle.answers.specs.declared.Refusal.{Refusal}
use Rattle.std.specs.Prelude.{◌≡◌, List, ℕ, ◌*◌, ◌^◌, ◌<◌, ℤ, length, Some, Result, Ok, Err}
use Rattle.answers.specs.Refusals.{number_of}
use Rattle.format.specs.Blocks.{block_bytes}
use Rattle.table.specs.Lines.{head_bytes}
use Rattle.walk.specs.Programs.{Printed, ending_at}
use Rattle.walk.specs.Pieces.{Octets}
use Rattle.walk.specs.Steps.{Next, goes, refuses}
use Rattle.walk.specs.Machines.{Session}
use Rattle.walk.specs.Singles.{Singles, singly}
use Rattle.convert.specs.declared.Run.{Run}
use Rattle.convert.specs.Runs.{start_of, row_in}
use Rattle.convert.specs.Tables.{closing, printed}
use Rattle.lent.specs.RunWords.{run_words}
use Rattle.capi.specs.RunCalls.{run_next, StartsRun, TakesBlock}
use Rattle.callers.specs.Sessions.{CallIs}

-- what the caller keeps: the run's 15 words, and block 0
pub record RunKept : Type 0 where
  pub words : List ℕ
  pub zeroth : List ℕ

abbrev pub started_in : List ℕ → Result Run Refusal → Next RunKept
started_in zeroth (Ok run) = goes (record { words = run_words run; zeroth = zeroth })
started_in zeroth (Err refusal) = refuses refusal

abbrev pub brought_in : List ℕ → Next Run → Next RunKept
brought_in zeroth (goes run) = goes (record { words = run_words run; zeroth = zeroth })
brought_in zeroth (refuses refusal) = refuses refusal

-- the calls; the caller writes the head line first, and the line of a refused block last
abbrev pub run_calls : Singles RunKept
run_calls = record {
  start = λ b. started_in b (start_of b);
  head = λ b. head_bytes;
  next = λ k b. brought_in k.zeroth (run_next k.words k.zeroth b);
  bytes = λ k b. row_in k.zeroth (run_next k.words k.zeroth b);
  end = λ k e. closing e;
  over = λ refusal. closing (ending_at 0 (Some refusal));
}

-- they are the C functions, by the contracts of these: 0 and the words, or the refusal and the words as they were;
abbrev pub BeganAs : Next RunKept → List ℕ → ℕ → List ℕ → Type 0
BeganAs (goes k) old r out = (r ≡ 0) × (out ≡ k.words)
BeganAs (refuses refusal) old r out = (r ≡ number_of refusal) × (out ≡ old)

abbrev pub RunStartIs : Type 0
RunStartIs = (zeroth old out : List ℕ) (r : ℕ) → length old ≡ 15 → StartsRun zeroth old r out → BeganAs (run_calls.start zeroth) old r out

-- and what a later block brings and prints
abbrev pub RunBlockIs : Type 0
RunBlockIs =
    (k : RunKept) (block old left out : List ℕ) (r : ℤ) → TakesBlock k.words k.zeroth block old r left out
    → CallIs (λ k. k.words) k (run_calls.next k block) (run_calls.bytes k block) old r left out

-- what the calls over a trace's blocks write, with the head line and the line of a refused block, is what ecntable prints on both outputs
abbrev pub RunFromCPrints : Type 0
RunFromCPrints = (trace : List ℕ) (q : Printed) → Octets trace → length trace < block_bytes * 2 ^ 64 → Session (singly run_calls) trace q → q ≡ printed trace
