-- What the functions of a run answer, and what they leave in what they were lent (include/flasknib.h, "a run of ecntable").
use Rattle.answers.specs.declared.Refusal.{Refusal}
use Rattle.std.specs.Prelude.{ℕ, cond, List, eqb, ℤ, length, Result, Ok, Err}
use Rattle.answers.specs.declared.Refusal.TheVariants.{Malformed}
use Rattle.answers.specs.Refusals.{number_of}
use Rattle.walk.specs.Steps.{Next, refuses}
use Rattle.convert.specs.declared.Run.{Run}
use Rattle.convert.specs.Runs.{start_of, call_next, row_in}
use Rattle.lent.specs.RunWords.{run_of, is_run, run_words}
use Rattle.capi.specs.Codes.{length_code, Leaves}
use Rattle.capi.specs.StepCalls.{Takes}

-- ---- flasknib_run_start

-- another number of words than 15 is refused with 9, before everything else
unfoldable pub starts : List ℕ → List ℕ → Result Run Refusal
starts zeroth words = cond (eqb (length words) 15) (start_of zeroth) (Err Malformed)

-- 0, or the refusal
abbrev pub start_code : Result Run Refusal → ℕ
start_code (Ok run) = 0
start_code (Err refusal) = number_of refusal

-- the words of the run; a refusal leaves the words as they were
abbrev pub start_words : List ℕ → Result Run Refusal → List ℕ
start_words words (Ok run) = run_words run
start_words words (Err refusal) = words

-- "Trace file", block 0: 9, 1, 13, 14; or 0 and the run's 15 words
abbrev pub StartsRun : List ℕ → List ℕ → ℕ → List ℕ → Type 0
StartsRun zeroth words r out =
    Leaves
    (start_code (starts zeroth words))
    (start_words words (starts zeroth words))
    r out

-- ---- flasknib_run_block

-- what the block does to the run in the words; words that are no run's are refused with 9, before everything else
unfoldable pub run_next : List ℕ → List ℕ → List ℕ → Next Run
run_next words zeroth block = cond (is_run words) (call_next (run_of words) zeroth block) (refuses Malformed)

-- "Table", a row after each arrivals block: 9, the block's refusal, 14 for its place, 12; or the row's length, its bytes, and the next run
abbrev pub TakesBlock : List ℕ → List ℕ → List ℕ → List ℕ → ℤ → List ℕ → List ℕ → Type 0
TakesBlock words zeroth block old r left out =
    Takes length_code run_words words
    (run_of words)
    (run_next words zeroth block)
    (row_in zeroth (run_next words zeroth block))
    old r left out
