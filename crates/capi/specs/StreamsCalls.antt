-- What the functions of a run of ecnstreams answer, and what they leave in what they were lent (include/flasknib.h, "a run of ecnstreams"). `words` are those
-- of the run, `ws` those of the lines.
use Rattle.answers.specs.declared.Unwritten.{Unwritten}
use Rattle.std.specs.Prelude.{ℕ, cond, List, [], eqb, ℤ, length, Option, Err}
use Rattle.answers.specs.declared.Refusal.{Refusal}
use Rattle.answers.specs.declared.Refusal.TheVariants.{Malformed}
use Rattle.walk.specs.Steps.{Next}
use Rattle.sources.specs.declared.runs.Run.{Run}
use Rattle.sources.specs.declared.runs.Step.{Step}
use Rattle.sources.specs.Answers.{or_else}
use Rattle.sources.specs.Runs.{no_run, start_of, call_next, unless}
use Rattle.sources.specs.Rows.{row_fault, row_of}
use Rattle.lent.specs.StreamWords.{run_words, stored_lines, run_of, words_fault}
use Rattle.capi.specs.Codes.{length_code, refusal_code, Gives, Leaves}
use Rattle.capi.specs.StepCalls.{words_after, Takes}

-- ---- flasknib_streams_start

-- another number of words than 3 is refused with 9, before everything else
unfoldable pub started : List ℕ → List ℕ → Step
started words zeroth = cond (eqb (length words) 3) (start_of zeroth) (record { answer = Err (Unwritten.Refused Malformed); run = no_run })

-- request L1, block 0: 9, 1, 13, 14; or 0 and the run's 3 words
abbrev pub StartsStreams : List ℕ → List ℕ → ℕ → List ℕ → Type 0
StartsStreams zeroth words r out =
    Leaves
    (refusal_code (started words zeroth).answer)
    (words_after words (run_words (started words zeroth).run) (started words zeroth).answer)
    r out

-- ---- flasknib_streams_block

-- what the block brings to the run in the words; the refusals of the words come first
unfoldable pub streams_next : List ℕ → List ℕ → List ℕ → Next Run
streams_next words ws block = unless (words_fault words ws) (call_next (run_of words ws) block)

-- request L1, a later block: 16, 9, the block's refusal, 14 for its place, 15; or 0, the next run and the lines. It has no output
pub record TakesStreams (words ws block : List ℕ) (r : ℕ) (left lines : List ℕ) : Type 0 where
  pub takes : Takes refusal_code run_words words (run_of words ws) (streams_next words ws block) [] [] r left []
  pub holds : Takes refusal_code (stored_lines ws) ws (run_of words ws) (streams_next words ws block) [] [] r lines []

-- ---- flasknib_streams_row

unfoldable pub line_fault : List ℕ → ℕ → List ℕ → List ℕ → Option Refusal
line_fault words i ws zeroth = or_else (words_fault words ws) (row_fault (run_of words ws) i zeroth)

-- request L1, the rows: 16, 9, 10, 12; or the row of line i
abbrev pub WritesStreams : List ℕ → ℕ → List ℕ → List ℕ → List ℕ → ℤ → List ℕ → Type 0
WritesStreams words i ws zeroth old r out =
    Gives length_code
    (line_fault words i ws zeroth)
    (row_of (run_of words ws) i zeroth)
    old r out
