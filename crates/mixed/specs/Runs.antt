-- The calls of a run of ecnstreams on block 0 and on later blocks. `ws` are the lent words.
use Rattle.answers.specs.declared.Unwritten.{Unwritten}
use Rattle.answers.specs.declared.Refusal.{Refusal}
use Rattle.std.specs.Prelude.{ℕ, ◌*◌, Bool, cond, List, [], ◌∷◌, leb, length, Result, Ok, Err}
use Rattle.std.proofs.lemmas.List.Edits.{sets}
use Rattle.answers.specs.Conditions.{all}
use Rattle.answers.specs.Writers.{written}
use Rattle.answers.specs.declared.Refusal.TheVariants.{Malformed, Contents}
use Rattle.trace.specs.Reading.{block_of}
use Rattle.trace.specs.declared.Block.{Block}
use Rattle.trace.specs.declared.Block.TheVariants as read
use Rattle.walk.specs.Blocks.{joined}
use Rattle.walk.specs.Steps.{Next, goes, refuses, fault_in, state_after, Stepped}
use Rattle.mixed.specs.declared.Run.{Run}
use Rattle.mixed.specs.declared.Step.{Step}
use Rattle.mixed.specs.Lines.{lines_in, in_words}
use Rattle.mixed.specs.Blocks.{most_lines, next_of}

-- ---- block 0: a label, whose SSRC binds nothing

-- 14 for arrivals
abbrev pub start_by : Result Block Refusal → Result Run Refusal
start_by (Ok (read.Label form n ssrc)) = Ok (record { form = form; length = n; held = 0 })
start_by (Ok (read.Arrivals form n ssrc)) = Err Contents
start_by (Err refusal) = Err refusal

unfoldable pub start_of : List ℕ → Result Run Refusal
start_of zeroth = start_by (block_of zeroth)

-- ---- the call on a later block: 9, the block's refusal, 9 for the line of its SSRC, 15

-- words for 16 lines, and at most so many held
abbrev pub run_conditions : Run → List ℕ → List Bool
run_conditions run ws = leb (13 * most_lines) (length ws) ∷ leb run.held most_lines ∷ []

unfoldable pub sound_run : Run → List ℕ → Bool
sound_run run ws = all (run_conditions run ws)

-- 9 first of all
unfoldable pub call_next : Run → List ℕ → List ℕ → Next (List (List ℕ))
call_next run ws b = cond (sound_run run ws) (next_of in_words run.form b (lines_in run.held ws)) (refuses Malformed)

-- what is carried from block to block: the run and the lent words
pub record Carried : Type 0 where
  pub run : Run
  pub words : List ℕ

abbrev pub carries : Run → List ℕ → Carried
carries run ws = record { run = run; words = ws }

-- the lines behind a block are held then, in the words from the front on
abbrev pub holding : Run → List (List ℕ) → Run
holding run ls = record { form = run.form; length = run.length; held = length ls }

abbrev pub carried_by : Run → List ℕ → Next (List (List ℕ)) → Next Carried
carried_by run ws (goes ls) = goes (carries (holding run ls) (sets ws 0 (joined ls)))
carried_by run ws (refuses refusal) = refuses refusal

-- the call on a block that brings `next` prints nothing, and answers as a writer of no bytes; a refusal leaves what is carried as it was
abbrev pub answer_of : Run → List ℕ → Next (List (List ℕ)) → Result ℕ Unwritten
answer_of run ws next = written (fault_in (carried_by run ws next)) [] []

abbrev pub after_of : Run → List ℕ → Next (List (List ℕ)) → Carried
after_of run ws next = state_after (carries run ws) (carried_by run ws next) (answer_of run ws next)

-- by the run behind the block, or why that is refused
abbrev pub step_of : Run → Result Run Refusal → Step
step_of run (Ok next) = record { answer = Ok 0; run = next }
step_of run (Err refusal) = record { answer = Err (Unwritten.Refused refusal); run = run }

-- `r` and `kept` are what it gives
abbrev pub TakesBlock : Run → List ℕ → Next (List (List ℕ)) → Step → List ℕ → Type 0
TakesBlock run ws next r kept = Stepped (carries run ws) (carried_by run ws next) [] [] r.answer (carries r.run kept) []
