-- What a function of a run answers that takes one block, and what it leaves in what it was lent. The run, or whatever stands between two blocks, is a state in
-- lent words.
use Rattle.answers.specs.declared.Unwritten.{Unwritten}
use Rattle.std.specs.Prelude.{◌≡◌, List, ℕ, Result, Ok, Err}
use Rattle.answers.specs.Writers.{written, stored}
use Rattle.walk.specs.Steps.{Next, fault_in, state_after}

-- the words after the call: those of the next state where its bytes were written; a refusal, 12 too, leaves the words as they were
abbrev pub words_after : List ℕ → List ℕ → Result ℕ Unwritten → List ℕ
words_after words next (Ok n) = next
words_after words next (Err why) = words

-- `next` is what the block brings to the state `given`, `bytes` what it prints
pub record Takes {R A : Type 0} (code : Result ℕ Unwritten → R) (words_of : A → List ℕ) (words : List ℕ) (given : A) (next : Next A)
    (bytes old : List ℕ) (r : R) (left out : List ℕ) : Type 0 where
  pub answers : r ≡ code (written (fault_in next) bytes old)
  pub keeps : left ≡ words_after words (words_of (state_after given next (written (fault_in next) bytes old))) (written (fault_in next) bytes old)
  pub stores : out ≡ stored (fault_in next) bytes old
