-- The answers of include/flasknib.h as numbers: a refusal is its number in documents 01 and 02, negative where a length could stand.
use Rattle.answers.specs.declared.Unwritten.{Unwritten}
use Rattle.std.specs.Prelude.{◌≡◌, ℕ, ◌+◌, ◌*◌, List, ℤ, pos, neg_ℤ, Option, Result, Ok, Err}
use Rattle.answers.specs.declared.Refusal.{Refusal}
use Rattle.answers.specs.Refusals.{number_of, room_number}
use Rattle.answers.specs.Numbered.{written_as}
use Rattle.answers.specs.Writers.{written, stored}

-- a writer's length, or minus its refusal; with 12 the bytes that it would write, 256 times
abbrev pub length_code : Result ℕ Unwritten → ℤ
length_code (Ok n) = pos n
length_code (Err (Unwritten.Room n)) = neg_ℤ (pos (256 * n + room_number))
length_code (Err (Unwritten.Refused refusal)) = neg_ℤ (pos (number_of refusal))

-- 0, or a refusal: the paper's number
abbrev pub refusal_code : Result ℕ Unwritten → ℕ
refusal_code answer = (written_as answer).number

-- what a function answers, and leaves in the lent output `old`, that puts the bytes or words `new` at its front; `fault` is the refusal of its
-- values, if there is one
pub record Gives {A : Type 0} (code : Result ℕ Unwritten → A) (fault : Option Refusal) (new old : List ℕ) (r : A) (out : List ℕ) : Type 0 where
  pub answers : r ≡ code (written fault new old)
  pub stores : out ≡ stored fault new old

-- what a function answers, and leaves in the place of the words that it was lent
pub record Leaves {A : Type 0} (answer : A) (next : List ℕ) (r : A) (out : List ℕ) : Type 0 where
  pub answers : r ≡ answer
  pub stores : out ≡ next
