-- A call for one block, which writes what the block prints: a writer's answer, and the state after it.
use Rattle.answers.specs.declared.Unwritten.{Unwritten}
use Rattle.std.specs.Prelude.{◌≡◌, List, ℕ, Option, Some, None, Result, Ok, Err}
use Rattle.answers.specs.Writers.{Wrote, written, RoomFor}
use Rattle.answers.specs.declared.Refusal.{Refusal}

-- what a block brings: the next state, or a refusal
pub data Next (A : Type 0) : Type 0 where
  goes : A → Next A
  refuses : Refusal → Next A

-- its refusal, as a writer's
abbrev pub fault_in : {A : Type 0} → Next A → Option Refusal
fault_in (goes next) = None
fault_in (refuses refusal) = Some refusal

-- the state after the call: the next one where its bytes were written, else the one that was given
abbrev pub state_after : {A : Type 0} → A → Next A → Result ℕ Unwritten → A
state_after given (goes next) (Ok n) = next
state_after given (goes next) (Err why) = given
state_after given (refuses refusal) answer = given

-- `answer`, `state` and `out` are what the call gives on a block that brings `next` and prints `bytes`
pub record Stepped {A : Type 0} (given : A) (next : Next A) (bytes old : List ℕ) (answer : Result ℕ Unwritten) (state : A) (out : List ℕ) : Type 0 where
  pub wrote : Wrote (fault_in next) bytes old answer out
  pub after : state ≡ state_after given next answer

-- 12 says how much room is missing: where the call's answer is 12 with n, the same call with an output of exactly n bytes brings the next state and changes all of
-- them to the bytes that the block prints, and with any fewer bytes it gives 12 with the same n
pub record RoomForStep {A : Type 0} (given : A) (next : Next A) (bytes : List ℕ) (n : ℕ) : Type 0 where
  pub brings : A
  pub does : next ≡ goes brings
  pub room : RoomFor (fault_in next) bytes n

abbrev pub StepRoomIsExact : Type 1
StepRoomIsExact = (A : Type 0) (given : A) (next : Next A) (bytes old : List ℕ) (n : ℕ) → written (fault_in next) bytes old ≡ Err (Unwritten.Room n) → RoomForStep given next bytes n
