-- A call for one block (specs/Steps) that writes into a lent output from a place on: by its answer, what the block brings, and the output after it.
use Rattle.answers.specs.declared.Unwritten.{Unwritten}
use Rattle.std.specs.Prelude.{◌≡◌, List, ℕ, ◌+◌, ◌≤◌, ◌<◌, length, Result, Ok, Err}
use Rattle.std.proofs.lemmas.List.Edits.{sets}
use Rattle.answers.specs.declared.Refusal.{Refusal}
use Rattle.walk.specs.Steps.{Next, goes, refuses}

pub record WasPut {A : Type 0} (next : Next A) (bytes old : List ℕ) (at n : ℕ) (state : A) (out : List ℕ) : Type 0 where
  pub does : next ≡ goes state
  pub long : n ≡ length bytes
  pub room : at + n ≤ length old
  pub stores : out ≡ sets old at bytes

pub record NoRoom {A : Type 0} (next : Next A) (bytes old : List ℕ) (at : ℕ) (out : List ℕ) : Type 0 where
  pub brings : A
  pub does : next ≡ goes brings
  pub room : length old < at + length bytes
  pub stores : out ≡ old

pub record WasRefused {A : Type 0} (next : Next A) (refusal : Refusal) (old out : List ℕ) : Type 0 where
  pub does : next ≡ refuses refusal
  pub stores : out ≡ old

abbrev pub PutBy : {A : Type 0} → Next A → List ℕ → List ℕ → ℕ → A → List ℕ → Result ℕ Unwritten → Type 0
PutBy next bytes old at state out (Ok n) = WasPut next bytes old at n state out
PutBy next bytes old at state out (Err (Unwritten.Room n)) = NoRoom next bytes old at out
PutBy next bytes old at state out (Err (Unwritten.Refused refusal)) = WasRefused next refusal old out
