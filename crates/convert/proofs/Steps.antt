-- What a block does to a run, case by case. Assumes nothing.
use Rattle.std.specs.Prelude.{Result, Ok}
use Rattle.answers.specs.declared.Refusal.{Refusal}
use mathlib.Core.Path.{◌≡◌, ap}
use mathlib.Core.Bool.{true, false}
use mathlib.Core.List.{List}
use Prim.Native.Nat.{ℕ}
use Rattle.answers.specs.declared.Refusal.TheVariants.{Malformed}
use Rattle.format.specs.declared.Form.{Form}
use Rattle.trace.specs.Reading.{block_of}
use Rattle.trace.specs.Places.{zeroth_of, later_of}
use Rattle.trace.specs.declared.Block.TheVariants as read
use Rattle.trace.specs.declared.Zeroth.{Zeroth}
use Rattle.trace.proofs.Placed.{zeroth_by_lem}
use Rattle.walk.specs.Steps.{refuses}
use Rattle.convert.specs.declared.Run.{Run}
use Rattle.convert.specs.Runs.{sound_run, start_by, start_of, next_by, next_of, call_next}

-- ---- block 0

module _ (b : List ℕ) where
  pub start_by_lem : {r : Result Zeroth Refusal} → zeroth_of b ≡ r → start_of b ≡ start_by r
  unfolding start_of
  start_by_lem e = ap start_by e

  pub start_label : {form : Form} {n ssrc : ℕ} → block_of b ≡ Ok (read.Label form n ssrc) → start_of b ≡ start_by (Ok (record { form = form; length = n; ssrc = ssrc }))
  start_label e = start_by_lem (zeroth_by_lem b e)

-- ---- a later block

pub next_by_lem : (run : Run) (b : List ℕ) {r : Result ℕ Refusal} → later_of run.form run.ssrc b ≡ r → next_of run b ≡ next_by run b r
unfolding next_of
next_by_lem run b e = ap (next_by run b) e

module _ (run : Run) (zeroth b : List ℕ) where
  pub call_malformed : sound_run run zeroth ≡ false → call_next run zeroth b ≡ refuses Malformed
  unfolding call_next
  call_malformed e = rw e

  pub call_sound : sound_run run zeroth ≡ true → call_next run zeroth b ≡ next_of run b
  unfolding call_next
  call_sound e = rw e
