-- What the whole run prints, block by block, and that the calls for one block each print it. Assumes nothing.
use Rattle.std.specs.Prelude.{Result, Ok, Err}
use Rattle.answers.specs.declared.Refusal.{Refusal}
use mathlib.Core.Path.{◌≡◌, refl, ap, ◌∙◌, subst, subst⁻¹}
use mathlib.Core.List.{List, ◌∷◌}
use Prim.Native.Nat.{ℕ, suc}
use Rattle.table.specs.Lines.{head_bytes}
use Rattle.walk.specs.Blocks.{blocks_of}
use Rattle.walk.specs.Pieces.{Octets}
use Rattle.walk.specs.Steps.{Next, goes, refuses}
use Rattle.walk.specs.Programs.{Printed, both, to_output, Run as Runs, turned, onward, walk, walked, closed, printed_by}
use Rattle.walk.specs.Singles.{Starts, Turns, Mirrors}
use Rattle.walk.proofs.Walks.{closed_goes}
use Rattle.walk.proofs.Singles.{singles_print}
use Rattle.convert.specs.declared.Run.{Run}
use Rattle.convert.specs.Runs.{row_in, row_of, start_of, next_of}
use Rattle.convert.specs.Tables.{Kept, begun, taken, ecntable, printed}
use Rattle.convert.specs.Theorems.{started_on, next_on, block_calls, CallsPrint}
use Rattle.convert.proofs.Steps.{call_sound}
use Rattle.convert.proofs.Kept.{Good, sound_good, next_good, start_good}
use Rattle.convert.proofs.Followed.{short_turn}

abbrev pub kept : Run → List ℕ → Kept
kept run zeroth = record { run = run; zeroth = zeroth }

-- what is printed from block i on
abbrev pub rest : ℕ → List (List ℕ) → Run → List ℕ → Printed
rest i bs run zeroth = closed ecntable (walk ecntable i bs (kept run zeroth))

-- a block that is refused ends the run, and one that is not is followed by the rest
module _ (zeroth : List ℕ) (i : ℕ) (b : List ℕ) (bs : List (List ℕ)) (run : Run) where
  more : Kept → Runs Kept
  more = walk ecntable (suc i) bs

  by_next : {next : Next Run} → next_of run b ≡ next → rest i (b ∷ bs) run zeroth ≡ closed ecntable (onward (turned i (taken (kept run zeroth) next)) more)
  unfolding walk more
  by_next e = ap (λ (n : Next Run). closed ecntable (onward (turned i (taken (kept run zeroth) n)) (walk ecntable (suc i) bs))) e

  pub rest_goes : {next : Run} → next_of run b ≡ goes next → rest i (b ∷ bs) run zeroth ≡ both (to_output (row_of next zeroth)) (rest (suc i) bs next zeroth)
  unfolding more
  rest_goes {next} e = by_next e ∙ closed_goes ecntable (turned i (taken (kept run zeroth) (goes next))) more refl

-- what is printed by what block 0 does
printed_by_lem : (trace : List ℕ) (r : Result Run Refusal) → start_of (blocks_of trace).zeroth ≡ r
    → printed trace ≡ closed ecntable (onward (turned 0 (begun (blocks_of trace).zeroth r)) (walk ecntable 1 (blocks_of trace).others))
unfolding printed printed_by walked
printed_by_lem trace r e = ap (λ (r : Result Run Refusal). closed ecntable (onward (turned 0 (begun (blocks_of trace).zeroth r)) (walk ecntable 1 (blocks_of trace).others))) e

pub printed_started : (trace : List ℕ) (run : Run) → start_of (blocks_of trace).zeroth ≡ Ok run
    → printed trace ≡ both (to_output head_bytes) (rest 1 (blocks_of trace).others run (blocks_of trace).zeroth)
printed_started trace run e =
    printed_by_lem trace (Ok run) e
    ∙ closed_goes ecntable (turned 0 (begun (blocks_of trace).zeroth (Ok run))) (walk ecntable 1 (blocks_of trace).others) refl

-- ---- the calls for one block each

-- what they hand on is the program's state, and is sound
abbrev Same : Kept → Kept → Type 0
Same k s = (k ≡ s) × Good k.run k.zeroth

starts : (b : List ℕ) (r : Result Run Refusal) → start_of b ≡ r → Starts Same block_calls ecntable (begun b r) (started_on b r) × ((begun b r).printed ≡ to_output head_bytes)
starts b (Ok run) e = (((refl, start_good b run e), refl), refl)
starts b (Err refusal) e = ((refl, refl), refl)

turns : (k : Kept) (b : List ℕ) → Good k.run k.zeroth → Octets b → (n : Next Run) → next_of k.run b ≡ n
    → Turns Same k k (row_in k.zeroth n) (taken k n) (next_on k.zeroth n)
turns k b g o (goes next) e = ((refl, next_good k.run k.zeroth b next o g e), refl, refl)
turns k b g o (refuses refusal) e = refl

pub mirrors : Mirrors block_calls ecntable
mirrors = record {
  Stands = Same;
  starts = λ b o. starts b (start_of b) refl;
  turns = λ i k s b same o.
      subst (λ (s : Kept). Turns Same k s (block_calls.bytes k b) (ecntable.step i s b) (block_calls.next k b)) same.0
      (subst⁻¹ (λ (n : Next Run). Turns Same k k (row_in k.zeroth n) (taken k (next_of k.run b)) (next_on k.zeroth n))
      (call_sound k.run k.zeroth b (sound_good same.1))
      (turns k b same.1 o (next_of k.run b) refl));
  ends = λ k s e same. refl;
  parts = λ i s b more less. short_turn i s b less;
}

pub calls_print : CallsPrint
unfolding printed
calls_print trace q o few session = singles_print Kept Kept block_calls ecntable trace q mirrors o few session
