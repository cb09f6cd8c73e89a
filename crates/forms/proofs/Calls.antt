-- The calls for one block each give what the whole run prints. Assumes nothing.
use Rattle.std.specs.Prelude.{Result, Ok, Err}
use Rattle.answers.specs.declared.Refusal.{Refusal}
use mathlib.Core.Path.{◌≡◌, refl, ap, ◌∙◌, subst, subst⁻¹}
use mathlib.Core.List.{List, [], ◌∷◌}
use Prim.Native.Nat.{ℕ, ◌≤◌}
use native.Mathlib.Omega.{arith}
use lib.ListN.{length}
use Rattle.format.specs.Blocks.{block_bytes, body_bytes}
use Rattle.format.specs.Forms.{shape_of}
use Rattle.format.specs.declared.Form.{Form}
use Rattle.format.proofs.Fits.{fits, records_fit}
use Rattle.trace.specs.Places.{zeroth_of}
use Rattle.trace.specs.declared.Zeroth.{Zeroth}
use Rattle.trace.specs.declared.Record.{Record}
use Rattle.trace.proofs.Layouts.{length-arrivals_block}
use Rattle.walk.specs.Programs.{to_output, Turn}
use Rattle.walk.specs.Pieces.{Octets}
use Rattle.walk.specs.Steps.{Next, goes, refuses}
use Rattle.walk.specs.Singles.{Starts, Turns as TurnsAs, Mirrors}
use Rattle.walk.proofs.Singles.{singles_print}
use Rattle.forms.specs.Packing.{last_block}
use Rattle.forms.specs.Conversions.{begin_bytes, next_of, bytes_in, Carried, carries, carried_by, call_next}
use Rattle.forms.specs.Converted.{Kept, kept_of, begun, ecnforms, converted}
use Rattle.forms.specs.Pieces.{end_by}
use Rattle.forms.specs.Theorems.{started_on, block_calls, CallsConvert}
use Rattle.forms.specs.declared.Conversion.{Conversion}
use Rattle.forms.proofs.Held.{sound_is}
use Rattle.forms.proofs.Steps.{call_sound}
use Rattle.forms.proofs.Carrying.{Holds, holds_none, kept_none, turn_goes, turn_refuses}
use Rattle.forms.proofs.Followed.{Fit, no_fault, part_refused}

pub last_long : (form : Form) (ssrc : ℕ) (rs : List Record) → length rs ≤ (shape_of form).most → length (last_block (shape_of form) ssrc rs) ≤ block_bytes
last_long form ssrc [] h = omega arith
last_long form ssrc (r ∷ rs) h = omega (arith, length-arrivals_block (shape_of form) (r ∷ rs) ssrc (records_fit (fits form) h))

-- block 0
module _ (part : List ℕ) (room : body_bytes ≤ length part) where
  starts : (b : List ℕ) (z : Result Zeroth Refusal) → Starts Fit (block_calls part) ecnforms (begun b z) (started_on part z) × ((begun b z).printed ≡ to_output (begin_bytes b z))
  starts b (Ok label) = (((holds_none label.form label.ssrc part room, kept_none label.form label.ssrc part), refl), refl)
  starts b (Err refusal) = ((refl, refl), refl)

-- a later block, by what it brings
module _ (c : Conversion) (part b : List ℕ) (h : Holds c part) (o : Octets b) (i : ℕ) where
  abbrev brought : Next (List Record)
  brought = next_of c.form c.ssrc b

  turns_by : (n : Next Carried) → carried_by c part brought ≡ n → TurnsAs Fit (carries c part) (kept_of c part) (bytes_in c part brought) (ecnforms.step i (kept_of c part) b) n
  turns_by (goes s) e =
      let turns = turn_goes h b o e in
      subst⁻¹ (λ (t : Turn Kept). TurnsAs Fit (carries c part) (kept_of c part) (bytes_in c part brought) t (goes s)) (turns.turn i) ((turns.holds, refl), refl, refl)
  turns_by (refuses refusal) e = turn_refuses c part b e i

  turns : (next : Next (List Record)) → next ≡ brought
      → TurnsAs Fit (carries c part) (kept_of c part) (bytes_in c part next) (ecnforms.step i (kept_of c part) b) (carried_by c part next)
  turns next e =
      subst⁻¹ (λ (n : Next (List Record)). TurnsAs Fit (carries c part) (kept_of c part) (bytes_in c part n) (ecnforms.step i (kept_of c part) b) (carried_by c part n)) e
      (turns_by (carried_by c part brought) refl)

mirrors : (part : List ℕ) → body_bytes ≤ length part → Mirrors (block_calls part) ecnforms
mirrors part room = record {
  Stands = Fit;
  starts = λ b o. starts part room b (zeroth_of b);
  turns = λ i s k b fit o.
      let c = s.conversion in
      subst (λ (k : Kept). TurnsAs Fit s k ((block_calls part).bytes s b) (ecnforms.step i k b) ((block_calls part).next s b)) fit.1
      (turns c s.part b fit.0 o i (call_next c s.part b) (call_sound c s.part b (sound_is fit.0.sound)));
  ends = λ s k e fit.
      ap (end_by (ecnforms.close (kept_of s.conversion s.part) e)) (no_fault fit.0) ∙ ap (λ (k : Kept). ecnforms.close k e) fit.1;
  parts = part_refused;
}

pub calls_convert : CallsConvert
unfolding converted
calls_convert part trace q room o few session = singles_print Carried Kept (block_calls part) ecnforms trace q (mirrors part room) o few session
