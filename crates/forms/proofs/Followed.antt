-- The calls follow the program, so that what they print, joined, is what it prints. Assumes nothing.
use Rattle.std.specs.Prelude.{Option, Some, None, Result, Ok, Err}
use mathlib.Core.Path.{◌≡◌, refl, sym, ap, ◌∙◌, subst, subst⁻¹}
use mathlib.Core.Bool.{Bool, true, false, cond}
use mathlib.Core.List.{List, [], ◌∷◌}
use Prim.Native.Nat.{ℕ, suc, ◌+◌, ◌-◌, ◌^◌, ◌≤◌, ◌<◌}
use native.Mathlib.Omega.{arith}
use lib.Dec.{ltb}
use lib.ListN.{length, take}
use Rattle.answers.specs.declared.Refusal.{Refusal}
use Rattle.answers.specs.declared.Refusal.TheVariants.{Incomplete}
use Rattle.format.specs.Blocks.{block_bytes, body_bytes}
use Rattle.format.specs.declared.Form.TheVariants.{One}
use Rattle.trace.specs.Places.{zeroth_of}
use Rattle.trace.specs.declared.Record.{Record}
use Rattle.trace.specs.declared.Zeroth.{Zeroth}
use Rattle.trace.proofs.Placed.{later_short}
use Rattle.walk.specs.Programs.{nothing, to_output, Turn}
use Rattle.walk.specs.Pieces.{Octets, wholes, whole_in}
use Rattle.walk.specs.Fitting.{Took, none_taken, one_more, fitting}
use Rattle.walk.specs.Steps.{Next, goes, refuses}
use Rattle.walk.specs.Endings.{is_going}
use Rattle.walk.specs.Machines.{Standing, begun_by, fitting_by, ending_by, goes_on, Gives, Follows}
use Rattle.walk.proofs.Cuts.{Each}
use Rattle.walk.proofs.Pieces.{whole_many, octets_wholes}
use Rattle.walk.proofs.Fits.{fitting_fits, fitting_quiet}
use Rattle.walk.proofs.Standing.{ended_back, number_small}
use Rattle.walk.proofs.Sessions.{fitting_gives, session_prints}
use Rattle.forms.specs.declared.Conversion.{Conversion}
use Rattle.forms.specs.declared.pieces.Progress.{Progress}
use Rattle.forms.specs.Conversions.{next_of, Carried, carries, carried_by, close_fault}
use Rattle.forms.specs.Converted.{Kept, kept_of, begun, taken, ecnforms, converted}
use Rattle.forms.specs.Pieces.{progress_by, progress_of, standing, took_of, carried_over, carried_with, end_of, end_by, Held, gave_by, calls, TracePrints}
use Rattle.forms.proofs.Held.{sound_is}
use Rattle.forms.proofs.Steps.{next_refused}
use Rattle.forms.proofs.Carrying.{Holds, holds_none, kept_none, turn_goes, turn_refuses}

-- ---- what is carried behind the blocks that are taken stands for the program's state

abbrev pub Fit : Carried → Kept → Type 0
Fit s k = Holds s.conversion s.part × (kept_of s.conversion s.part ≡ k)

module _ (i : ℕ) (b : List ℕ) (bs : List (List ℕ)) (c : Conversion) (part : List ℕ) (room : ℕ) (h : Holds c part) where
  abbrev FitsBy : Took Kept → Type 0
  FitsBy w = Fit (carried_over (carries c part) (take w.taken (b ∷ bs))) w.state

  -- what is taken by the block's turn, and the blocks behind it
  abbrev took_at : Turn Kept → Took Kept → Bool → Took Kept
  took_at t behind small = cond small (none_taken (kept_of c part)) (one_more t t.refusal behind)

  module _ (t : Turn Kept) (behind : Took Kept) where
    fits_refused : (refusal : Refusal) → t ≡ record { state = kept_of c part; printed = nothing; refusal = Some refusal } → (small : Bool) → FitsBy (took_at t behind small)
    unfolding carried_over
    fits_refused refusal e true = (h, refl)
    fits_refused refusal e false = subst⁻¹ (λ (t : Turn Kept). FitsBy (took_at t behind false)) e (h, refl)

    fits_taken : (s : Carried) (bytes : List ℕ) → t ≡ record { state = kept_of s.conversion s.part; printed = to_output bytes; refusal = None }
        → carried_over (carries c part) (b ∷ take behind.taken bs) ≡ carried_over s (take behind.taken bs) → Fit (carried_over s (take behind.taken bs)) behind.state
        → (small : Bool) → FitsBy (took_at t behind small)
    unfolding carried_over
    fits_taken s bytes e same f true = (h, refl)
    fits_taken s bytes e same f false =
        subst⁻¹ (λ (t : Turn Kept). FitsBy (took_at t behind false)) e (subst⁻¹ (λ (s : Carried). Fit s behind.state) same f)

carried_fits : (i : ℕ) (bs : List (List ℕ)) (c : Conversion) (part : List ℕ) (room : ℕ) → Holds c part → Each Octets bs
    → let w = fitting ecnforms i bs (kept_of c part) room in Fit (carried_over (carries c part) (take w.taken bs)) w.state
unfolding fitting carried_over
carried_fits i [] c part room h o = (h, refl)
carried_fits i (b ∷ bs) c part room h o =
    go (carried_by c part (next_of c.form c.ssrc b)) refl (λ s g. carried_fits (suc i) bs s.conversion s.part (room - length t.printed.out) g o.1)
  where
    t : Turn Kept
    t = ecnforms.step i (kept_of c part) b

    behind : Kept → Took Kept
    behind k = fitting ecnforms (suc i) bs k (room - length t.printed.out)

    go : (n : Next Carried) → carried_by c part (next_of c.form c.ssrc b) ≡ n
        → ((s : Carried) → Holds s.conversion s.part
        → Fit (carried_over s (take (behind (kept_of s.conversion s.part)).taken bs)) (behind (kept_of s.conversion s.part)).state)
        → FitsBy i b bs c part room h (took_at i b bs c part room h t (behind t.state) (ltb room (length t.printed.out)))
    go (refuses refusal) e later = fits_refused i b bs c part room h t (behind t.state) refusal (turn_refuses c part b e i) (ltb room (length t.printed.out))
    go (goes s) e later =
        let turns = turn_goes h b o.0 e in
        let turn = turns.turn i in
        let same = ap (λ (t : Turn Kept). behind t.state) turn in
        fits_taken i b bs c part room h t (behind t.state) s _ turn
        (ap (λ (s : Carried). carried_over s (take (behind t.state).taken bs)) turns.after)
        (subst⁻¹ (λ (w : Took Kept). Fit (carried_over s (take w.taken bs)) w.state) same (later s turns.holds))
        (ltb room (length t.printed.out))

-- ---- between two calls

pub record Stands (h : Held) (s : Standing Kept) : Type 0 where
  pub holds : Holds h.progress.conversion h.part
  pub is : standing h.progress h.part ≡ s

pub no_fault : {c : Conversion} {part : List ℕ} → Holds c part → close_fault c part ≡ None
unfolding close_fault
no_fault h = rw (sound_is h.sound)

-- a block prints nothing on standard error
quiet : (i : ℕ) (k : Kept) (b : List ℕ) → (ecnforms.step i k b).printed.err ≡ []
quiet i k b = go (next_of k.form k.ssrc b)
  where
    go : (n : Next (List Record)) → (taken k n).printed.err ≡ []
    go (goes records) = refl
    go (refuses refusal) = refl

going_is : (e : Option Refusal) → is_going e ≡ goes_on e
going_is None = refl
going_is (Some refusal) = refl

-- block 0
begins : (lent b : List ℕ) → body_bytes ≤ length lent
    → Stands (record { progress = progress_of b; part = lent }) (begun_by (ecnforms.begin b)) × (to_output (ecnforms.begin b).printed.out ≡ (ecnforms.begin b).printed)
unfolding progress_of
begins lent b room = go (zeroth_of b)
  where
    go : (z : Result Zeroth Refusal) → Stands (record { progress = progress_by (begun b z); part = lent }) (begun_by (begun b z)) × (to_output (begun b z).printed.out ≡ (begun b z).printed)
    go (Ok label) =
        (record { holds = holds_none label.form label.ssrc lent room; is = ap (λ (k : Kept). record { state = k; block = 1; refusal = None }) (kept_none label.form label.ssrc lent) }, refl)
    go (Err refusal) =
        (record { holds = holds_none One 0 lent room; is = ap (λ (k : Kept). record { state = k; block = 0; refusal = Some refusal }) (kept_none One 0 lent) }, refl)

-- a piece, by how the run stands
module _ (lent : List ℕ) (c : Conversion) (block : ℕ) (part piece : List ℕ) (room : ℕ) (h : Holds c part) (o : Octets piece) (few : block + wholes piece < 2 ^ 64) where
  abbrev at : Option Refusal → Held
  at e = record { progress = record { conversion = c; block = block; ended = e }; part = part }

  gives : (e : Option Refusal)
      → Gives Stands (standing (at e).progress part) (fitting_by ecnforms (standing (at e).progress part) e piece room) ((calls lent).blocks (at e) piece room)
  unfolding took_of carried_with carried_over
  gives None =
      let w = fitting ecnforms block (whole_in piece) (kept_of c part) room in
      let s = carried_over (carries c part) (take w.taken (whole_in piece)) in
      let f = carried_fits block (whole_in piece) c part room h (octets_wholes piece o) in
      let most = (fitting_fits Kept ecnforms block (whole_in piece) (kept_of c part) room).1 in
      let number = number_small block w.taken (omega (arith, few, most, whole_many piece)) in
      subst⁻¹ (λ (fault : Option Refusal). Gives Stands (standing (at None).progress part) w (gave_by (at None) s w fault)) (no_fault h)
      (record {
        stands = record { holds = f.0; is = λ i. record { state = f.1 i; block = number i; refusal = ended_back w.refusal i } };
        taken = refl;
        printed = ap (λ (err : List ℕ). record { out = w.printed.out; err = err }) (sym (fitting_quiet ecnforms quiet block (whole_in piece) (kept_of c part) room));
      })
  gives (Some refusal) =
      let number = number_small block 0 (omega (arith, few)) in
      record {
        stands = record { holds = h; is = ap (λ (n : ℕ). record { state = kept_of c part; block = n; refusal = Some refusal }) number };
        taken = refl;
        printed = refl;
      }

-- the end
ends : (p : Progress) (part rest : List ℕ) → Holds p.conversion part
    → end_by (end_of p part rest) (close_fault p.conversion part) ≡ ecnforms.close (kept_of p.conversion part) (ending_by p.block p.ended rest)
unfolding end_of
ends p part rest h = ap (end_by (end_of p part rest)) (no_fault h)

-- a part of a block
pub part_refused : (i : ℕ) (k : Kept) (b : List ℕ) → 1 ≤ length b → length b < block_bytes → ecnforms.step i k b ≡ record { state = k; printed = nothing; refusal = Some Incomplete }
part_refused i k b some_left short = ap (taken k) (next_refused k.form k.ssrc b (later_short k.form k.ssrc b (λ e. omega arith)))

follows : (lent : List ℕ) → body_bytes ≤ length lent → Follows (calls lent) ecnforms
follows lent room = record {
  Stands = Stands;
  going = λ h s stands. going_is h.progress.ended ∙ ap (λ (s : Standing Kept). goes_on s.refusal) stands.is;
  begins = λ b o. begins lent b room;
  takes = λ h s piece room stands o few.
      fitting_gives ecnforms s s.refusal piece room
      (subst (λ (s : Standing Kept). s.block + wholes piece < 2 ^ 64 → Gives Stands s (fitting_by ecnforms s s.refusal piece room) ((calls lent).blocks h piece room)) stands.is
      (λ few. gives lent h.progress.conversion h.progress.block h.part piece room stands.holds o few h.progress.ended) few);
  ends = λ h s rest stands.
      ends h.progress h.part rest stands.holds ∙ ap (λ (s : Standing Kept). ecnforms.close s.state (ending_by s.block s.refusal rest)) stands.is;
  parts = part_refused;
}

pub trace_prints : TracePrints
unfolding converted
trace_prints part trace q room o few session = session_prints Held Kept (calls part) ecnforms trace q (follows part room) o few session
