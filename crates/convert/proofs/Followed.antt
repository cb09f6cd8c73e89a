-- The calls over a trace follow the program ecntable. Assumes nothing.
use Rattle.std.specs.Prelude.{Option, Some, None, Result, Ok, Err}
use Rattle.answers.specs.declared.Refusal.{Refusal}
use mathlib.Core.Path.{◌≡◌, refl, sym, ap, ◌∙◌, subst}
use mathlib.Core.Bool.{true}
use mathlib.Core.List.{List, []}
use Prim.Native.Nat.{ℕ, ◌+◌, ◌^◌, ◌≤◌, ◌<◌}
use native.Mathlib.Omega.{arith}
use lib.ListN.{length}
use Rattle.answers.specs.declared.Refusal.TheVariants.{Incomplete}
use Rattle.format.specs.Blocks.{block_bytes}
use Rattle.trace.proofs.Placed.{later_short}
use Rattle.walk.specs.Programs.{nothing, to_output}
use Rattle.walk.specs.Steps.{Next, goes, refuses}
use Rattle.walk.specs.Pieces.{Octets, wholes, whole_in}
use Rattle.walk.specs.Fitting.{Took, fitting}
use Rattle.walk.specs.Endings.{is_going}
use Rattle.walk.specs.Machines.{Standing, begun_by, fitting_by, ending_by, goes_on, Gives, Follows}
use Rattle.walk.proofs.Pieces.{whole_many, octets_wholes}
use Rattle.walk.proofs.Fits.{fitting_fits, fitting_keeps, fitting_quiet, room_is_enough}
use Rattle.walk.proofs.Standing.{number_small}
use Rattle.walk.proofs.Sessions.{fitting_gives, session_prints}
use Rattle.convert.specs.declared.Run.{Run}
use Rattle.convert.specs.Runs.{sound_run, start_of, next_of}
use Rattle.convert.specs.Tables.{Kept, begun, taken, ecntable, printed}
use Rattle.table.specs.Lines.{head_bytes}
use Rattle.convert.specs.Pieces.{begin_by, begin_of, standing, took_of, piece_fault, end_of, Held, gave_by, calls, TracePrints, RowsHaveRoom}
use Rattle.table.specs.Theorems.{row_most}
use Rattle.convert.proofs.Kept.{good, sound_good, next_good, next_ssrc, row_long, start_good}
use Rattle.convert.proofs.Taking.{took_going}
use Rattle.convert.proofs.Steps.{next_by_lem}

-- ---- a block's turn

-- a part of a block is refused with 1
pub short_turn : (i : ℕ) (k : Kept) (b : List ℕ) → length b < block_bytes → ecntable.step i k b ≡ record { state = k; printed = nothing; refusal = Some Incomplete }
short_turn i k b h = ap (taken k) (next_by_lem k.run b (later_short k.run.form k.run.ssrc b (λ e. omega (arith, e))))

-- what is kept: the run is that of block 0
abbrev pub Sound : List ℕ → Kept → Type 0
Sound zeroth k = (sound_run k.run zeroth ≡ true) × (k.zeroth ≡ zeroth)

turn_keeps : (zeroth : List ℕ) (i : ℕ) (k : Kept) (b : List ℕ) → Sound zeroth k → Octets b → Sound zeroth (ecntable.step i k b).state
turn_keeps zeroth i k b s o = go (next_of k.run b) refl
  where
    go : (n : Next Run) → next_of k.run b ≡ n → Sound zeroth (taken k n).state
    go (goes next) e = (sound_good (next_good k.run zeroth b next o (good s.0) e), s.1)
    go (refuses refusal) e = s

pub turn_quiet : (i : ℕ) (k : Kept) (b : List ℕ) → (ecntable.step i k b).printed.err ≡ []
turn_quiet i k b = go (next_of k.run b)
  where
    go : (n : Next Run) → (taken k n).printed.err ≡ []
    go (goes next) = refl
    go (refuses refusal) = refl

-- ---- the calls

-- a held progress stands for the program's run; one that goes on is sound
record StandsFor (h : Held) (s : Standing Kept) : Type 0 where
  standing : standing h.progress h.zeroth ≡ s
  sound : h.progress.ended ≡ None → sound_run h.progress.run h.zeroth ≡ true

begins : (b : List ℕ) → StandsFor (calls.begin b).state (begun_by (ecntable.begin b)) × ((calls.begin b).printed ≡ (ecntable.begin b).printed)
unfolding begin_of
begins b = go (start_of b) refl
  where
    go : (r : Result Run Refusal) → start_of b ≡ r → StandsFor (record { progress = begin_by (begun b r); zeroth = b }) (begun_by (begun b r)) × (to_output head_bytes ≡ (begun b r).printed)
    go (Ok run) e = (record { standing = refl; sound = λ q. sound_good (start_good b run e) }, refl)
    go (Err refusal) e = (record { standing = refl; sound = λ q. let z : ◌≡◌ {A = ℕ} 0 1 = cc in absurd (omega arith) }, refl)

module _ (h : Held) (piece : List ℕ) (room : ℕ) (o : Octets piece) (few : h.progress.block + wholes piece < 2 ^ 64)
    (sound : h.progress.ended ≡ None → sound_run h.progress.run h.zeroth ≡ true) where
  abbrev here : Standing Kept
  here = standing h.progress h.zeroth

  gives_by : (e : Option Refusal) → h.progress.ended ≡ e
      → Gives StandsFor here (fitting_by ecntable here e piece room) (gave_by h (fitting_by ecntable here e piece room) (piece_fault h.progress h.zeroth e))
  gives_by (Some refusal) q =
      let number = number_small h.progress.block 0 (omega arith) in
      record {
        stands = record {
          standing = λ i. record { state = here.state; block = number i; refusal = Some refusal };
          sound = λ q. let z : ◌≡◌ {A = ℕ} 0 1 = cc in absurd (omega arith);
        };
        taken = refl;
        printed = refl;
      }
  gives_by None q =
      let w = fitting ecntable here.block (whole_in piece) here.state room in
      let small = (fitting_fits Kept ecntable here.block (whole_in piece) here.state room).1 in
      let number = number_small here.block w.taken (omega (arith, small, whole_many piece, few)) in
      let kept = fitting_keeps ecntable (Sound h.zeroth) (turn_keeps h.zeroth) here.block (whole_in piece) here.state room (sound q, refl) (octets_wholes piece o) in
      let quiet = fitting_quiet ecntable turn_quiet here.block (whole_in piece) here.state room in
      rw (sound q)
      (record {
        stands = record {
          standing = λ i. record { state = record { run = w.state.run; zeroth = sym kept.1 i }; block = number i; refusal = w.refusal };
          sound = λ q. kept.0;
        };
        taken = refl;
        printed = λ i. record { out = w.printed.out; err = sym quiet i };
      })

  gives : Gives StandsFor here (fitting_by ecntable here here.refusal piece room) (calls.blocks h piece room)
  unfolding took_of
  gives = gives_by h.progress.ended refl

going_by : (e : Option Refusal) → is_going e ≡ goes_on e
going_by None = refl
going_by (Some refusal) = refl

ends_as : (h : Held) (rest : List ℕ) → calls.end h rest ≡ ecntable.close (standing h.progress h.zeroth).state (ending_by h.progress.block h.progress.ended rest)
unfolding end_of
ends_as h rest = refl

pub follows : Follows calls ecntable
follows = record {
  Stands = StandsFor;
  going = λ h s st. going_by h.progress.ended ∙ ap (λ (s : Standing Kept). goes_on s.refusal) st.standing;
  begins = λ b o. begins b;
  takes = λ h s piece room st o few.
      fitting_gives ecntable s s.refusal piece room
      (subst (λ (s : Standing Kept). Gives StandsFor s (fitting_by ecntable s s.refusal piece room) (calls.blocks h piece room)) st.standing
      (gives h piece room o (omega (arith, few, ap (λ (s : Standing Kept). s.block) st.standing)) st.sound));
  ends = λ h s rest st. ends_as h rest ∙ ap (λ (s : Standing Kept). ecntable.close s.state (ending_by s.block s.refusal rest)) st.standing;
  parts = λ i s b more less. short_turn i s b less;
}

pub trace_prints : TracePrints
unfolding printed
trace_prints trace q o few session = session_prints Held Kept calls ecntable trace q follows o few session

-- ---- room for each row

abbrev pub Fit : List ℕ → Kept → Type 0
Fit zeroth k = Sound zeroth k × (k.run.ssrc < 2 ^ 32)

pub turn_fits : (zeroth : List ℕ) (i : ℕ) (k : Kept) (b : List ℕ) → Fit zeroth k → Octets b
    → (length (ecntable.step i k b).printed.out ≤ row_most) × Fit zeroth (ecntable.step i k b).state
turn_fits zeroth i k b s o = go (next_of k.run b) refl
  where
    go : (n : Next Run) → next_of k.run b ≡ n → (length (taken k n).printed.out ≤ row_most) × Fit zeroth (taken k n).state
    go (goes next) e =
        let g = next_good k.run zeroth b next o (good s.0.0) e in
        let small : next.ssrc < 2 ^ 32 = omega (arith, s.1, next_ssrc k.run b next e) in
        (row_long next k.zeroth small (rw s.0.1 g), ((sound_good g, s.0.1), small))
    go (refuses refusal) e = (omega arith, s)

pub rows_have_room : RowsHaveRoom
rows_have_room p zeroth piece room e small s o h r =
    let k : Kept = record { run = p.run; zeroth = zeroth } in
    let same = took_going p zeroth piece room e in
    ap (λ (w : Took Kept). w.taken) same
    ∙ room_is_enough Kept ecntable (Fit zeroth) row_most (turn_fits zeroth) p.block piece k room ((s, refl), small) o h (sym (ap (λ (w : Took Kept). w.refusal) same) ∙ r)
