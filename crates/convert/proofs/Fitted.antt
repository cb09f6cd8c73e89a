-- The loop over the blocks of a piece: its turns, and its ways out. Assumes nothing.
use Rattle.std.specs.Prelude.{Some, None}
use mathlib.Core.Path.{◌≡◌, sym, ap, ◌∙◌, subst}
use mathlib.Core.Bool.{true}
use mathlib.Core.List.{List}
use Prim.Native.Nat.{ℕ, ◌+◌, ◌-◌, ◌≤◌, ◌<◌}
use native.Mathlib.Omega.{arith}
use lib.ListN.{length, take, drop}
use lib.Seq.{sets}
use Rattle.answers.specs.declared.Refusal.{Refusal}
use Rattle.format.specs.Blocks.{block_bytes}
use Rattle.numbers.proofs.BigEndian.{Octets}
use Rattle.numbers.proofs.Octets.{octets_take, octets_drop}
use Rattle.walk.specs.Programs.{nothing, to_output}
use Rattle.walk.specs.Steps.{goes, refuses}
use Rattle.walk.specs.Puts.{WasPut, NoRoom, WasRefused}
use Rattle.walk.proofs.Loops.{Going, going_first, going_last, going_taken, going_pauses, going_refused}
use Rattle.convert.specs.declared.Run.{Run}
use Rattle.convert.specs.Runs.{sound_run, row_of, row_in, next_of}
use Rattle.convert.specs.Tables.{Kept, taken, ecntable}
use Rattle.convert.specs.Pieces.{Fitted}
use Rattle.convert.proofs.Kept.{good, sound_good, next_good}

abbrev pub kept : Run → List ℕ → Kept
kept run zeroth = record { run = run; zeroth = zeroth }

-- the turn of a block, by what it brings
pub turn_goes : (i : ℕ) (run : Run) (zeroth b : List ℕ) {next : Run} → next_of run b ≡ goes next
    → ecntable.step i (kept run zeroth) b ≡ record { state = kept next zeroth; printed = to_output (row_of next zeroth); refusal = None }
turn_goes i run zeroth b e = ap (taken (kept run zeroth)) e

pub turn_refuses : (i : ℕ) (run : Run) (zeroth b : List ℕ) {refusal : Refusal} → next_of run b ≡ refuses refusal
    → ecntable.step i (kept run zeroth) b ≡ record { state = kept run zeroth; printed = nothing; refusal = Some refusal }
turn_refuses i run zeroth b e = ap (taken (kept run zeroth)) e

pub record Loop (start : Run) (zeroth piece old : List ℕ) (run : Run) (at : ℕ) (out : List ℕ) (used : ℕ) : Type 0 where
  pub sound : sound_run run zeroth ≡ true
  pub going : (first : ℕ) → Going ecntable first piece old (kept start zeroth) (kept run zeroth) at out used

pub loop_first : {start : Run} {zeroth piece old : List ℕ} → sound_run start zeroth ≡ true → Loop start zeroth piece old start 0 old 0
loop_first {start} {zeroth} {piece} {old} s = record { sound = s; going = λ first. going_first ecntable first piece old (kept start zeroth) }

module _ {start : Run} {zeroth piece old : List ℕ} {run : Run} {at : ℕ} {out : List ℕ} {used : ℕ} (l : Loop start zeroth piece old run at out used) where
  -- what is known at each turn
  pub loop_within : at ≤ length piece
  loop_within = (l.going 0).within

  pub loop_inside : used ≤ length old
  loop_inside = (l.going 0).inside

  pub loop_size : length out ≡ length old
  loop_size = (l.going 0).left.size

  pub loop_last : length piece - at < block_bytes → Fitted start zeroth piece old run at used None out
  loop_last h first = going_last ecntable first piece old (kept start zeroth) (l.going first) (omega (arith, h, loop_within))

  module _ (h : block_bytes ≤ length piece - at) {end : ℕ} (is : end ≡ at + block_bytes) where
    -- the block as the code has it
    abbrev block : List ℕ
    block = take (end - at) (drop at piece)

    block_is : block ≡ take block_bytes (drop at piece)
    block_is = let e : end - at ≡ block_bytes = omega arith in ap (λ (n : ℕ). take n (drop at piece)) e

    inside : at + block_bytes ≤ length piece
    inside = omega (arith, h)

    pub loop_taken : Octets piece → {next : Run} {n : ℕ} {now : List ℕ} → WasPut (next_of run block) (row_in zeroth (next_of run block)) out used n next now
        → Loop start zeroth piece old next end now (used + n)
    loop_taken o {next} {n} {now} w =
        let does = ap (next_of run) (sym block_is) ∙ w.does in
        let row : row_in zeroth (next_of run block) ≡ row_of next zeroth = ap (row_in zeroth) w.does in
        record {
          sound = sound_good (next_good run zeroth block next (octets_take (end - at) (drop at piece) (octets_drop at piece o)) (good l.sound) w.does);
          going = λ first.
              subst (λ (e : ℕ). Going ecntable first piece old (kept start zeroth) (kept next zeroth) e now (used + n)) (sym is)
              (going_taken ecntable first piece old (kept start zeroth) (l.going first) inside (kept next zeroth) (row_of next zeroth)
              (turn_goes (first + (l.going first).done) run zeroth (take block_bytes (drop at piece)) does)
              (w.long ∙ ap length row) (omega (arith, w.room, loop_size)) (w.stores ∙ ap (λ (bytes : List ℕ). sets out used bytes) row));
        }

    pub loop_pauses : {now : List ℕ} → NoRoom {A = Run} (next_of run block) (row_in zeroth (next_of run block)) out used now
        → Fitted start zeroth piece old run at used None now
    loop_pauses {now} w first =
        let does = ap (next_of run) (sym block_is) ∙ w.does in
        let row : row_in zeroth (next_of run block) ≡ row_of w.brings zeroth = ap (row_in zeroth) w.does in
        let r = going_pauses ecntable first piece old (kept start zeroth) (l.going first) inside (kept w.brings zeroth) (row_of w.brings zeroth)
        (turn_goes (first + (l.going first).done) run zeroth (take block_bytes (drop at piece)) does) (omega (arith, w.room, loop_size, ap length row)) in
        rw w.stores r

    pub loop_refused : {refusal : Refusal} {now : List ℕ} → WasRefused {A = Run} (next_of run block) refusal out now
        → Fitted start zeroth piece old run at used (Some refusal) now
    loop_refused {refusal} {now} w first =
        let does = ap (next_of run) (sym block_is) ∙ w.does in
        rw w.stores (going_refused ecntable first piece old (kept start zeroth) (l.going first) inside refusal (turn_refuses (first + (l.going first).done) run zeroth (take block_bytes (drop at piece)) does))
