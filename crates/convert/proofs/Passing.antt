-- All whole blocks of a piece in turn, their rows counted in any case and written where there is room for all of them. Assumes nothing.
use Rattle.std.specs.Prelude.{Option, Some, None}
use mathlib.Core.Path.{◌≡◌, refl, sym, ap, ◌∙◌, subst}
use mathlib.Core.Bool.{true}
use mathlib.Core.List.{List, ◌∷◌}
use Prim.Native.Nat.{ℕ, suc, ◌+◌, ◌-◌, ◌*◌, ◌^◌, ◌≤◌, ◌<◌}
use native.Mathlib.Omega.{arith}
use lib.ListN.{length, take, drop, length-append, length-drop}
use lib.Seq.{sets, drop-drop}
use Rattle.answers.specs.declared.Refusal.{Refusal}
use Rattle.answers.proofs.Stores.{sets-append}
use Rattle.format.specs.Blocks.{block_bytes}
use Rattle.numbers.proofs.BigEndian.{Octets}
use Rattle.numbers.proofs.Octets.{octets_take, octets_drop}
use Rattle.table.specs.Theorems.{row_most}
use Rattle.walk.specs.Programs.{nothing, to_output, Turn, Program}
use Rattle.walk.specs.Steps.{goes, refuses}
use Rattle.walk.specs.Puts.{WasRefused}
use Rattle.walk.specs.Pieces.{whole_in}
use Rattle.walk.specs.Fitting.{Took, one_more, front}
use Rattle.walk.proofs.Pieces.{whole_none, whole_first}
use Rattle.convert.specs.declared.Run.{Run}
use Rattle.convert.specs.Runs.{sound_run, row_of, row_in, next_of}
use Rattle.convert.specs.Tables.{Kept, ecntable}
use Rattle.convert.specs.Feeds.{through}
use Rattle.convert.specs.Passes.{WasMoved, PassedBy}
use Rattle.convert.proofs.Fitted.{kept, turn_goes, turn_refuses}
use Rattle.convert.proofs.Kept.{good, sound_good, next_good, next_ssrc, row_long}

-- ---- one block more

module _ {S : Type 0} (p : Program S) (i : ℕ) (b : List ℕ) (bs : List (List ℕ)) (s : S) where
  pub through_by : (t : Turn S) → p.step i s b ≡ t → through p i (b ∷ bs) s ≡ one_more t t.refusal (through p (suc i) bs t.state)
  unfolding front
  through_by t e = ap (λ (t : Turn S). one_more t t.refusal (through p (suc i) bs t.state)) e

-- ---- the loop: what is left of it, and where it ends

pub record LeftAll (all rest : Took Kept) (at from : ℕ) (old out : List ℕ) (used : ℕ) : Type 0 where
  pub state : all.state ≡ rest.state
  pub taken : block_bytes * all.taken ≡ at + block_bytes * rest.taken
  pub refusal : all.refusal ≡ rest.refusal
  pub long : used + length rest.printed.out ≡ from + length all.printed.out
  pub stores : from + length all.printed.out ≤ length old → sets out used rest.printed.out ≡ sets old from all.printed.out

module _ {all : Took Kept} {at from : ℕ} {old out : List ℕ} {used : ℕ} where
  left_goes : (next : Kept) (bytes : List ℕ) (rest : Took Kept) {now : List ℕ} {n : ℕ}
      → LeftAll all (one_more (record { state = next; printed = to_output bytes; refusal = None }) None rest) at from old out used
      → (used + n ≤ length old → now ≡ sets out used bytes) → n ≡ length bytes → LeftAll all rest (at + block_bytes) from old now (used + n)
  left_goes next bytes rest {now} {n} l s k = record {
    state = l.state;
    taken = omega (arith, l.taken);
    refusal = l.refusal;
    long = omega (arith, l.long, length-append bytes rest.printed.out);
    stores = λ h.
        let fits : used + n ≤ length old = omega (arith, l.long, length-append bytes rest.printed.out, k, h) in
        ap (λ (o : List ℕ). sets o (used + n) rest.printed.out) (s fits)
        ∙ ap (λ (m : ℕ). sets (sets out used bytes) (used + m) rest.printed.out) k
        ∙ sym (sets-append out used bytes rest.printed.out)
        ∙ l.stores h;
  }

  left_same : {rest next : Took Kept} → rest ≡ next → LeftAll all rest at from old out used → LeftAll all next at from old out used
  left_same e l = rw e at l

  left_done : (s : Kept) (o : Option Refusal) → used ≤ from + row_most * all.taken
      → LeftAll all (record { state = s; taken = 0; printed = nothing; refusal = o }) at from old out used → PassedBy all s at from used o old out
  left_done s o few l = record {
    state = l.state;
    taken = omega (arith, l.taken);
    refusal = l.refusal;
    long = omega (arith, l.long);
    few = few;
    stores = λ h. l.stores (omega (arith, l.long, h));
  }

pub record Passage (start : Run) (zeroth piece old : List ℕ) (from : ℕ) (run : Run) (at : ℕ) (out : List ℕ) (used : ℕ) : Type 0 where
  pub done : ℕ
  pub at_block : at ≡ block_bytes * done
  pub within : at ≤ length piece
  pub few : used ≤ from + row_most * done
  pub size : length out ≡ length old
  pub ssrc : run.ssrc < 2 ^ 32
  pub sound : sound_run run zeroth ≡ true
  pub left : (first : ℕ) → LeftAll (through ecntable first (whole_in piece) (kept start zeroth)) (through ecntable (first + done) (whole_in (drop at piece)) (kept run zeroth)) at from old out used

pub passage_first : {start : Run} {zeroth piece old : List ℕ} {from : ℕ} → sound_run start zeroth ≡ true → start.ssrc < 2 ^ 32 → Passage start zeroth piece old from start 0 old from
passage_first {start} {zeroth} {piece} {old} {from} s small = record {
  done = 0;
  at_block = omega arith;
  within = omega arith;
  few = omega arith;
  size = refl;
  ssrc = small;
  sound = s;
  left = λ first.
      let same : through ecntable first (whole_in piece) (kept start zeroth) ≡ through ecntable (first + 0) (whole_in piece) (kept start zeroth) =
      let e : first ≡ first + 0 = omega arith in ap (λ (n : ℕ). through ecntable n (whole_in piece) (kept start zeroth)) e in
      left_same same (record { state = refl; taken = omega arith; refusal = refl; long = refl; stores = λ h. refl });
}

module _ {start : Run} {zeroth piece old : List ℕ} {from : ℕ} {run : Run} {at : ℕ} {out : List ℕ} {used : ℕ} (l : Passage start zeroth piece old from run at out used) where
  -- what is taken to here
  done_is : (first : ℕ) (s : Kept) (o : Option Refusal)
      → LeftAll (through ecntable first (whole_in piece) (kept start zeroth)) (record { state = s; taken = 0; printed = nothing; refusal = o }) at from old out used
      → PassedBy (through ecntable first (whole_in piece) (kept start zeroth)) s at from used o old out
  done_is first s o k = left_done s o (omega (arith, l.few, l.at_block, k.taken)) k

  pub passage_last : length piece - at < block_bytes → (first : ℕ)
      → PassedBy (through ecntable first (whole_in piece) (kept start zeroth)) (kept run zeroth) at from used None old out
  unfolding front
  passage_last h first =
      let e = whole_none (drop at piece) (omega (arith, length-drop at piece)) in
      done_is first (kept run zeroth) None (left_same (ap (λ (bs : List (List ℕ)). through ecntable (first + l.done) bs (kept run zeroth)) e) (l.left first))

  module _ (h : block_bytes ≤ length piece - at) {end : ℕ} (is : end ≡ at + block_bytes) where
    -- the block as the code has it
    abbrev block : List ℕ
    block = take (end - at) (drop at piece)

    whole_block : List ℕ
    whole_block = take block_bytes (drop at piece)

    block_is : block ≡ whole_block
    unfolding whole_block
    block_is = let e : end - at ≡ block_bytes = omega arith in ap (λ (n : ℕ). take n (drop at piece)) e

    first_left : whole_in (drop at piece) ≡ whole_block ∷ whole_in (drop (at + block_bytes) piece)
    unfolding whole_block
    first_left =
        whole_first (drop at piece) (omega (arith, length-drop at piece, l.within))
        ∙ ap (λ (u : List ℕ). take block_bytes (drop at piece) ∷ whole_in u) (drop-drop block_bytes at piece)

    turned : (first : ℕ) (t : Turn Kept) → ecntable.step (first + l.done) (kept run zeroth) whole_block ≡ t
        → LeftAll (through ecntable first (whole_in piece) (kept start zeroth)) (one_more t t.refusal (through ecntable (suc (first + l.done)) (whole_in (drop (at + block_bytes) piece)) t.state)) at from old out used
    turned first t e =
        left_same
        (ap (λ (bs : List (List ℕ)). through ecntable (first + l.done) bs (kept run zeroth)) first_left
        ∙ through_by ecntable (first + l.done) whole_block (whole_in (drop (at + block_bytes) piece)) (kept run zeroth) t e)
        (l.left first)

    pub passage_taken : Octets piece → {next : Run} {n : ℕ} {now : List ℕ} → length now ≡ length out → WasMoved (next_of run block) (row_in zeroth (next_of run block)) out used n next now
        → Passage start zeroth piece old from next end now (used + n)
    passage_taken o {next} {n} {now} same w =
        let does : next_of run whole_block ≡ goes next = ap (next_of run) (sym block_is) ∙ w.does in
        let row : row_in zeroth (next_of run block) ≡ row_of next zeroth = ap (row_in zeroth) w.does in
        let g = next_good run zeroth block next (octets_take (end - at) (drop at piece) (octets_drop at piece o)) (good l.sound) w.does in
        let small : next.ssrc < 2 ^ 32 = omega (arith, l.ssrc, next_ssrc run block next w.does) in
        let n-is : n ≡ length (row_of next zeroth) = w.long ∙ ap length row in
        record {
          done = suc l.done;
          at_block = omega (arith, l.at_block);
          within = omega (arith, l.within, h);
          few = omega (arith, l.few, n-is, row_long next zeroth small g);
          size = same ∙ l.size;
          ssrc = small;
          sound = sound_good g;
          left = λ first.
              let behind = whole_in (drop (at + block_bytes) piece) in
              let t : Turn Kept = record { state = kept next zeroth; printed = to_output (row_of next zeroth); refusal = None } in
              let e : suc (first + l.done) ≡ first + suc l.done = omega arith in
              let k = left_goes (kept next zeroth) (row_of next zeroth) (through ecntable (suc (first + l.done)) behind (kept next zeroth))
              (turned first t (turn_goes (first + l.done) run zeroth whole_block does))
              (λ fits. w.stores (omega (arith, l.size, fits)) ∙ ap (λ (bytes : List ℕ). sets out used bytes) row) n-is in
              subst (λ (e : ℕ). LeftAll (through ecntable first (whole_in piece) (kept start zeroth)) (through ecntable (first + suc l.done) (whole_in (drop e piece)) (kept next zeroth)) e from old now (used + n)) (sym is)
              (left_same (ap (λ (i : ℕ). through ecntable i behind (kept next zeroth)) e) k);
        }

    pub passage_refused : {refusal : Refusal} {now : List ℕ} → WasRefused {A = Run} (next_of run block) refusal out now → (first : ℕ)
        → PassedBy (through ecntable first (whole_in piece) (kept start zeroth)) (kept run zeroth) at from used (Some refusal) old now
    passage_refused {refusal} {now} w first =
        let does : next_of run whole_block ≡ refuses refusal = ap (next_of run) (sym block_is) ∙ w.does in
        rw w.stores
        (done_is first (kept run zeroth) (Some refusal)
        (turned first (record { state = kept run zeroth; printed = nothing; refusal = Some refusal }) (turn_refuses (first + l.done) run zeroth whole_block does)))
