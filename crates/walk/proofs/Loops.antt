-- A loop that takes the blocks of a piece and stores what they print in a lent output, for every program. Assumes nothing.
use Rattle.std.specs.Prelude.{Option, Some, None}
use mathlib.Core.Path.{◌≡◌, refl, sym, ap, ap₂, ◌∙◌}
use mathlib.Core.Bool.{cond}
use mathlib.Core.List.{List, ◌∷◌}
use Prim.Native.Nat.{ℕ, suc, ◌+◌, ◌-◌, ◌*◌, ◌≤◌, ◌<◌}
use native.Mathlib.Omega.{arith}
use borrow.Author.Tests.{lt-ltb, le-ltb}
use lib.Dec.{ltb}
use lib.ListN.{length, take, drop, length-append, length-drop}
use lib.Seq.{sets, length-sets, drop-drop}
use Rattle.answers.specs.declared.Refusal.{Refusal}
use Rattle.answers.proofs.Stores.{sets-append}
use Rattle.format.specs.Blocks.{block_bytes}
use Rattle.walk.specs.Programs.{nothing, to_output, Turn, Program}
use Rattle.walk.specs.Pieces.{whole_in}
use Rattle.walk.specs.Fitting.{Took, none_taken, one_more, fitting, Reached}
use Rattle.walk.proofs.Pieces.{whole_none, whole_first}

-- ---- one block more

module _ {S : Type 0} (p : Program S) (i : ℕ) (b : List ℕ) (bs : List (List ℕ)) (s : S) (room : ℕ) where
  fits_by : (t : Turn S) → p.step i s b ≡ t
      → fitting p i (b ∷ bs) s room
      ≡ cond (ltb room (length t.printed.out)) (none_taken s) (one_more t t.refusal (fitting p (suc i) bs t.state (room - length t.printed.out)))
  unfolding fitting
  fits_by t e =
      ap (λ (t : Turn S). cond (ltb room (length t.printed.out)) (none_taken s) (one_more t t.refusal (fitting p (suc i) bs t.state (room - length t.printed.out)))) e

  module _ (next : S) (bytes : List ℕ) (e : p.step i s b ≡ record { state = next; printed = to_output bytes; refusal = None }) where
    fits_goes : length bytes ≤ room
        → fitting p i (b ∷ bs) s room ≡ one_more (record { state = next; printed = to_output bytes; refusal = None }) None (fitting p (suc i) bs next (room - length bytes))
    fits_goes h = fits_by (record { state = next; printed = to_output bytes; refusal = None }) e ∙ rw (le-ltb room (length bytes) h)

    fits_pauses : room < length bytes → fitting p i (b ∷ bs) s room ≡ none_taken s
    fits_pauses h = fits_by (record { state = next; printed = to_output bytes; refusal = None }) e ∙ rw (lt-ltb room (length bytes) h)

  fits_refuses : (refusal : Refusal) → p.step i s b ≡ record { state = s; printed = nothing; refusal = Some refusal }
      → fitting p i (b ∷ bs) s room ≡ record { state = s; taken = 0; printed = nothing; refusal = Some refusal }
  fits_refuses refusal e = fits_by (record { state = s; printed = nothing; refusal = Some refusal }) e ∙ rw (le-ltb room 0 (omega arith))

-- ---- the loop: what is left, and where it ends

-- `all` is what the whole loop takes, `rest` what is left of it, behind `at` bytes of the piece; `used` bytes of the output are written, and `old` and `out`
-- are the output before the loop and now
pub record Left {S : Type 0} (all rest : Took S) (at : ℕ) (old out : List ℕ) (used : ℕ) : Type 0 where
  pub state : all.state ≡ rest.state
  pub taken : block_bytes * all.taken ≡ at + block_bytes * rest.taken
  pub refusal : all.refusal ≡ rest.refusal
  pub long : used + length rest.printed.out ≡ length all.printed.out
  pub size : length out ≡ length old
  pub stores : sets out used rest.printed.out ≡ sets old 0 all.printed.out

module _ {S : Type 0} {all : Took S} {at : ℕ} {old out : List ℕ} {used : ℕ} where
  left_goes : (next : S) (bytes : List ℕ) (rest : Took S) {now : List ℕ} {n : ℕ}
      → Left all (one_more (record { state = next; printed = to_output bytes; refusal = None }) None rest) at old out used
      → now ≡ sets out used bytes → n ≡ length bytes → Left all rest (at + block_bytes) old now (used + n)
  left_goes next bytes rest {now} {n} l s k = record {
    state = l.state;
    taken = omega (arith, l.taken);
    refusal = l.refusal;
    long = omega (arith, l.long, length-append bytes rest.printed.out);
    size = ap length s ∙ length-sets out used bytes ∙ l.size;
    stores =
        ap (λ (o : List ℕ). sets o (used + n) rest.printed.out) s
        ∙ ap (λ (m : ℕ). sets (sets out used bytes) (used + m) rest.printed.out) k
        ∙ sym (sets-append out used bytes rest.printed.out)
        ∙ l.stores;
  }

  -- where nothing more is taken
  left_same : {rest next : Took S} → rest ≡ next → Left all rest at old out used → Left all next at old out used
  left_same e l = rw e at l

  left_done : (s : S) (o : Option Refusal) → Left all (record { state = s; taken = 0; printed = nothing; refusal = o }) at old out used → Reached all s o at old out used
  left_done s o l = record { state = l.state; taken = omega (arith, l.taken); refusal = l.refusal; long = omega (arith, l.long); stores = l.stores }

module _ {S : Type 0} (p : Program S) (first : ℕ) (piece old : List ℕ) (start : S) where
  abbrev pub whole : Took S
  whole = fitting p first (whole_in piece) start (length old)

  -- behind `at` bytes, which are whole blocks
  pub record Going (s : S) (at : ℕ) (out : List ℕ) (used : ℕ) : Type 0 where
    pub done : ℕ
    pub at_block : at ≡ block_bytes * done
    pub within : at ≤ length piece
    pub inside : used ≤ length old
    pub left : Left whole (fitting p (first + done) (whole_in (drop at piece)) s (length old - used)) at old out used

  pub going_first : Going start 0 old 0
  going_first =
      let all : whole ≡ fitting p (first + 0) (whole_in piece) start (length old - 0) = ap₂ (λ (n m : ℕ). fitting p n (whole_in piece) start m) (omega arith) (omega arith) in
      record {
        done = 0;
        at_block = omega arith;
        within = omega arith;
        inside = omega arith;
        left = left_same all (record { state = refl; taken = omega arith; refusal = refl; long = omega arith; size = refl; stores = refl });
      }

  module _ {s : S} {at : ℕ} {out : List ℕ} {used : ℕ} (g : Going s at out used) where
    abbrev block : List ℕ
    block = take block_bytes (drop at piece)

    abbrev rest : List (List ℕ) → Took S
    rest bs = fitting p (first + g.done) bs s (length old - used)

    pub going_last : length piece < at + block_bytes → Reached whole s None at old out used
    unfolding fitting
    going_last h = left_done s None (left_same (ap rest (whole_none (drop at piece) (omega (arith, length-drop at piece)))) g.left)

    module _ (h : at + block_bytes ≤ length piece) where
      first_left : whole_in (drop at piece) ≡ block ∷ whole_in (drop (at + block_bytes) piece)
      first_left =
          whole_first (drop at piece) (omega (arith, length-drop at piece))
          ∙ ap (λ (u : List ℕ). block ∷ whole_in u) (drop-drop block_bytes at piece)

      pub going_taken : (next : S) (bytes : List ℕ) {now : List ℕ} {n : ℕ}
          → p.step (first + g.done) s block ≡ record { state = next; printed = to_output bytes; refusal = None } → n ≡ length bytes → used + n ≤ length old
          → now ≡ sets out used bytes → Going next (at + block_bytes) now (used + n)
      going_taken next bytes {now} {n} e k fits stores =
          let behind = whole_in (drop (at + block_bytes) piece) in
          let room : length bytes ≤ length old - used = omega (arith, k, fits, g.inside) in
          let turn = fits_goes p (first + g.done) block behind s (length old - used) next bytes e room in
          let same : fitting p (suc (first + g.done)) behind next (length old - used - length bytes) ≡ fitting p (first + suc g.done) behind next (length old - (used + n)) =
          ap₂ (λ (i m : ℕ). fitting p i behind next m) (omega arith) (omega (arith, k)) in
          record {
            done = suc g.done;
            at_block = omega (arith, g.at_block);
            within = h;
            inside = fits;
            left = left_same same (left_goes next bytes (fitting p (suc (first + g.done)) behind next (length old - used - length bytes)) (left_same (ap rest first_left ∙ turn) g.left) stores k);
          }

      pub going_pauses : (next : S) (bytes : List ℕ) → p.step (first + g.done) s block ≡ record { state = next; printed = to_output bytes; refusal = None }
          → length old < used + length bytes → Reached whole s None at old out used
      going_pauses next bytes e small =
          let behind = whole_in (drop (at + block_bytes) piece) in
          let turn = fits_pauses p (first + g.done) block behind s (length old - used) next bytes e (omega (arith, small, g.inside)) in
          left_done s None (left_same (ap rest first_left ∙ turn) g.left)

      pub going_refused : (refusal : Refusal) → p.step (first + g.done) s block ≡ record { state = s; printed = nothing; refusal = Some refusal }
          → Reached whole s (Some refusal) at old out used
      going_refused refusal e =
          let turn = fits_refuses p (first + g.done) block (whole_in (drop (at + block_bytes) piece)) s (length old - used) refusal e in
          left_done s (Some refusal) (left_same (ap rest first_left ∙ turn) g.left)
