-- Blocks of records stored. Assumes nothing.
use Rattle.std.specs.Prelude.{Option, None}
use mathlib.Core.Path.{◌≡◌, refl, sym, ap, ap₂, ◌∙◌}
use mathlib.Core.Bool.{true}
use mathlib.Core.List.{List, [], ◌∷◌, ◌++◌, append_assoc, append-nil}
use Prim.Native.Nat.{ℕ, zero, suc, ◌+◌, ◌-◌, ◌*◌, ◌≤◌, ◌<◌}
use native.Mathlib.Nat.{add-mul}
use native.Mathlib.Omega.{arith}
use borrow.Author.Tests.{le-ltb}
use lib.ListN.{length, take, drop, set, length-append, length-drop, drop_of_length-le}
use lib.Seq.{sets, sets-eq, length-sets, take-add, take-take, take_at, drop_at, drop-drop, take-set-le, drop-set-lt, length-take-le}
use Rattle.answers.specs.Writers.{stored}
use Rattle.answers.specs.declared.Refusal.{Refusal}
use Rattle.numbers.proofs.BigEndian.{Octets}
use Rattle.format.specs.Blocks.{block_bytes, body_bytes}
use Rattle.format.specs.Forms.{Shape, shape_of, width, other_form}
use Rattle.format.specs.declared.Form.{Form}
use Rattle.format.proofs.Fits.{fits}
use Rattle.trace.specs.Contents.{count_ok, good_records}
use Rattle.trace.specs.Layout.{records_bytes, arrivals_block, records_block}
use Rattle.trace.specs.Theorems.{records_in}
use Rattle.trace.specs.Writing.{body_fault, count_fault}
use Rattle.trace.specs.declared.Record.{Record}
use Rattle.trace.proofs.Decisions.{count_taken}
use Rattle.trace.proofs.Layouts.{length-arrivals_block, length-records}
use Rattle.trace.proofs.Records.{length-records_in, bytes_records}
use Rattle.trace.proofs.Theorems.{records_by_bytes}
use Rattle.forms.specs.Packing.{full_blocks}
use Rattle.forms.specs.Steps.{Joinable, joined}
use Rattle.forms.proofs.Held.{body_good}
use Rattle.forms.proofs.Moved.{good_turn, records_turn}
use Rattle.forms.proofs.Packed.{full_first}
use Rattle.trace.proofs.Tallies.{mul_turn}

-- a block stored in a part of a list that is as long
pub part_stored : (old block : List ℕ) (at : ℕ) {out : List ℕ} {n : ℕ} → n ≡ length block → at + n ≤ length old
    → out ≡ stored None block (take n (drop at old)) → take at old ++ (out ++ drop n (drop at old)) ≡ sets old at block
unfolding stored
part_stored old block at {out} {n} size room e =
    let many : length (take n (drop at old)) ≡ n = length-take-le n (drop at old) (rw length-drop (omega arith)) in
    let all : out ≡ block =
    e ∙ rw (le-ltb (length (take n (drop at old))) (length block) (omega arith), drop_of_length-le (take n (drop at old)) {i = length block} (omega arith)) (append-nil block) in
    rw (all, drop-drop n at old, size, sets-eq block old at (omega arith)) (sym (append_assoc (take at old) block (drop (at + length block) old)))

-- the block of records is that of their bytes
module _ (form : Form) (n : ℕ) (s : List ℕ) (o : Octets s) (long : n * width (shape_of form) ≤ length s) (good : good_records (shape_of form) n s ≡ true) where
  pub block_is : (ssrc : ℕ) → records_block (shape_of form) (take (n * width (shape_of form)) s) ssrc ≡ arrivals_block (shape_of form) (records_in (shape_of form) n s) ssrc
  block_is ssrc =
      ap (λ (t : List ℕ). records_block (shape_of form) t ssrc) (sym (bytes_records (shape_of form) n s o long good)) ∙ records_by_bytes form (records_in (shape_of form) n s) ssrc

  pub no_fault : 1 ≤ n → n ≤ (shape_of form).most → body_fault (shape_of form) (take (n * width (shape_of form)) s) ≡ None
  unfolding body_fault
  no_fault some few = rw (body_good (shape_of form) n s long some few, good)

-- ---- records that stand in a block's body, and the block about them

take-before : (n : ℕ) (l : List ℕ) (i : ℕ) (vs : List ℕ) → n ≤ i → take n (sets l i vs) ≡ take n l
take-before n l i [] h = refl
take-before n l i (a ∷ vs) h = take-before n (set l i a) (suc i) vs (omega arith) ∙ take-set-le n l i a h

drop-behind : (n : ℕ) (l : List ℕ) (i : ℕ) (vs : List ℕ) → i + length vs ≤ n → drop n (sets l i vs) ≡ drop n l
drop-behind n l i [] h = refl
drop-behind n l i (a ∷ vs) h = drop-behind n (set l i a) (suc i) vs (omega arith) ∙ drop-set-lt n l i a (omega arith)

-- a run stored over another
sets_over : (l : List ℕ) (a b : ℕ) (vs ws : List ℕ) → b ≤ a → a + length vs ≤ b + length ws → b + length ws ≤ length l → sets (sets l a vs) b ws ≡ sets l b ws
sets_over l a b vs ws h k room =
    sets-eq ws (sets l a vs) b (omega (arith, length-sets l a vs))
    ∙ rw (take-before b l a vs h, drop-behind (b + length ws) l a vs k) (sym (sets-eq ws l b room))

module _ (form : Form) (rs : List Record) (ssrc : ℕ) (old : List ℕ) (at : ℕ) {out : List ℕ} (few : length rs * width (shape_of form) ≤ body_bytes) (room : at + block_bytes ≤ length old)
    (e : out ≡ sets old (at + 8) (records_bytes (shape_of form) rs)) where
  abbrev records : List ℕ
  records = records_bytes (shape_of form) rs

  long : length out ≡ length old
  long = ap length e ∙ length-sets old (at + 8) records

  size : length records ≡ length rs * width (shape_of form)
  size = length-records (shape_of form) rs

  -- they are what stands there
  stand : {n k : ℕ} → n ≡ length rs * width (shape_of form) → k ≡ block_bytes → take n (drop 8 (take k (drop at out))) ≡ records
  stand {n} {k} en ek =
      let front : List ℕ = take 8 (drop at out) in
      let eight : length front ≡ 8 = length-take-le 8 (drop at out) (rw length-drop (omega (arith, long))) in
      let block : take k (drop at out) ≡ front ++ take 504 (drop 8 (drop at out)) = ap (λ (j : ℕ). take j (drop at out)) ek ∙ take-add 8 504 (drop at out) in
      let all : out ≡ (take (at + 8) old ++ records) ++ drop (at + 8 + length records) old = e ∙ sets-eq records old (at + 8) (omega (arith, size)) in
      let before : length (take (at + 8) old) ≡ at + 8 = length-take-le (at + 8) old (omega arith) in
      let body : drop (at + 8) out ≡ records ++ drop (at + 8 + length records) old =
      ap (drop (at + 8)) (all ∙ append_assoc (take (at + 8) old) records (drop (at + 8 + length records) old)) ∙ drop_at (take (at + 8) old) (records ++ drop (at + 8 + length records) old) (at + 8) before in
      ap (λ (s : List ℕ). take n (drop 8 s)) block
      ∙ ap (take n) (drop_at front (take 504 (drop 8 (drop at out))) 8 eight)
      ∙ take-take n 504 (drop 8 (drop at out)) (omega arith)
      ∙ ap (take n) (drop-drop 8 at out ∙ body)
      ∙ take_at records (drop (at + 8 + length records) old) n (omega (arith, size))

  -- and the block lies over them
  pub block_over : {to : Form} {n k : ℕ} {part : List ℕ} → to ≡ form → n ≡ length rs → k ≡ block_bytes → count_ok (shape_of form) (length rs) ≡ true
      → part ≡ stored (count_fault (shape_of to) n) (records_block (shape_of to) (take (n * width (shape_of to)) (drop 8 (take k (drop at out)))) ssrc) (take k (drop at out))
      → take at out ++ (part ++ drop k (drop at out)) ≡ sets old at (arrivals_block (shape_of form) rs ssrc)
  block_over {to} {n} {k} {part} et en ek some h =
      let shape : Shape = shape_of form in
      let block : List ℕ = arrivals_block shape rs ssrc in
      let whole : length block ≡ block_bytes = length-arrivals_block shape rs ssrc few in
      let there : records_block shape (take (length rs * width shape) (drop 8 (take k (drop at out)))) ssrc ≡ block = ap (λ (s : List ℕ). records_block shape s ssrc) (stand refl ek) ∙ records_by_bytes form rs ssrc in
      let fault : count_fault shape (length rs) ≡ None = count_taken shape (length rs) some in
      let is : part ≡ stored None block (take k (drop at out)) =
      h ∙ ap₂ (λ (f : Form) (m : ℕ). stored (count_fault (shape_of f) m) (records_block (shape_of f) (take (m * width (shape_of f)) (drop 8 (take k (drop at out)))) ssrc) (take k (drop at out))) et en
      ∙ ap₂ (λ (f : Option Refusal) (b : List ℕ). stored f b (take k (drop at out))) fault there in
      part_stored out block at {n = k} (omega (arith, whole)) (omega (arith, long)) is
      ∙ ap (λ (s : List ℕ). sets s at block) e
      ∙ sets_over old (at + 8) at records block (omega arith) (omega (arith, size, whole)) (omega (arith, whole))

-- ---- a turn of a loop over full blocks

pub length-joined : (form : Form) (held : ℕ) (part body : List ℕ) → held ≤ (shape_of (other_form form)).most
    → length (joined form held part ((shape_of (other_form form)).most - held) body) ≡ (shape_of (other_form form)).most
length-joined form held part body few =
    let to : Shape = shape_of (other_form form) in
    length-append (records_in to held part) (records_in (shape_of form) (to.most - held) body)
    ∙ ap₂ (λ (a b : ℕ). a + b) (length-records_in to held part) (length-records_in (shape_of form) (to.most - held) body)
    ∙ omega arith

pub length-full_block : (form : Form) (held : ℕ) (part body : List ℕ) → held ≤ (shape_of (other_form form)).most → (ssrc : ℕ)
    → length (arrivals_block (shape_of (other_form form)) (joined form held part ((shape_of (other_form form)).most - held) body) ssrc) ≡ block_bytes
length-full_block form held part body few ssrc =
    length-arrivals_block (shape_of (other_form form)) (joined form held part ((shape_of (other_form form)).most - held) body) ssrc
    (rw (length-joined form held part body few) (fits (other_form form)).room)

module _ (form : Form) (part body : List ℕ) (first left from : ℕ) {next : ℕ} (ready : Joinable form first part (left * (shape_of (other_form form)).most - first) (drop from body))
    (turn : 0 < left) (few : first ≤ (shape_of (other_form form)).most) (en : next ≡ from + ((shape_of (other_form form)).most - first) * width (shape_of form)) where
  abbrev to : Shape
  to = shape_of (other_form form)

  abbrev now_taken : ℕ
  now_taken = to.most - first

  abbrev then : ℕ
  then = (left - 1) * to.most - 0

  parts : left * to.most - first ≡ now_taken + then
  parts = omega (arith, mul_turn left to.most turn)

  bytes_parts : (left * to.most - first) * width (shape_of form) ≡ now_taken * width (shape_of form) + then * width (shape_of form)
  bytes_parts = ap (λ (k : ℕ). k * width (shape_of form)) parts ∙ add-mul now_taken then (width (shape_of form))

  -- the records of the next block lie in the body
  pub block_fits : now_taken * width (shape_of form) ≤ length body - from
  block_fits = omega (arith, bytes_parts, ready.long, length-drop from body)

  pub block_ready : Joinable form first part now_taken (drop from body)
  block_ready = record {
    held_long = ready.held_long;
    held_good = ready.held_good;
    long = omega (arith, bytes_parts, ready.long);
    good = (good_turn (shape_of form) body now_taken then from parts en ready.good).0;
  }

  pub others_ready : Joinable form 0 part then (drop next body)
  unfolding good_records
  others_ready = record {
    held_long = omega arith;
    held_good = refl;
    long = omega (arith, bytes_parts, ready.long, length-drop from body, length-drop next body);
    good = (good_turn (shape_of form) body now_taken then from parts en ready.good).1;
  }

  pub full_turn : (ssrc : ℕ) → full_blocks to ssrc left (joined form first part (left * to.most - first) (drop from body))
      ≡ arrivals_block to (joined form first part now_taken (drop from body)) ssrc ++ full_blocks to ssrc (left - 1) (joined form 0 part then (drop next body))
  unfolding records_in
  full_turn ssrc =
      let held : List Record = records_in to first part in
      let this : List Record = records_in (shape_of form) now_taken (drop from body) in
      let rest : List Record = records_in (shape_of form) then (drop next body) in
      let both : held ++ records_in (shape_of form) (left * to.most - first) (drop from body) ≡ (held ++ this) ++ rest =
      ap (λ (s : List Record). held ++ s) (records_turn (shape_of form) body now_taken then from parts en) ∙ sym (append_assoc held this rest) in
      ap (full_blocks to ssrc left) both ∙ full_first to ssrc left turn (held ++ this) rest (length-joined form first part (drop from body) few)

-- and after the last of them nothing is left to store
pub full_done : (shape : Shape) (ssrc : ℕ) (rs : List Record) (left : ℕ) → left ≤ 0 → (out : List ℕ) (at : ℕ) → out ≡ sets out at (full_blocks shape ssrc left rs)
unfolding full_blocks
full_done shape ssrc rs zero h out at = refl
full_done shape ssrc rs (suc left) h out at = absurd (omega arith)
