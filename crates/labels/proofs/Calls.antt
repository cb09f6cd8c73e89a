-- The calls over pieces, case by case. Assumes nothing.
use Rattle.std.specs.Prelude.{Option, Some, None, Result, Ok, Err}
use Rattle.answers.specs.declared.Unwritten.{Unwritten}
use mathlib.Core.Path.{◌≡◌, refl, sym, ap, ap₂, ◌∙◌}
use mathlib.Core.Bool.{Bool, true, false, cond}
use mathlib.Core.List.{List, [], ◌∷◌}
use Prim.Native.Nat.{ℕ, ◌/◌, ◌≤◌}
use native.Mathlib.Omega.{arith}
use lib.Dec.{ltb}
use lib.ListN.{length, take}
use Rattle.answers.specs.Refusals.{number_of}
use Rattle.answers.specs.Writers.{written, stored}
use Rattle.answers.specs.declared.Refusal.{Refusal}
use Rattle.answers.specs.declared.Refusal.TheVariants.{Incomplete}
use Rattle.answers.proofs.Stores.{wrote_all}
use Rattle.format.specs.Blocks.{block_bytes}
use Rattle.format.specs.Forms.{shape_of}
use Rattle.format.specs.declared.Form.{Form}
use Rattle.table.specs.Lines.{refused_line, number_line}
use Rattle.trace.specs.Layout.{body_of}
use Rattle.trace.specs.Places.{zeroth_of}
use Rattle.trace.specs.Retired.{spaced_label}
use Rattle.trace.specs.Rewriting.{zeroth_fault, block_spaced, replaced_in, spaced_by, Spaces}
use Rattle.trace.specs.declared.Zeroth.{Zeroth}
use Rattle.trace.proofs.Accepted.{accepted}
use Rattle.trace.proofs.Layouts.{length-label_block}
use Rattle.trace.proofs.Placed.{zeroth_label}
use Rattle.trace.proofs.Spacing.{length-spaced}
use Rattle.walk.specs.Pieces.{whole_in}
use Rattle.walk.specs.Endings.{number_after}
use Rattle.walk.specs.Machines.{ending_by}
use Rattle.copies.specs.Fronts.{Sound, sound_in, front_of}
use Rattle.copies.specs.declared.Front.{Front}
use Rattle.copies.proofs.Fronts.{front_many, front_refusal}
use Rattle.labels.specs.declared.Progress.{Progress}
use Rattle.labels.specs.Labelled.{begun_by, closing}
use Rattle.labels.specs.Pieces.{started_by, started_of, not_begun, Begins, TakenBy, taken_of, kept_of, end_of}

-- ---- block 0

-- what block 0 prints is what is written of it
begin_bytes_lem : (b : List ℕ) (r : Result Zeroth Refusal) → (begun_by b r).printed.out ≡ block_spaced b r
begin_bytes_lem b (Ok label) = refl
begin_bytes_lem b (Err refusal) = refl

-- 512 bytes
pub spaced_long : (b : List ℕ) {form : Form} {n ssrc : ℕ} → zeroth_of b ≡ Ok (record { form = form; length = n; ssrc = ssrc }) → length (block_spaced b (Ok (record { form = form; length = n; ssrc = ssrc }))) ≡ block_bytes
spaced_long b {form} {n} {ssrc} e =
    let k = (accepted b (zeroth_label b e)).block in
    length-label_block (shape_of form) (spaced_label (take n (body_of b))) ssrc (omega (arith, length-spaced (take n (body_of b)), k.long, k.room))

length-written : (new old : List ℕ) {n : ℕ} → written None new old ≡ Ok n → n ≡ length new
unfolding written
length-written new old {n} e = go (ltb (length old) (length new)) e
  where
    go : (t : Bool) → cond t (Err (Unwritten.Room (length new))) (Ok (length new)) ≡ Ok n → n ≡ length new
    go true e = let z : ◌≡◌ {A = ℕ} 0 1 = cc in absurd (omega arith)
    go false e = cc

module _ (b old : List ℕ) {out : List ℕ} {next : Progress} where
  -- the label block is written
  pub begins_replaced : {number : ℕ} → Spaces b old (Ok number) out → next ≡ started_by (zeroth_of b) number
      → Begins b old (record { answer = Ok block_bytes; progress = next }) out
  unfolding written started_of
  begins_replaced {number} s e = go (zeroth_of b) refl s.answers s.stores
    where
      by_answer : (r : Result Zeroth Refusal) → zeroth_of b ≡ r → length (block_spaced b r) ≡ block_bytes → out ≡ stored None (block_spaced b r) old → (w : Result ℕ Unwritten)
          → written None (block_spaced b r) old ≡ w → Ok number ≡ spaced_by (replaced_in b r) w
          → Begins b old (record { answer = Ok block_bytes; progress = next }) out
      by_answer r q long o (Ok n) v a =
          let same : number ≡ replaced_in b r = cc in
          let size : block_bytes ≡ n = sym long ∙ sym (length-written (block_spaced b r) old v) in
          record {
            wrote = rw (q, begin_bytes_lem b r) (record { answers = ap Ok size ∙ sym v; stores = o });
            progress = e ∙ ap₂ started_by q same ∙ sym (ap (λ (r : Result Zeroth Refusal). started_by r (replaced_in b r)) q);
          }
      by_answer r q long o (Err (Unwritten.Room n)) v a = let z : ◌≡◌ {A = ℕ} 0 1 = cc in absurd (omega arith)
      by_answer r q long o (Err (Unwritten.Refused refusal)) v a = let z : ◌≡◌ {A = ℕ} 0 1 = cc in absurd (omega arith)

      go : (r : Result Zeroth Refusal) → zeroth_of b ≡ r → Ok number ≡ spaced_by (replaced_in b r) (written (zeroth_fault r) (block_spaced b r) old)
          → out ≡ stored (zeroth_fault r) (block_spaced b r) old → Begins b old (record { answer = Ok block_bytes; progress = next }) out
      go (Ok label) q a o =
          by_answer (Ok label) q (spaced_long b q) o (written None (block_spaced b (Ok label)) old) refl a
      go (Err refusal) q a o = let z : ◌≡◌ {A = ℕ} 0 1 = cc in absurd (omega arith)

  -- it has no room
  pub begins_room : {size : ℕ} → Spaces b old (Err (Unwritten.Room size)) out → next ≡ not_begun → Begins b old (record { answer = Err (Unwritten.Room size); progress = next }) out
  unfolding written
  begins_room {size} s e = go (zeroth_of b) refl s.answers s.stores
    where
      by_answer : (r : Result Zeroth Refusal) → zeroth_of b ≡ r → out ≡ stored None (block_spaced b r) old → (w : Result ℕ Unwritten)
          → written None (block_spaced b r) old ≡ w → Err (Unwritten.Room size) ≡ spaced_by (replaced_in b r) w
          → Begins b old (record { answer = Err (Unwritten.Room size); progress = next }) out
      by_answer r q o (Ok n) v a = let z : ◌≡◌ {A = ℕ} 0 1 = cc in absurd (omega arith)
      by_answer r q o (Err (Unwritten.Room n)) v a =
          let same : size ≡ n = cc in
          record { wrote = rw (q, begin_bytes_lem b r) (record { answers = ap (λ (x : ℕ). Err (Unwritten.Room x)) same ∙ sym v; stores = o }); progress = e }
      by_answer r q o (Err (Unwritten.Refused refusal)) v a = let z : ◌≡◌ {A = ℕ} 0 1 = cc in absurd (omega arith)

      go : (r : Result Zeroth Refusal) → zeroth_of b ≡ r → Err (Unwritten.Room size) ≡ spaced_by (replaced_in b r) (written (zeroth_fault r) (block_spaced b r) old)
          → out ≡ stored (zeroth_fault r) (block_spaced b r) old → Begins b old (record { answer = Err (Unwritten.Room size); progress = next }) out
      go (Ok label) q a o = by_answer (Ok label) q o (written None (block_spaced b (Ok label)) old) refl a
      go (Err refusal) q a o = let z : ◌≡◌ {A = ℕ} 0 1 = cc in absurd (omega arith)

  -- it is refused, and nothing is written
  pub begins_refused : {refusal : Refusal} → Spaces b old (Err (Unwritten.Refused refusal)) out → next ≡ started_by (zeroth_of b) 0
      → Begins b old (record { answer = Ok 0; progress = next }) out
  unfolding written stored started_of
  begins_refused {refusal} s e = go (zeroth_of b) refl s.answers s.stores
    where
      other : (small : Bool) (number n : ℕ) → Err (Unwritten.Refused refusal) ≡ spaced_by number (cond small (Err (Unwritten.Room n)) (Ok n)) → ⊥
      other true number n a = let z : ◌≡◌ {A = ℕ} 0 1 = cc in omega arith
      other false number n a = let z : ◌≡◌ {A = ℕ} 0 1 = cc in omega arith

      go : (r : Result Zeroth Refusal) → zeroth_of b ≡ r → Err (Unwritten.Refused refusal) ≡ spaced_by (replaced_in b r) (written (zeroth_fault r) (block_spaced b r) old)
          → out ≡ stored (zeroth_fault r) (block_spaced b r) old → Begins b old (record { answer = Ok 0; progress = next }) out
      go (Ok label) q a o =
          let bytes = block_spaced b (Ok label) in
          absurd (other (ltb (length old) (length bytes)) (replaced_in b (Ok label)) (length bytes) a)
      go (Err its) q a o = record { wrote = rw (q, o) (wrote_all [] old refl (omega arith) refl refl); progress = e ∙ rw q }

-- ---- a piece

module _ (p : Progress) (piece : List ℕ) where
  abbrev sound : Sound
  sound = sound_in p.form p.ssrc (whole_in piece)

  taken_by : {e : Option Refusal} → p.ended ≡ e → taken_of p piece ≡ TakenBy p sound e
  unfolding taken_of
  taken_by e = ap (TakenBy p sound) e

  pub taken_over : {refusal : Refusal} → p.ended ≡ Some refusal → record { bytes = 0; progress = p } ≡ taken_of p piece
  taken_over e = sym (taken_by e)

  pub taken_front : {f : Front} {block : ℕ} → p.ended ≡ None → f ≡ front_of p.form p.ssrc piece → block ≡ number_after p.block (f.bytes / block_bytes)
      → record { bytes = f.bytes; progress = record { form = p.form; ssrc = p.ssrc; replaced = p.replaced; block = block; ended = f.ended } } ≡ taken_of p piece
  taken_front {f} {block} e is n =
      let bytes = front_many p.form p.ssrc piece is in
      let many : f.bytes / block_bytes ≡ sound.many = omega (arith, bytes) in
      let number = n ∙ ap (number_after p.block) many in
      let how : f.ended ≡ sound.refusal = sym (front_refusal p.form p.ssrc piece is) in
      (λ i. record { bytes = bytes i; progress = record { form = p.form; ssrc = p.ssrc; replaced = p.replaced; block = number i; ended = how i } }) ∙ sym (taken_by e)

-- ---- the end

module _ (p : Progress) (rest : List ℕ) where
  end_by_lem : {e : Option Refusal} → p.ended ≡ e → end_of p rest ≡ (closing (kept_of p) (ending_by p.block e rest)).err
  unfolding end_of
  end_by_lem e = ap (λ (e : Option Refusal). (closing (kept_of p) (ending_by p.block e rest)).err) e

  pub end_refused : {refusal : Refusal} → p.ended ≡ Some refusal → end_of p rest ≡ refused_line (number_of refusal) p.block
  end_refused e = end_by_lem e

  pub end_whole : p.ended ≡ None → length rest ≡ 0 → end_of p rest ≡ number_line p.replaced
  end_whole e h = end_by_lem e ∙ go rest h
    where
      go : (rest : List ℕ) → length rest ≡ 0 → (closing (kept_of p) (ending_by p.block None rest)).err ≡ number_line p.replaced
      go [] h = refl
      go (c ∷ rest) h = absurd (omega arith)

  pub end_part : p.ended ≡ None → 1 ≤ length rest → end_of p rest ≡ refused_line (number_of Incomplete) p.block
  end_part e h = end_by_lem e ∙ go rest h
    where
      go : (rest : List ℕ) → 1 ≤ length rest → (closing (kept_of p) (ending_by p.block None rest)).err ≡ refused_line (number_of Incomplete) p.block
      go [] h = absurd (omega arith)
      go (c ∷ rest) h = refl
