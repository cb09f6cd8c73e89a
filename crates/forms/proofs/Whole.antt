-- The calls over a trace's blocks give what the whole run prints, and that is a packing. Assumes nothing.
use Rattle.std.specs.Prelude.{Result, Ok, Err}
use mathlib.Core.Path.{◌≡◌, refl, sym, ap, ◌∙◌}
use mathlib.Core.Bool.{Bool, true, false, cond}
use mathlib.Core.List.{List, [], ◌∷◌, ◌++◌, append_assoc, append-nil}
use Prim.Native.Nat.{ℕ, suc, ◌≤◌, ◌<◌}
use native.Mathlib.Omega.{arith}
use lib.ListN.{length, take, drop}
use Rattle.answers.specs.Refusals.{number_of}
use Rattle.answers.specs.declared.Refusal.{Refusal}
use Rattle.answers.specs.declared.Refusal.TheVariants.{FormTwo}
use Rattle.numbers.proofs.BigEndian.{Octets}
use Rattle.format.specs.Blocks.{body_at, body_bytes}
use Rattle.format.specs.Forms.{Shape, shape_of, other_form}
use Rattle.format.specs.declared.Form.{Form}
use Rattle.trace.specs.Layout.{label_block, body_of}
use Rattle.trace.specs.Reading.{block_of}
use Rattle.trace.specs.Theorems.{records_in}
use Rattle.trace.specs.Places.{zeroth_of, later_of}
use Rattle.trace.specs.declared.Block.TheVariants as read
use Rattle.trace.specs.declared.Zeroth.{Zeroth}
use Rattle.trace.specs.declared.Record.{Record}
use Rattle.trace.proofs.Accepted.{accepted}
use Rattle.trace.proofs.Placed.{zeroth_by_lem, later_arrivals}
use Rattle.numbers.proofs.Octets.{octets_take, octets_drop}
use Rattle.trace.proofs.Records.{length-records_in}
use Rattle.table.specs.Lines.{refused_line}
use Rattle.walk.specs.Blocks.{blocks_of}
use Rattle.walk.specs.Programs.{Printed, both, to_output, Run, turned, onward, walk, walked, closed, printed_by}
use Rattle.walk.specs.Steps.{Next, goes, refuses}
use Rattle.walk.proofs.Walks.{closed_goes, closed_ends}
use Rattle.forms.specs.Packing.{full_blocks, full, left, last_block, packed}
use Rattle.forms.specs.Conversions.{all_times, timed, next_by, next_of}
use Rattle.forms.specs.Converted.{Kept, refused_label, begun, taken, ecnforms, converted}
use Rattle.forms.specs.Theorems.{records_taken, taken_from, Packs}
use Rattle.forms.proofs.Packed.{most_some, left_short, packed_parts, packed_short}
use Rattle.forms.proofs.Gathered.{Fine, fine_in, fine_other}

-- ---- what a block brings

pub record Brings (form : Form) (ssrc : ℕ) (b : List ℕ) (records : List Record) : Type 0 where
  pub count : ℕ
  pub block : block_of b ≡ Ok (read.Arrivals form count ssrc)
  pub are : records ≡ records_in (shape_of form) count (body_of b)
  pub timed : all_times (shape_of (other_form form)) records ≡ true

pub brings : (form : Form) (ssrc : ℕ) (b : List ℕ) {records : List Record} → next_of form ssrc b ≡ goes records → Brings form ssrc b records
unfolding next_of timed
brings form ssrc b {records} e = by_later (later_of form ssrc b) refl e
  where
    by_time : (n : ℕ) (t : Bool) → all_times (shape_of (other_form form)) (records_in (shape_of form) n (body_of b)) ≡ t → block_of b ≡ Ok (read.Arrivals form n ssrc)
        → cond t (goes (records_in (shape_of form) n (body_of b))) (refuses FormTwo) ≡ goes records → Brings form ssrc b records
    by_time n true q k e = let same : records_in (shape_of form) n (body_of b) ≡ records = cc in record { count = n; block = k; are = sym same; timed = rw (← same) q }
    by_time n false q k e = let z : ◌≡◌ {A = ℕ} 0 1 = cc in absurd (omega arith)

    by_later : (l : Result ℕ Refusal) → later_of form ssrc b ≡ l → next_by form b l ≡ goes records → Brings form ssrc b records
    by_later (Err refusal) k e = let z : ◌≡◌ {A = ℕ} 0 1 = cc in absurd (omega arith)
    by_later (Ok n) k e = by_time n (all_times (shape_of (other_form form)) (records_in (shape_of form) n (body_of b))) refl (later_arrivals form ssrc b k) e

module _ {form : Form} {ssrc : ℕ} {b : List ℕ} {records : List Record} (br : Brings form ssrc b records) where
  pub many_brought : length records ≡ br.count
  many_brought = ap length br.are ∙ length-records_in (shape_of form) br.count (body_of b)

  pub few_brought : length records ≤ (shape_of form).most
  few_brought = rw many_brought (accepted b br.block).most

  -- both forms have bytes for them
  pub fine_brought : Octets b → Fine (shape_of form) records
  fine_brought o = rw br.are (fine_in (shape_of form) br.count (body_of b) (octets_take body_bytes (drop body_at b) (octets_drop body_at b o)) (accepted b br.block).records)

  pub fine_there : Octets b → Fine (shape_of (other_form form)) records
  fine_there o = fine_other (shape_of form) (shape_of (other_form form)) (fine_brought o) br.timed

-- ---- the run, block by block

abbrev pub to : Kept → Shape
to k = shape_of (other_form k.form)

abbrev pub next : Kept → List Record → Kept
next k records = record { form = k.form; ssrc = k.ssrc; held = left (to k) (k.held ++ records) }

abbrev pub blocks_with : Kept → List Record → List ℕ
blocks_with k records = full_blocks (to k) k.ssrc (full (to k) (k.held ++ records)) (k.held ++ records)

-- what is printed from block i on
abbrev pub rest : ℕ → List (List ℕ) → Kept → Printed
rest i bs k = closed ecnforms (walk ecnforms i bs k)

module _ (i : ℕ) (b : List ℕ) (bs : List (List ℕ)) (k : Kept) where
  more : Kept → Run Kept
  more = walk ecnforms (suc i) bs

  by_next : {n : Next (List Record)} → next_of k.form k.ssrc b ≡ n → rest i (b ∷ bs) k ≡ closed ecnforms (onward (turned i (taken k n)) more)
  unfolding walk more
  by_next e = ap (λ (n : Next (List Record)). closed ecnforms (onward (turned i (taken k n)) (walk ecnforms (suc i) bs))) e

  pub rest_ends : {refusal : Refusal} → next_of k.form k.ssrc b ≡ refuses refusal
      → rest i (b ∷ bs) k ≡ record { out = last_block (to k) k.ssrc k.held; err = refused_line (number_of refusal) i }
  unfolding closed
  rest_ends {refusal} e = by_next e ∙ closed_ends ecnforms (turned i (taken k (refuses refusal))) more (record { refusal = refusal; block = i }) refl

  pub rest_goes : {records : List Record} → next_of k.form k.ssrc b ≡ goes records
      → rest i (b ∷ bs) k ≡ both (to_output (blocks_with k records)) (rest (suc i) bs (next k records))
  unfolding more
  rest_goes {records} e = by_next e ∙ closed_goes ecnforms (turned i (taken k (goes records))) more refl

pub rest_none : (i : ℕ) (k : Kept) → rest i [] k ≡ record { out = last_block (to k) k.ssrc k.held; err = [] }
unfolding closed walk
rest_none i k = refl

-- ---- it is a packing

pub rest_packs : (i : ℕ) (bs : List (List ℕ)) (k : Kept) → length k.held < (to k).most
    → (rest i bs k).out ≡ packed (to k) k.ssrc (k.held ++ records_taken k.form k.ssrc bs)
unfolding records_taken
rest_packs i [] k h =
    ap (λ (p : Printed). p.out) (rest_none i k)
    ∙ sym (ap (packed (to k) k.ssrc) (append-nil k.held) ∙ packed_short (to k) k.ssrc k.held h)
rest_packs i (b ∷ bs) k h = go (next_of k.form k.ssrc b) refl (λ records. rest_packs (suc i) bs (next k records) (left_short (to k) (most_some (other_form k.form)) (k.held ++ records)))
  where
    go : (n : Next (List Record)) → next_of k.form k.ssrc b ≡ n
        → ((records : List Record) → (rest (suc i) bs (next k records)).out ≡ packed (to k) k.ssrc ((next k records).held ++ records_taken k.form k.ssrc bs))
        → (rest i (b ∷ bs) k).out ≡ packed (to k) k.ssrc (k.held ++ taken_from n (records_taken k.form k.ssrc bs))
    go (refuses refusal) e later =
        ap (λ (p : Printed). p.out) (rest_ends i b bs k e)
        ∙ sym (ap (packed (to k) k.ssrc) (append-nil k.held) ∙ packed_short (to k) k.ssrc k.held h)
    go (goes records) e later =
        let others = records_taken k.form k.ssrc bs in
        ap (λ (p : Printed). p.out) (rest_goes i b bs k e)
        ∙ ap (λ (s : List ℕ). blocks_with k records ++ s) (later records)
        ∙ sym (packed_parts (to k) k.ssrc (most_some (other_form k.form)) (k.held ++ records) others)
        ∙ ap (packed (to k) k.ssrc) (append_assoc k.held records others)

-- ---- from block 0 on

-- what is printed by what block 0 is
pub converted_by : (trace : List ℕ) {z : Result Zeroth Refusal} → zeroth_of (blocks_of trace).zeroth ≡ z
    → converted trace ≡ closed ecnforms (onward (turned 0 (begun (blocks_of trace).zeroth z)) (walk ecnforms 1 (blocks_of trace).others))
unfolding converted printed_by walked
converted_by trace e = ap (λ (z : Result Zeroth Refusal). closed ecnforms (onward (turned 0 (begun (blocks_of trace).zeroth z)) (walk ecnforms 1 (blocks_of trace).others))) e

module _ (trace : List ℕ) {form : Form} {n ssrc : ℕ} (e : block_of (blocks_of trace).zeroth ≡ Ok (read.Label form n ssrc)) where
  pub converted_started : converted trace
      ≡ both (to_output (label_block (shape_of (other_form form)) (take n (body_of (blocks_of trace).zeroth)) ssrc)) (rest 1 (blocks_of trace).others (record { form = form; ssrc = ssrc; held = [] }))
  converted_started =
      converted_by trace (zeroth_by_lem (blocks_of trace).zeroth e)
      ∙ closed_goes ecnforms (turned 0 (begun (blocks_of trace).zeroth (Ok (record { form = form; length = n; ssrc = ssrc })))) (walk ecnforms 1 (blocks_of trace).others) refl

-- a refused label gives no output
pub converted_refused : (trace : List ℕ) {refusal : Refusal} → zeroth_of (blocks_of trace).zeroth ≡ Err refusal
    → converted trace ≡ record { out = []; err = refused_line (number_of refusal) 0 }
unfolding closed
converted_refused trace {refusal} e =
    converted_by trace e ∙ closed_ends ecnforms (turned 0 (refused_label refusal)) (walk ecnforms 1 (blocks_of trace).others) (record { refusal = refusal; block = 0 }) refl

pub packs : Packs
packs trace form n ssrc e =
    let label = label_block (shape_of (other_form form)) (take n (body_of (blocks_of trace).zeroth)) ssrc in
    ap (λ (p : Printed). p.out) (converted_started trace e)
    ∙ ap (λ (s : List ℕ). label ++ s) (rest_packs 1 (blocks_of trace).others (record { form = form; ssrc = ssrc; held = [] }) (most_some (other_form form)))
