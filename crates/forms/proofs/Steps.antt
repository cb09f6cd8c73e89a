-- What a block does, case by case. Assumes nothing.
use Rattle.std.specs.Prelude.{None, Result, Ok, Err}
use Rattle.answers.specs.declared.Unwritten.{Unwritten}
use mathlib.Core.Path.{◌≡◌, refl, sym, ap, ap₂, ◌∙◌}
use mathlib.Core.Bool.{true, false}
use mathlib.Core.List.{List, [], ◌∷◌, ◌++◌}
use Prim.Native.Nat.{ℕ, ◌+◌, ◌-◌, ◌*◌, ◌/◌, ◌≤◌, ◌<◌}
use native.Mathlib.Omega.{arith}
use lib.ListN.{length, take, drop, length-drop}
use lib.Seq.{length-take-le}
use Rattle.answers.specs.Writers.{written, stored, Wrote}
use Rattle.answers.specs.declared.Refusal.{Refusal}
use Rattle.answers.specs.declared.Refusal.TheVariants.{Malformed, FormTwo}
use Rattle.answers.proofs.Stores.{wrote_refused, wrote_short, wrote_all, wrote_same}
use Rattle.numbers.proofs.BigEndian.{Octets}
use Rattle.format.specs.Blocks.{block_bytes, body_at, body_bytes}
use Rattle.format.specs.Forms.{shape_of, width, other_form}
use Rattle.format.specs.declared.Form.{Form}
use Rattle.format.specs.declared.Form.TheVariants.{One, Two}
use Rattle.format.proofs.Fits.{fits}
use Rattle.trace.specs.Accepted.{Holds}
use Rattle.trace.specs.Layout.{arrivals_block, records_block, body_of}
use Rattle.trace.specs.Reading.{block_of}
use Rattle.trace.specs.Places.{zeroth_of, later_of}
use Rattle.trace.specs.Theorems.{records_in}
use Rattle.trace.specs.Rewriting.{zeroth_fault, block_as}
use Rattle.trace.specs.Writing.{body_fault}
use Rattle.trace.specs.declared.Block.TheVariants as read
use Rattle.trace.specs.declared.Zeroth.{Zeroth}
use Rattle.trace.specs.declared.Record.{Record}
use Rattle.trace.proofs.Accepted.{accepted}
use Rattle.trace.proofs.Placed.{own_later}
use Rattle.trace.proofs.Records.{length-records_in}
use Rattle.walk.specs.Steps.{Next, goes, refuses}
use Rattle.walk.proofs.Putting.{step_refuses}
use Rattle.forms.specs.Packing.{full_blocks, full, left, last_block}
use Rattle.forms.specs.Conversions.{to_shape, begin_fault, begin_bytes, begin_by, Began, all_times, timed, next_by, next_of, held_in, sound, call_next, bytes_in, carries, carried_by, holding, TakesBlock, close_fault, close_bytes}
use Rattle.forms.specs.Steps.{Packable, Parted}
use Rattle.forms.specs.declared.Conversion.{Conversion}
use Rattle.forms.proofs.Held.{is_sound_lem, held_fits}
use Rattle.forms.proofs.Packed.{full_fits, length-left, length-full}
use Rattle.forms.proofs.Blocks.{block_is, no_fault}
use Rattle.forms.proofs.Parting.{many_records}

-- ---- how many records there are

few_by : (form : Form) (held n : ℕ) → held < (shape_of (other_form form)).most → n ≤ (shape_of form).most
    → (held + n ≤ 111) × ((held + n) * width (shape_of (other_form form)) ≤ 1110)
few_by One held n h k = (omega arith, omega arith)
few_by Two held n h k = (omega arith, omega arith)

pub few_records : {c : Conversion} {part body : List ℕ} {n : ℕ} → Packable c part n body → (c.held + n ≤ 111) × ((c.held + n) * width (to_shape c) ≤ 1110)
few_records {c} {part} {body} {n} ready = few_by c.form c.held n (is_sound_lem ready.whole).few ready.few

-- ---- what the call gives

module _ (c : Conversion) (part old : List ℕ) where
  pub takes_refuses : {next : Next (List Record)} {refusal : Refusal} → next ≡ refuses refusal
      → TakesBlock c part next old (record { answer = Err (Unwritten.Refused refusal); conversion = c }) part old
  takes_refuses {next} e = step_refuses (carries c part) (bytes_in c part next) old (ap (carried_by c part) e) refl refl

module _ {c : Conversion} {part body : List ℕ} {n : ℕ} (ready : Packable c part n body) (old : List ℕ) {to : Form} {most : ℕ}
    (et : to ≡ other_form c.form) (em : most ≡ (shape_of to).most) where
  abbrev more : List Record
  more = records_in (shape_of c.form) n body

  abbrev records : List Record
  records = held_in c part ++ more

  abbrev blocks : List ℕ
  blocks = full_blocks (to_shape c) c.ssrc (full (to_shape c) records) records

  most_is : most ≡ (to_shape c).most
  most_is = em ∙ ap (λ (f : Form). (shape_of f).most) et

  many : (c.held + n) / most ≡ full (to_shape c) records
  many = rw (most_is, many_records ready)

  -- the bytes of the full blocks
  size : (c.held + n) / most * block_bytes ≡ length blocks
  size =
      ap (λ (k : ℕ). k * block_bytes) many
      ∙ sym (length-full (to_shape c) c.ssrc (fits (other_form c.form)).room (full (to_shape c) records) records (full_fits (to_shape c) records))

  pub step_short : length old < (c.held + n) / most * block_bytes
      → TakesBlock c part (goes more) old (record { answer = Err (Unwritten.Room ((c.held + n) / most * block_bytes)); conversion = c }) part old
  step_short h = record { wrote = wrote_short {fault = None} blocks old refl (omega (arith, size)) size; after = refl }

  next_is : record { form = c.form; ssrc = c.ssrc; held = c.held + n - (c.held + n) / most * most } ≡ holding c records
  unfolding holding
  next_is =
      let kept : (c.held + n) / most * most ≡ full (to_shape c) records * (to_shape c).most = rw (most_is, many_records ready) in
      let held : c.held + n - (c.held + n) / most * most ≡ length (left (to_shape c) records) = omega (arith, kept, length-left (to_shape c) records, many_records ready) in
      λ i. record { form = c.form; ssrc = c.ssrc; held = held i }

  pub step_fits : {kept out : List ℕ} → (c.held + n) / most * block_bytes ≤ length old → Parted c records part old kept out
      → TakesBlock c part (goes more) old
      (record { answer = Ok ((c.held + n) / most * block_bytes); conversion = record { form = c.form; ssrc = c.ssrc; held = c.held + n - (c.held + n) / most * most } }) kept out
  step_fits h p = record { wrote = wrote_all {fault = None} blocks old refl (omega (arith, size)) size p.stores; after = λ i. carries (next_is i) (p.keeps i) }

-- ---- block 0

module _ (b old : List ℕ) where
  -- by what it is
  began_by : {z : Result Zeroth Refusal} {r : Result (Conversion × ℕ) Unwritten} {w : Result ℕ Unwritten} {out : List ℕ} → zeroth_of b ≡ z → Wrote (begin_fault z) (begin_bytes b z) old w out → begin_by z w ≡ r → Began b old r out
  began_by {z} e wrote er = record {
    answers = sym er ∙ ap (begin_by z) wrote.answers ∙ ap (λ (z : Result Zeroth Refusal). begin_by z (written (begin_fault z) (begin_bytes b z) old)) (sym e);
    stores = wrote.stores ∙ ap (λ (z : Result Zeroth Refusal). stored (begin_fault z) (begin_bytes b z) old) (sym e);
  }

  pub begin_refused : {refusal : Refusal} → zeroth_of b ≡ Err refusal → Began b old (Err (Unwritten.Refused refusal)) old
  begin_refused e = began_by e (wrote_refused [] old refl) refl

  -- a label is written again in the other form
  pub begin_label : {label : Zeroth} {to : Form} {w : Result ℕ Unwritten} {r : Result (Conversion × ℕ) Unwritten} {out : List ℕ} → zeroth_of b ≡ Ok label → to ≡ other_form label.form
      → Wrote (zeroth_fault (zeroth_of b)) (block_as to b (zeroth_of b)) old w out → begin_by (Ok label) w ≡ r → Began b old r out
  begin_label reads et w er =
      began_by reads (wrote_same (ap zeroth_fault reads) (ap₂ (λ (f : Form) (z : Result Zeroth Refusal). block_as f b z) et reads) w) er

-- ---- a later block

-- its contents lie in its body
pub body_holds : {b : List ℕ} {kind count ssrc used : ℕ} → Holds b kind count ssrc used → used ≤ length (body_of b)
body_holds {b} {kind} {count} {ssrc} {used} h = omega (arith, length-take-le body_bytes (drop body_at b) (rw length-drop (omega (arith, h.whole))), h.room)

module _ (c : Conversion) (part b : List ℕ) where
  pub call_malformed : sound c part ≡ false → call_next c part b ≡ refuses Malformed
  unfolding call_next
  call_malformed e = rw e

  pub call_sound : sound c part ≡ true → call_next c part b ≡ next_of c.form c.ssrc b
  unfolding call_next
  call_sound e = rw e

module _ (form : Form) (ssrc : ℕ) (b : List ℕ) where
  pub next_refused : {refusal : Refusal} → later_of form ssrc b ≡ Err refusal → next_of form ssrc b ≡ refuses refusal
  unfolding next_of
  next_refused e = ap (next_by form b) e

  module _ {n : ℕ} (e : block_of b ≡ Ok (read.Arrivals form n ssrc)) where
    next_timed : next_of form ssrc b ≡ timed (shape_of (other_form form)) (records_in (shape_of form) n (body_of b))
    unfolding next_of
    next_timed = ap (next_by form b) (own_later form ssrc b e)

    -- a time that the other form has no bytes for
    pub next_long : all_times (shape_of (other_form form)) (records_in (shape_of form) n (body_of b)) ≡ false → next_of form ssrc b ≡ refuses FormTwo
    unfolding timed
    next_long h = next_timed ∙ rw h

    pub next_goes : all_times (shape_of (other_form form)) (records_in (shape_of form) n (body_of b)) ≡ true → next_of form ssrc b ≡ goes (records_in (shape_of form) n (body_of b))
    unfolding timed
    next_goes h = next_timed ∙ rw h

-- what the packing asks
pub next_ready : {c : Conversion} {part : List ℕ} (b : List ℕ) {n : ℕ} → sound c part ≡ true → block_of b ≡ Ok (read.Arrivals c.form n c.ssrc)
    → all_times (to_shape c) (records_in (shape_of c.form) n (body_of b)) ≡ true → Packable c part n (body_of b)
next_ready b g e h =
    let a = accepted b e in
    record { whole = g; few = a.most; long = body_holds a.block; good = a.records; timed = h }

-- ---- the end

module _ (c : Conversion) (part old : List ℕ) where
  pub close_malformed : sound c part ≡ false → Wrote (close_fault c part) (close_bytes c part) old (Err (Unwritten.Refused Malformed)) old
  unfolding close_fault
  close_malformed e = wrote_refused (close_bytes c part) old (rw e)

  pub close_none : sound c part ≡ true → c.held ≡ 0 → Wrote (close_fault c part) (close_bytes c part) old (Ok 0) old
  unfolding close_fault records_in
  close_none g e =
      let empty : close_bytes c part ≡ [] = ap (λ (n : ℕ). last_block (to_shape c) c.ssrc (records_in (to_shape c) n part)) e in
      wrote_same (rw g) (sym empty) (wrote_all {fault = None} [] old refl (omega arith) refl refl)

  last_is : (rs : List Record) → 0 < length rs → arrivals_block (to_shape c) rs c.ssrc ≡ last_block (to_shape c) c.ssrc rs
  last_is [] h = absurd (omega arith)
  last_is (r ∷ rs) h = refl

  pub close_some : Octets part → sound c part ≡ true → 0 < c.held → {to : Form} {w : ℕ} {r : Result ℕ Unwritten} {out : List ℕ} → to ≡ other_form c.form → w ≡ width (shape_of to)
      → Wrote (body_fault (shape_of to) (take (c.held * w) part)) (records_block (shape_of to) (take (c.held * w) part) c.ssrc) old r out
      → Wrote (close_fault c part) (close_bytes c part) old r out
  unfolding close_fault
  close_some o g some {to} et ew wrote =
      let s = is_sound_lem g in
      let form = other_form c.form in
      let fit = held_fits c part s.room s.few in
      let wide = ew ∙ ap (λ (f : Form). width (shape_of f)) et in
      let bytes = ap (λ (k : ℕ). take (c.held * k) part) wide in
      wrote_same
      (ap₂ (λ (f : Form) (l : List ℕ). body_fault (shape_of f) l) et bytes ∙ no_fault form c.held part o fit s.good some (omega (arith, s.few)) ∙ rw g)
      (ap₂ (λ (f : Form) (l : List ℕ). records_block (shape_of f) l c.ssrc) et bytes ∙ block_is form c.held part o fit s.good c.ssrc ∙ last_is (held_in c part) (rw (length-records_in (to_shape c) c.held part) some))
      wrote
