-- What is carried from block to block, and the program's state with it. Assumes nothing.
use Rattle.std.specs.Prelude.{Some, None}
use mathlib.Core.Path.{◌≡◌, refl, sym, ap, ap₂, ◌∙◌, subst}
use mathlib.Core.Bool.{true}
use mathlib.Core.List.{List, [], ◌++◌}
use Prim.Native.Nat.{ℕ, ◌*◌, ◌≤◌, ◌<◌}
use native.Mathlib.Omega.{arith}
use lib.ListN.{length}
use lib.Seq.{length-sets, take-length}
use Rattle.answers.specs.declared.Refusal.{Refusal}
use Rattle.numbers.proofs.BigEndian.{Octets}
use Rattle.format.specs.Blocks.{body_bytes}
use Rattle.format.specs.Forms.{width, other_form}
use Rattle.format.specs.declared.Form.{Form}
use Rattle.format.proofs.Fits.{fits, records_fit}
use Rattle.trace.specs.Contents.{every, good_records}
use Rattle.trace.specs.Layout.{records_bytes}
use Rattle.trace.specs.Theorems.{records_in, list_of}
use Rattle.trace.specs.declared.Record.{Record}
use Rattle.walk.specs.Programs.{nothing, to_output}
use Rattle.walk.specs.Steps.{Next, goes, refuses}
use Rattle.forms.specs.Packing.{full, left}
use Rattle.forms.specs.Conversions.{to_shape, next_of, held_in, sound, bytes_in, Carried, carries, holding, part_with, carried_by}
use Rattle.forms.specs.Converted.{Kept, kept_of, taken, ecnforms}
use Rattle.forms.specs.Pieces.{next_in}
use Rattle.forms.specs.declared.Conversion.{Conversion}
use Rattle.forms.proofs.Held.{Sound, is_sound_lem}
use Rattle.forms.proofs.Packed.{most_some, left_short}
use Rattle.forms.proofs.Gathered.{Fine, fine_append, fine_drop, fine_in, good_first, read_first}
use Rattle.forms.proofs.Whole.{brings, fine_there}

-- ---- what is held

-- what is known of it
pub record Holds (c : Conversion) (part : List ℕ) : Type 0 where
  pub sound : Sound c part
  pub fine : Fine (to_shape c) (held_in c part)

-- the next conversion and part
module _ (c : Conversion) (part : List ℕ) (rs : List Record) where
  abbrev over : List Record
  over = left (to_shape c) rs

  abbrev pub after : Conversion
  after = holding c rs

  abbrev pub stays : List ℕ
  stays = part_with c part rs

module _ (c : Conversion) (part : List ℕ) (room : body_bytes ≤ length part) (rs : List Record) (fine : Fine (to_shape c) rs) where
  short : length (over c part rs) < (to_shape c).most
  short = left_short (to_shape c) (most_some (other_form c.form)) rs

  inside : length (over c part rs) * width (to_shape c) ≤ length part
  inside = omega (arith, records_fit (fits (other_form c.form)) {n = length (over c part rs)} (omega (arith, short)))

  fine_over : Fine (to_shape c) (over c part rs)
  fine_over = fine_drop (to_shape c) (full (to_shape c) rs * (to_shape c).most) fine

  held_is : held_in (after c part rs) (stays c part rs) ≡ (over c part rs)
  unfolding holding
  held_is = read_first (to_shape c) (over c part rs) fine_over part inside refl (length (over c part rs)) (omega arith) ∙ take-length (over c part rs)

  pub kept_is : kept_of (after c part rs) (stays c part rs) ≡ record { form = c.form; ssrc = c.ssrc; held = (over c part rs) }
  unfolding holding
  kept_is = ap (λ (l : List Record). record { form = c.form; ssrc = c.ssrc; held = l }) held_is

  pub holds_next : Holds (after c part rs) (stays c part rs)
  unfolding holding
  holds_next = record {
    sound = record {
      room = rw (length-sets part 0 (records_bytes (to_shape c) (over c part rs))) room;
      few = short;
      good = good_first (to_shape c) (over c part rs) fine_over part inside refl (length (over c part rs)) (omega arith);
    };
    fine = rw held_is fine_over;
  }

-- a sound conversion with a part of bytes
pub holds_sound : {c : Conversion} {part : List ℕ} → Octets part → sound c part ≡ true → Holds c part
holds_sound {c} {part} o g = let s = is_sound_lem g in record { sound = s; fine = fine_in (to_shape c) c.held part o s.good }

-- a conversion that holds no record
pub holds_none : (form : Form) (ssrc : ℕ) (part : List ℕ) → body_bytes ≤ length part → Holds (record { form = form; ssrc = ssrc; held = 0 }) part
unfolding good_records records_in every list_of
holds_none form ssrc part room = record { sound = record { room = room; few = most_some (other_form form); good = refl }; fine = record { shaped = tt; marked = refl } }

pub kept_none : (form : Form) (ssrc : ℕ) (part : List ℕ) → kept_of (record { form = form; ssrc = ssrc; held = 0 }) part ≡ record { form = form; ssrc = ssrc; held = [] }
unfolding records_in
kept_none form ssrc part = refl

pub fine_all : {c : Conversion} {part : List ℕ} → Holds c part → (b : List ℕ) {records : List Record} → next_of c.form c.ssrc b ≡ goes records → Octets b
    → Fine (to_shape c) (held_in c part ++ records)
fine_all {c} h b e o = fine_append (to_shape c) h.fine (fine_there (brings c.form c.ssrc b e) o)

-- ---- a block's turn, by what is carried behind it

-- a block that is taken
pub record Turns (c : Conversion) (part b : List ℕ) (s : Carried) : Type 0 where
  pub turn : (i : ℕ)
      → ecnforms.step i (kept_of c part) b
      ≡ record { state = kept_of s.conversion s.part; printed = to_output (bytes_in c part (next_of c.form c.ssrc b)); refusal = None }
  pub holds : Holds s.conversion s.part
  pub after : next_in (carries c part) (carried_by c part (next_of c.form c.ssrc b)) ≡ s

module _ {c : Conversion} {part : List ℕ} (h : Holds c part) (b : List ℕ) (o : Octets b) where
  turn_records : {records : List Record} → next_of c.form c.ssrc b ≡ goes records
      → Turns c part b (carries (holding c (held_in c part ++ records)) (part_with c part (held_in c part ++ records)))
  turn_records {records} e =
      let rs = held_in c part ++ records in
      let fine = fine_all h b e o in
      record {
        turn = λ i.
            ap (taken (kept_of c part)) e
            ∙ ap₂ (λ (k : Kept) (n : Next (List Record)). record { state = k; printed = to_output (bytes_in c part n); refusal = None }) (sym (kept_is c part h.sound.room rs fine)) (sym e);
        holds = holds_next c part h.sound.room rs fine;
        after = ap (λ (n : Next (List Record)). next_in (carries c part) (carried_by c part n)) e;
      }

  pub turn_goes : {s : Carried} → carried_by c part (next_of c.form c.ssrc b) ≡ goes s → Turns c part b s
  turn_goes {s} = go (next_of c.form c.ssrc b) refl
    where
      go : (n : Next (List Record)) → next_of c.form c.ssrc b ≡ n → carried_by c part n ≡ goes s → Turns c part b s
      go (refuses refusal) e q = let z : ◌≡◌ {A = ℕ} 0 1 = cc in absurd (omega arith)
      go (goes records) e q =
          let same : carries (holding c (held_in c part ++ records)) (part_with c part (held_in c part ++ records)) ≡ s = cc in
          subst (Turns c part b) same (turn_records e)

-- a block that is refused
pub turn_refuses : (c : Conversion) (part b : List ℕ) {refusal : Refusal} → carried_by c part (next_of c.form c.ssrc b) ≡ refuses refusal → (i : ℕ)
    → ecnforms.step i (kept_of c part) b ≡ record { state = kept_of c part; printed = nothing; refusal = Some refusal }
turn_refuses c part b {refusal} q i = go (next_of c.form c.ssrc b) q
  where
    go : (n : Next (List Record)) → carried_by c part n ≡ refuses refusal → taken (kept_of c part) n ≡ record { state = kept_of c part; printed = nothing; refusal = Some refusal }
    go (goes records) q = let z : ◌≡◌ {A = ℕ} 0 1 = cc in absurd (omega arith)
    go (refuses other) q = let same : other ≡ refusal = cc in ap (λ (r : Refusal). record { state = kept_of c part; printed = nothing; refusal = Some r }) same
