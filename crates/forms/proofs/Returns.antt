-- There and back. Assumes nothing.
use Rattle.std.specs.Prelude.{Ok}
use mathlib.Core.Path.{◌≡◌, refl, sym, ap, ap₂, ◌∙◌, subst}
use mathlib.Core.Bool.{true}
use mathlib.Core.List.{List, [], ◌∷◌, ◌++◌}
use Prim.Native.Nat.{ℕ, suc, ◌^◌, ◌≤◌, ◌<◌}
use native.Mathlib.Omega.{arith}
use lib.ListN.{length, take, drop, length-append}
use lib.Seq.{take_at, drop_at}
use Rattle.answers.specs.Refusals.{number_of}
use Rattle.numbers.proofs.BigEndian.{Octets, word_lt}
use Rattle.format.specs.Blocks.{block_bytes}
use Rattle.format.specs.Forms.{Shape, shape_of, other_form}
use Rattle.format.specs.declared.Form.{Form}
use Rattle.format.specs.declared.Form.TheVariants.{One, Two}
use Rattle.trace.specs.Contents.{every, is_time, label_ok}
use Rattle.trace.specs.Layout.{label_block, body_of}
use Rattle.trace.specs.Reading.{block_of}
use Rattle.trace.specs.Theorems.{records_in, list_of}
use Rattle.trace.specs.declared.Block.TheVariants.{Label}
use Rattle.trace.specs.declared.Record.{Record}
use Rattle.trace.proofs.Accepted.{accepted}
use Rattle.trace.proofs.Layouts.{length-label_block}
use Rattle.numbers.proofs.Octets.{octets_take, octets_drop}
use Rattle.trace.proofs.Records.{times, list_append, of_shape_times}
use Rattle.trace.proofs.Theorems.{label_is_written, label_reads_back}
use Rattle.table.specs.Lines.{refused_line}
use Rattle.walk.specs.Blocks.{cut, blocks_of, joined}
use Rattle.walk.specs.Programs.{Printed}
use Rattle.walk.specs.Steps.{Next, goes, refuses}
use Rattle.walk.proofs.Cuts.{Each, cut_joined, joined_long}
use Rattle.forms.specs.Packing.{full, packed}
use Rattle.forms.specs.Conversions.{all_times, next_of}
use Rattle.forms.specs.Converted.{Kept, converted}
use Rattle.forms.specs.Theorems.{taken_from, records_taken, Convertible, ConvertsWhole, Reads, ConvertedReads, Returns, SameRecords}
use Rattle.forms.proofs.Gathered.{Fine, fine_append, fine_other, every_append}
use Rattle.forms.proofs.Steps.{next_goes}
use Rattle.forms.proofs.Whole.{brings, fine_brought, next, rest, rest_none, rest_ends, rest_goes, converted_started, packs}
use Rattle.walk.proofs.Pieces.{octets_blocks}
use Rattle.forms.proofs.Written.{octets_packed}
use Rattle.forms.proofs.Traces.{blocks_in, packed_joined, Goes, Brought, packed_brought}

-- ---- a run that tells of no refused block has none

line_some : (n i : ℕ) → refused_line n i ≡ [] → ⊥
unfolding refused_line
line_some n i e = let z = ap length e in omega arith

pub going_on : (i : ℕ) (bs : List (List ℕ)) (k : Kept) → (rest i bs k).err ≡ [] → Each (Goes k.form k.ssrc) bs
going_on i [] k h = tt
going_on i (b ∷ bs) k h = go (next_of k.form k.ssrc b) refl (λ records. going_on (suc i) bs (next k records))
  where
    go : (n : Next (List Record)) → next_of k.form k.ssrc b ≡ n → ((records : List Record) → (rest (suc i) bs (next k records)).err ≡ [] → Each (Goes k.form k.ssrc) bs)
        → Each (Goes k.form k.ssrc) (b ∷ bs)
    go (refuses refusal) e later = absurd (line_some (number_of refusal) i (sym (ap (λ (p : Printed). p.err) (rest_ends i b bs k e)) ∙ h))
    go (goes records) e later = (record { records = records; goes_on_lem = e }, later records (sym (ap (λ (p : Printed). p.err) (rest_goes i b bs k e)) ∙ h))

nothing_told : (i : ℕ) (bs : List (List ℕ)) (k : Kept) → Each (Goes k.form k.ssrc) bs → (rest i bs k).err ≡ []
nothing_told i [] k g = ap (λ (p : Printed). p.err) (rest_none i k)
nothing_told i (b ∷ bs) k g = ap (λ (p : Printed). p.err) (rest_goes i b bs k g.0.goes_on_lem) ∙ nothing_told (suc i) bs (next k g.0.records) g.1

-- blocks that hold what the other form has bytes for go on
can_go : (form : Form) (ssrc : ℕ) (bs : List (List ℕ)) → Convertible form ssrc bs → Each (Goes form ssrc) bs
can_go form ssrc [] c = tt
can_go form ssrc (b ∷ bs) c = (record { records = records_in (shape_of form) c.0 (body_of b); goes_on_lem = next_goes form ssrc b c.1 c.2 }, can_go form ssrc bs c.3)

pub converts_whole : ConvertsWhole
converts_whole trace form n ssrc label c =
    ap (λ (p : Printed). p.err) (converted_started trace label)
    ∙ nothing_told 1 (blocks_of trace).others (record { form = form; ssrc = ssrc; held = [] }) (can_go form ssrc (blocks_of trace).others c)

-- ---- both forms have bytes for the records of a trace

module _ (form : Form) (ssrc : ℕ) where
  abbrev own : Shape
  own = shape_of form

  abbrev other : Shape
  other = shape_of (other_form form)

  fine_none : Fine own []
  unfolding every list_of
  fine_none = record { shaped = tt; marked = refl }

  times_none : all_times other [] ≡ true
  unfolding every list_of
  times_none = refl

  taken_fine : (bs : List (List ℕ)) → Each Octets bs → Fine own (records_taken form ssrc bs) × (all_times other (records_taken form ssrc bs) ≡ true)
  unfolding records_taken
  taken_fine [] o = (fine_none, times_none)
  taken_fine (b ∷ bs) o = go (next_of form ssrc b) refl (taken_fine bs o.1)
    where
      go : (n : Next (List Record)) → next_of form ssrc b ≡ n → Fine own (records_taken form ssrc bs) × (all_times other (records_taken form ssrc bs) ≡ true)
          → Fine own (taken_from n (records_taken form ssrc bs)) × (all_times other (taken_from n (records_taken form ssrc bs)) ≡ true)
      go (refuses refusal) e later = (fine_none, times_none)
      go (goes records) e later =
          let br = brings form ssrc b e in
          let more = records_taken form ssrc bs in (
            fine_append own (fine_brought br o.0) later.0,
            rw (list_append (λ r. r.time) records more) (every_append (is_time other) (times records) (times more) br.timed later.1),
          )

-- ---- a label and a packing as a trace

module _ (form : Form) (label : List ℕ) (ssrc : ℕ) (rs : List Record) where
  abbrev first : List ℕ
  first = label_block (shape_of form) label ssrc

  abbrev blocks : List (List ℕ)
  blocks = blocks_in (shape_of form) ssrc (full (shape_of form) rs) rs

  abbrev made : List ℕ
  made = first ++ packed (shape_of form) ssrc rs

module _ (form : Form) (label : List ℕ) (ssrc : ℕ) (rs : List Record) (good : label_ok label ≡ true) (short : length label ≤ 502) (small : ssrc < 2 ^ 32)
    (fine : Fine (shape_of form) rs) (timed : all_times (shape_of (other_form form)) rs ≡ true) where
  abbrev head : List ℕ
  head = first form label ssrc rs

  abbrev trace : List ℕ
  trace = made form label ssrc rs

  abbrev pieces : List (List ℕ)
  pieces = blocks form label ssrc rs

  are : Brought form ssrc pieces rs
  are = packed_brought form ssrc small rs fine timed

  first_long : length head ≡ block_bytes
  first_long = length-label_block (shape_of form) label ssrc short

  pub zeroth_is : (blocks_of trace).zeroth ≡ head
  unfolding blocks_of
  zeroth_is = take_at head (packed (shape_of form) ssrc rs) block_bytes first_long

  others_are : (blocks_of trace).others ≡ pieces
  unfolding blocks_of
  others_are =
      let rest = packed (shape_of form) ssrc rs in
      let split : drop block_bytes trace ≡ joined pieces = drop_at head rest block_bytes first_long ∙ packed_joined (shape_of form) ssrc rs in
      let many = joined_long pieces are.whole in
      ap (cut (length trace)) split
      ∙ cut_joined (length trace) pieces are.whole (omega (arith, many, length-append head rest, ap length (packed_joined (shape_of form) ssrc rs)))

  pub label_read : block_of (blocks_of trace).zeroth ≡ Ok (Label form (length label) ssrc)
  label_read = ap block_of zeroth_is ∙ (label_reads_back form label ssrc good small).0

  pub text_read : take (length label) (body_of (blocks_of trace).zeroth) ≡ label
  text_read = ap (λ (b : List ℕ). take (length label) (body_of b)) zeroth_is ∙ (label_reads_back form label ssrc good small).1

  pub records_back : records_taken form ssrc (blocks_of trace).others ≡ rs
  records_back = ap (records_taken form ssrc) others_are ∙ are.bring

  pub accepted_back : (converted trace).err ≡ []
  accepted_back =
      ap (λ (p : Printed). p.err) (converted_started trace label_read)
      ∙ ap (λ (bs : List (List ℕ)). (rest 1 bs (record { form = form; ssrc = ssrc; held = [] })).err) others_are
      ∙ nothing_told 1 pieces (record { form = form; ssrc = ssrc; held = [] }) are.going

  pub converted_back : (converted trace).out ≡ label_block (shape_of (other_form form)) label ssrc ++ packed (shape_of (other_form form)) ssrc rs
  converted_back =
      packs trace form (length label) ssrc label_read
      ∙ ap₂ (λ (l : List ℕ) (rs : List Record). label_block (shape_of (other_form form)) l ssrc ++ packed (shape_of (other_form form)) ssrc rs) text_read records_back

-- ---- there and back

twice : (form : Form) → other_form (other_form form) ≡ form
twice One = refl
twice Two = refl

module _ (trace : List ℕ) (form : Form) (n ssrc : ℕ) (o : Octets trace) (e : block_of (blocks_of trace).zeroth ≡ Ok (Label form n ssrc)) where
  abbrev zeroth : List ℕ
  zeroth = (blocks_of trace).zeroth

  abbrev label : List ℕ
  label = take n (body_of zeroth)

  abbrev records : List Record
  records = records_taken form ssrc (blocks_of trace).others

  zeroth_octets : Octets zeroth
  unfolding blocks_of
  zeroth_octets = octets_take block_bytes trace o

  pub label_written : (label_ok label ≡ true) × (length label ≡ n) × (zeroth ≡ label_block (shape_of form) label ssrc)
  label_written = let w = label_is_written form zeroth n ssrc zeroth_octets e in (w.0, w.1, w.2)

  label_short : length label ≤ 502
  label_short = omega (arith, label_written.1, (accepted zeroth e).block.room)

  ssrc_small : ssrc < 2 ^ 32
  ssrc_small = rw (← (accepted zeroth e).block.its_ssrc) (word_lt zeroth 4 4 zeroth_octets)

  records_fine : Fine (shape_of form) records × (all_times (shape_of (other_form form)) records ≡ true)
  records_fine = taken_fine form ssrc (blocks_of trace).others (octets_blocks trace (octets_drop block_bytes trace o))

  -- the records in the other form, which has bytes for them, as this one has
  there_fine : Fine (shape_of (other_form form)) records
  there_fine = fine_other (shape_of form) (shape_of (other_form form)) records_fine.0 records_fine.1

  there_timed : all_times (shape_of (other_form (other_form form))) records ≡ true
  there_timed = rw (twice form) (of_shape_times (shape_of form) records records_fine.0.shaped)

  there : (converted trace).out ≡ made (other_form form) label ssrc records
  there = packs trace form n ssrc e

  pub back : (converted (converted trace).out).out ≡ made form label ssrc records
  back =
      ap (λ (t : List ℕ). (converted t).out) there
      ∙ converted_back (other_form form) label ssrc records label_written.0 label_short ssrc_small there_fine there_timed
      ∙ ap (λ (f : Form). made f label ssrc records) (twice form)

  there_octets : Octets (drop block_bytes (converted trace).out)
  there_octets =
      let head = label_block (shape_of (other_form form)) label ssrc in
      let rest = packed (shape_of (other_form form)) ssrc records in
      let split : drop block_bytes (converted trace).out ≡ rest = ap (drop block_bytes) there ∙ drop_at head rest block_bytes (length-label_block (shape_of (other_form form)) label ssrc label_short) in
      subst Octets (sym split) (octets_packed (shape_of (other_form form)) ssrc records there_fine)

  read : Reads trace form n ssrc
  read =
      let to = other_form form in
      let long : length label ≡ n = label_written.1 in
      let its = label_read to label ssrc records label_written.0 label_short ssrc_small there_fine there_timed in
      let text = text_read to label ssrc records label_written.0 label_short ssrc_small there_fine there_timed in
      record {
        label = ap (λ (t : List ℕ). block_of (blocks_of t).zeroth) there ∙ its ∙ ap (λ (k : ℕ). Ok (Label to k ssrc)) long;
        text = ap (λ (t : List ℕ). take n (body_of (blocks_of t).zeroth)) there ∙ ap (λ (k : ℕ). take k (body_of (blocks_of (made to label ssrc records)).zeroth)) (sym long) ∙ text;
        records = ap (λ (t : List ℕ). records_taken to ssrc (blocks_of t).others) there ∙ records_back to label ssrc records label_written.0 label_short ssrc_small there_fine there_timed;
      }

  return : Returns trace form ssrc
  return = record {
    accepted = ap (λ (t : List ℕ). (converted t).err) there ∙ accepted_back (other_form form) label ssrc records label_written.0 label_short ssrc_small there_fine there_timed;
    label = ap (λ (t : List ℕ). (blocks_of t).zeroth) back ∙ zeroth_is form label ssrc records label_written.0 label_short ssrc_small records_fine.0 records_fine.1 ∙ sym label_written.2;
    records = ap (λ (t : List ℕ). records_taken form ssrc (blocks_of t).others) back ∙ records_back form label ssrc records label_written.0 label_short ssrc_small records_fine.0 records_fine.1;
  }

-- and it is bytes
pub converted_octets : (trace : List ℕ) (form : Form) (n ssrc : ℕ) → Octets trace → block_of (blocks_of trace).zeroth ≡ Ok (Label form n ssrc) → Octets (drop block_bytes (converted trace).out)
converted_octets trace form n ssrc o e = there_octets trace form n ssrc o e

pub converted_reads : ConvertedReads
converted_reads trace form n ssrc o e = read trace form n ssrc o e

pub same_records : SameRecords
same_records trace form n ssrc o e = return trace form n ssrc o e
