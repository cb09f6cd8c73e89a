-- Document 01, "Trace file": what holds between reading and writing a block, whatever the form.
use Rattle.std.specs.Prelude.{◌≡◌, ℕ, zero, suc, ◌^◌, ◌<◌, true, List, [], ◌∷◌, length, take, drop, slice_index, slice_index_or, Option, None, Ok}
use Rattle.answers.specs.declared.Refusal.{Refusal}
use Rattle.format.specs.Blocks.{block_bytes, check_at}
use Rattle.format.specs.Forms.{Shape, shape_of, width}
use Rattle.format.specs.declared.Form.{Form}
use Rattle.trace.specs.Layout.{record_at, records_bytes, label_block, arrivals_block, records_block, body_of}
use Rattle.trace.specs.Contents.{label_ok}
use Rattle.trace.specs.Retired.{retired_in, spaced_label}
use Rattle.trace.specs.Reading.{right_check, block_of, found_at}
use Rattle.trace.specs.Writing.{retired_fault, label_fault, records_of, arrivals_fault}
use Rattle.trace.specs.declared.Block.TheVariants.{Label, Arrivals}
use Rattle.trace.specs.declared.Record.{Record}

-- every element is below the limit
abbrev pub Below : ℕ → List ℕ → Type 0
Below limit s = (i : ℕ) → slice_index s i < limit

-- ---- what a writer wrote reads back

-- to the same form, label and SSRC: any label that a trace may have, those with a retired byte too
abbrev pub LabelReadsBack : Type 0
LabelReadsBack =
    (form : Form) (label : List ℕ) (ssrc : ℕ) → label_ok label ≡ true → ssrc < 2 ^ 32
    → (block_of (label_block (shape_of form) label ssrc) ≡ Ok (Label form (length label) ssrc))
    × (take (length label) (body_of (label_block (shape_of form) label ssrc)) ≡ label)

-- to the same form, records and SSRC
abbrev pub ArrivalsReadBack : Type 0
ArrivalsReadBack =
    (form : Form) (times numbers marks : List ℕ) (ssrc : ℕ) → arrivals_fault (shape_of form) times numbers marks ≡ None
    → Below (2 ^ 16) numbers → ssrc < 2 ^ 32
    → (block_of (arrivals_block (shape_of form) (records_of times numbers marks) ssrc) ≡ Ok (Arrivals form (length times) ssrc))
    × ((i : ℕ) → i < length times
    → found_at (arrivals_block (shape_of form) (records_of times numbers marks) ssrc) i
    ≡ Ok (record { time = slice_index times i; number = record { 0 = slice_index numbers i }; mark = slice_index marks i }))

-- ---- a block of records is that of their bytes

abbrev pub RecordsByBytes : Type 0
RecordsByBytes = (form : Form) (records : List Record) (ssrc : ℕ) → records_block (shape_of form) (records_bytes (shape_of form) records) ssrc ≡ arrivals_block (shape_of form) records ssrc

-- ---- each content has one check word

abbrev pub OneCheck : Type 0
OneCheck =
    (b c : List ℕ) → Below 256 b → Below 256 c → length b ≡ block_bytes → length c ≡ block_bytes → right_check b ≡ true → right_check c ≡ true
    → take check_at b ≡ take check_at c → b ≡ c

-- ---- an accepted block is the one that its contents make

-- its label is one that a trace may have, and the writer refuses it only if a byte of it is retired, with 19
abbrev pub LabelIsWritten : Type 0
LabelIsWritten =
    (form : Form) (b : List ℕ) (n ssrc : ℕ) → Below 256 b → block_of b ≡ Ok (Label form n ssrc)
    → (label_ok (take n (body_of b)) ≡ true) × (length (take n (body_of b)) ≡ n) × (b ≡ label_block (shape_of form) (take n (body_of b)) ssrc)
    × (label_fault (take n (body_of b)) ≡ retired_fault (take n (body_of b)))

-- the first n records of a body
unfoldable pub records_in : Shape → ℕ → List ℕ → List Record
records_in shape zero s = []
records_in shape (suc n) s = record_at shape s 0 ∷ records_in shape n (drop (width shape) s)

-- the lists that the writer takes
unfoldable pub list_of : (Record → ℕ) → List Record → List ℕ
list_of field [] = []
list_of field (r ∷ rs) = field r ∷ list_of field rs

abbrev pub records_fault : Shape → List Record → Option Refusal
records_fault shape rs = arrivals_fault shape (list_of (λ r. r.time) rs) (list_of (λ r. r.number.0) rs) (list_of (λ r. r.mark) rs)

-- its records are some that the writer takes, and those that are found in it
abbrev pub ArrivalsAreWritten : Type 0
ArrivalsAreWritten =
    (form : Form) (b : List ℕ) (n ssrc : ℕ) → Below 256 b → block_of b ≡ Ok (Arrivals form n ssrc)
    → (records_fault (shape_of form) (records_in (shape_of form) n (body_of b)) ≡ None)
    × ((i : ℕ) (other : Record) → i < n → found_at b i ≡ Ok (slice_index_or (records_in (shape_of form) n (body_of b)) i other))
    × (b ≡ arrivals_block (shape_of form) (records_in (shape_of form) n (body_of b)) ssrc)

-- ---- block 0 with its label spaced (request L14)

-- it reads as a label of the same form, length and SSRC, the spaced one, which has no retired byte and which the writer takes; and if no byte was retired,
-- it is the block that was given
pub record SpacedFrom (form : Form) (b : List ℕ) (n ssrc : ℕ) (new : List ℕ) : Type 0 where
  pub label : block_of new ≡ Ok (Label form n ssrc)
  pub text : take n (body_of new) ≡ spaced_label (take n (body_of b))
  pub none_left : retired_in (take n (body_of new)) ≡ 0
  pub taken : label_fault (take n (body_of new)) ≡ None
  pub same : retired_in (take n (body_of b)) ≡ 0 → new ≡ b

abbrev pub SpacedReads : Type 0
SpacedReads =
    (form : Form) (b : List ℕ) (n ssrc : ℕ) → Below 256 b → block_of b ≡ Ok (Label form n ssrc)
    → SpacedFrom form b n ssrc (label_block (shape_of form) (spaced_label (take n (body_of b))) ssrc)
