-- Request L10: what holds between the calls, the packing and the two forms.
use Rattle.answers.specs.declared.Unwritten.{Unwritten}
use Rattle.answers.specs.declared.Refusal.{Refusal}
use Rattle.std.specs.Prelude.{◌≡◌, true, List, [], ◌∷◌, ◌++◌, ℕ, ◌*◌, ◌^◌, ◌≤◌, ◌<◌, length, take, Some, Result, Ok, Err}
use Rattle.format.specs.Blocks.{block_bytes, body_bytes}
use Rattle.format.specs.Forms.{shape_of, other_form}
use Rattle.format.specs.declared.Form.{Form}
use Rattle.trace.specs.Layout.{label_block, body_of}
use Rattle.trace.specs.Reading.{count_in, block_of}
use Rattle.trace.specs.Places.{zeroth_of}
use Rattle.trace.specs.Theorems.{Below, records_in}
use Rattle.trace.specs.declared.Block.TheVariants.{Label, Arrivals}
use Rattle.trace.specs.declared.Record.{Record}
use Rattle.trace.specs.declared.Zeroth.{Zeroth}
use Rattle.walk.specs.Blocks.{blocks_of}
use Rattle.walk.specs.Programs.{Printed, ending_at}
use Rattle.walk.specs.Pieces.{Octets}
use Rattle.walk.specs.Steps.{Next, goes, refuses}
use Rattle.walk.specs.Machines.{Session}
use Rattle.walk.specs.Singles.{Singles, singly}
use Rattle.forms.specs.Packing.{packed}
use Rattle.forms.specs.Conversions.{begin_bytes, begin_of, begin_stored, next_of, call_next, bytes_in, Carried, carries, carried_by, answer_of, stored_of, after_of, close_fault, close_bytes, all_times}
use Rattle.forms.specs.Converted.{told, converted}
use Rattle.forms.specs.Pieces.{end_by}
use Rattle.forms.specs.declared.Conversion.{Conversion}

-- ---- what is printed is a packing

-- the records of a trace's blocks, those before the first refused one
abbrev pub taken_from : Next (List Record) → List Record → List Record
taken_from (goes records) more = records ++ more
taken_from (refuses refusal) more = []

unfoldable pub records_taken : Form → ℕ → List (List ℕ) → List Record
records_taken form ssrc [] = []
records_taken form ssrc (b ∷ bs) = taken_from (next_of form ssrc b) (records_taken form ssrc bs)

-- the label of block 0 in the other form, and the records packed
abbrev pub Packs : Type 0
Packs =
    (trace : List ℕ) (form : Form) (n ssrc : ℕ) → block_of (blocks_of trace).zeroth ≡ Ok (Label form n ssrc)
    → (converted trace).out
    ≡ label_block (shape_of (other_form form)) (take n (body_of (blocks_of trace).zeroth)) ssrc
    ++ packed (shape_of (other_form form)) ssrc (records_taken form ssrc (blocks_of trace).others)

-- ---- the calls for one block each, on the conversion and the part that the call before handed back; `part` is lent to the first

abbrev pub started_on : List ℕ → Result Zeroth Refusal → Next Carried
started_on part (Ok label) = goes (carries (record { form = label.form; ssrc = label.ssrc; held = 0 }) part)
started_on part (Err refusal) = refuses refusal

-- what a block brings to them
abbrev pub brought_to : Carried → List ℕ → Next (List Record)
brought_to s b = call_next s.conversion s.part b

abbrev pub block_calls : List ℕ → Singles Carried
block_calls part = record {
  start = λ b. started_on part (zeroth_of b);
  head = λ b. begin_bytes b (zeroth_of b);
  next = λ s b. carried_by s.conversion s.part (brought_to s b);
  bytes = λ s b. bytes_in s.conversion s.part (brought_to s b);
  end = λ s e. end_by (record { out = close_bytes s.conversion s.part; err = told e }) (close_fault s.conversion s.part);
  over = λ refusal. record { out = []; err = told (ending_at 0 (Some refusal)) };
}

-- what the calls over a trace's blocks and the closing call write, and the line of the refused block, if there is one, are what ecnforms prints on both outputs
abbrev pub CallsConvert : Type 0
CallsConvert =
    (part trace : List ℕ) (q : Printed) → body_bytes ≤ length part → Octets trace → length trace < block_bytes * 2 ^ 64 → Session (singly (block_calls part)) trace q
    → q ≡ converted trace

-- ---- 12 says how much room is missing

-- the call on block 0: with an output of exactly n bytes it starts a conversion and changes all of them to the label block
pub record RoomForLabel (zeroth : List ℕ) (n : ℕ) : Type 0 where
  pub after : Conversion
  pub given : (out : List ℕ) → length out ≡ n → begin_of zeroth out ≡ Ok (after, n)
  pub changed : (out : List ℕ) → length out ≡ n → begin_stored zeroth out ≡ begin_bytes zeroth (zeroth_of zeroth)
  pub fewer : (out : List ℕ) → length out < n → (begin_of zeroth out ≡ Err (Unwritten.Room n)) × (begin_stored zeroth out ≡ out)

abbrev pub LabelRoomIsExact : Type 0
LabelRoomIsExact = (zeroth old : List ℕ) (n : ℕ) → begin_of zeroth old ≡ Err (Unwritten.Room n) → RoomForLabel zeroth n

-- where a later call's answer is 12 with n, the same call with an output of exactly n bytes takes the block and changes all of them to the full blocks, and
-- with any fewer bytes it gives 12 with the same n and changes nothing
pub record RoomForBlocks (c : Conversion) (part : List ℕ) (next : Next (List Record)) (n : ℕ) : Type 0 where
  pub after : Carried
  pub given : (out : List ℕ) → length out ≡ n → (answer_of c part next out ≡ Ok n) × (after_of c part next out ≡ after)
  pub changed : (out : List ℕ) → length out ≡ n → stored_of c part next out ≡ bytes_in c part next
  pub fewer : (out : List ℕ) → length out < n
      → (answer_of c part next out ≡ Err (Unwritten.Room n)) × (stored_of c part next out ≡ out) × (after_of c part next out ≡ carries c part)

abbrev pub BlocksRoomIsExact : Type 0
BlocksRoomIsExact =
    (c : Conversion) (part : List ℕ) (next : Next (List Record)) (old : List ℕ) (n : ℕ) → answer_of c part next old ≡ Err (Unwritten.Room n) → RoomForBlocks c part next n

-- a call for a block writes 0, 512 or 1,024 bytes, or asks for so many: the blocks that are full with its records are at most two
abbrev pub BlocksAreFew : Type 0
BlocksAreFew = (c : Conversion) (part b : List ℕ) → (k : ℕ) × (k ≤ 2) × (length (bytes_in c part (call_next c part b)) ≡ k * block_bytes)

-- ---- a trace that is converted whole

-- each block holds arrivals of this form and SSRC, with times that the other form has bytes for
abbrev pub Convertible : Form → ℕ → List (List ℕ) → Type 0
Convertible form ssrc [] = Unit {0}
Convertible form ssrc (b ∷ bs) =
    (n : ℕ) × (block_of b ≡ Ok (Arrivals form n ssrc)) × (all_times (shape_of (other_form form)) (records_in (shape_of form) n (body_of b)) ≡ true)
    × Convertible form ssrc bs

-- then no block is refused
abbrev pub ConvertsWhole : Type 0
ConvertsWhole =
    (trace : List ℕ) (form : Form) (n ssrc : ℕ) → block_of (blocks_of trace).zeroth ≡ Ok (Label form n ssrc) → Convertible form ssrc (blocks_of trace).others
    → (converted trace).err ≡ []

-- ---- what was converted reads as the same label, SSRC and records, those before the first block that was refused

pub record Reads (trace : List ℕ) (form : Form) (n ssrc : ℕ) : Type 0 where
  pub label : block_of (blocks_of (converted trace).out).zeroth ≡ Ok (Label (other_form form) n ssrc)
  pub text : take n (body_of (blocks_of (converted trace).out).zeroth) ≡ take n (body_of (blocks_of trace).zeroth)
  pub records : records_taken (other_form form) ssrc (blocks_of (converted trace).out).others ≡ records_taken form ssrc (blocks_of trace).others

abbrev pub ConvertedReads : Type 0
ConvertedReads =
    (trace : List ℕ) (form : Form) (n ssrc : ℕ) → Below 256 trace → block_of (blocks_of trace).zeroth ≡ Ok (Label form n ssrc) → Reads trace form n ssrc

-- ---- there and back

-- no block is refused on the way back, and label, SSRC and records, those before the first block that was refused on the way there, are the same
pub record Returns (trace : List ℕ) (form : Form) (ssrc : ℕ) : Type 0 where
  pub accepted : (converted (converted trace).out).err ≡ []
  pub label : (blocks_of (converted (converted trace).out).out).zeroth ≡ (blocks_of trace).zeroth
  pub records : records_taken form ssrc (blocks_of (converted (converted trace).out).out).others ≡ records_taken form ssrc (blocks_of trace).others

abbrev pub SameRecords : Type 0
SameRecords =
    (trace : List ℕ) (form : Form) (n ssrc : ℕ) → Below 256 trace → block_of (blocks_of trace).zeroth ≡ Ok (Label form n ssrc) → Returns trace form ssrc

-- where no block is refused, and all arrivals blocks but perhaps the last are full, so are all bytes
abbrev pub FullButLast : ℕ → List (List ℕ) → Type 0
FullButLast most [] = Unit {0}
FullButLast most (b ∷ []) = Unit {0}
FullButLast most (b ∷ c ∷ bs) = (count_in b ≡ most) × FullButLast most (c ∷ bs)

abbrev pub SameBytes : Type 0
SameBytes =
    (trace : List ℕ) (form : Form) (n ssrc : ℕ) → Below 256 trace → block_of (blocks_of trace).zeroth ≡ Ok (Label form n ssrc) → (converted trace).err ≡ []
    → FullButLast (shape_of form).most (blocks_of trace).others → (converted (converted trace).out).out ≡ trace
