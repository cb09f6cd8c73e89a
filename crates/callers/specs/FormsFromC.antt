-- The converter of forms from C (include/flasknib.h, "a trace in the other form"): flasknib_forms_start on block 0, flasknib_forms_block on each later block and
-- flasknib_forms_close at the end, each on the words and the part that the call before left, print what ecnforms prints.
use Rattle.answers.specs.declared.Refusal.{Refusal}
use Rattle.std.specs.Prelude.{◌≡◌, List, [], ℕ, ◌*◌, ◌^◌, ◌≤◌, ◌<◌, ℤ, length, Some, Result, Ok, Err}
use Rattle.answers.specs.Writers.{written}
use Rattle.format.specs.Blocks.{block_bytes, body_bytes}
use Rattle.trace.specs.Places.{zeroth_of}
use Rattle.trace.specs.declared.Record.{Record}
use Rattle.trace.specs.declared.Zeroth.{Zeroth}
use Rattle.walk.specs.Programs.{Printed, ending_at}
use Rattle.walk.specs.Pieces.{Octets}
use Rattle.walk.specs.Steps.{Next, goes, refuses, fault_in, state_after}
use Rattle.walk.specs.Machines.{Session}
use Rattle.walk.specs.Singles.{Singles, singly}
use Rattle.forms.specs.Conversions.{begin_bytes, bytes_in, Carried, carried_by, close_bytes}
use Rattle.forms.specs.Converted.{told, converted}
use Rattle.forms.specs.Pieces.{end_by}
use Rattle.lent.specs.ConversionWords.{conversion_of, conversion_words}
use Rattle.capi.specs.FormsCalls.{forms_next, end_fault, BeginsForms, TakesForms}
use Rattle.callers.specs.Sessions.{CallIs}

-- what the caller keeps: the conversion's 3 words, and the lent part
pub record FormsKept : Type 0 where
  pub words : List ℕ
  pub part : List ℕ

abbrev pub started_in : List ℕ → Result Zeroth Refusal → Next FormsKept
started_in part (Ok label) = goes (record { words = conversion_words (record { form = label.form; ssrc = label.ssrc; held = 0 }); part = part })
started_in part (Err refusal) = refuses refusal

abbrev pub brought_in : Next Carried → Next FormsKept
brought_in (goes s) = goes (record { words = conversion_words s.conversion; part = s.part })
brought_in (refuses refusal) = refuses refusal

-- what a block brings to the conversion in the words
abbrev pub records_for : FormsKept → List ℕ → Next (List Record)
records_for k b = forms_next k.words k.part b

-- the calls; the caller tells of a refused block on standard error
abbrev pub forms_calls : List ℕ → Singles FormsKept
forms_calls part = record {
  start = λ b. started_in part (zeroth_of b);
  head = λ b. begin_bytes b (zeroth_of b);
  next = λ k b. brought_in (carried_by (conversion_of k.words) k.part (records_for k b));
  bytes = λ k b. bytes_in (conversion_of k.words) k.part (records_for k b);
  end = λ k e. end_by (record { out = close_bytes (conversion_of k.words) k.part; err = told e }) (end_fault k.words k.part);
  over = λ refusal. record { out = []; err = told (ending_at 0 (Some refusal)) };
}

-- they are the C functions, by the contracts of these (the end is `ClosesForms` as it stands): block 0, with 3 words of any values;
abbrev pub FormsStartIs : Type 0
FormsStartIs =
    (k : FormsKept) (zeroth old left out : List ℕ) (r : ℤ) → length k.words ≡ 3 → BeginsForms k.words zeroth old r left out
    → CallIs (λ k. k.words) k ((forms_calls k.part).start zeroth) ((forms_calls k.part).head zeroth) old r left out

-- and a later block, with what it leaves in the part
abbrev pub FormsBlockIs : Type 0
FormsBlockIs =
    (k : FormsKept) (block old left kept out : List ℕ) (r : ℤ) → TakesForms k.words k.part block old r left kept out
    → CallIs (λ k. k.words) k ((forms_calls k.part).next k block) ((forms_calls k.part).bytes k block) old r left out
    × (kept ≡ (state_after k ((forms_calls k.part).next k block) (written (fault_in ((forms_calls k.part).next k block)) ((forms_calls k.part).bytes k block) old)).part)

-- what the calls over a trace's blocks write, and what is told of a refused block, is what ecnforms prints on both outputs; the part is lent with any bytes
abbrev pub FormsFromCPrint : Type 0
FormsFromCPrint =
    (part trace : List ℕ) (q : Printed) → body_bytes ≤ length part → Octets trace → length trace < block_bytes * 2 ^ 64 → Session (singly (forms_calls part)) trace q
    → q ≡ converted trace
