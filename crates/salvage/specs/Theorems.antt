-- Request L11: what holds of what ecnsalvage prints, for every trace.
use Rattle.std.specs.Prelude.{◌≡◌, List, [], ◌∷◌, ◌++◌, ℕ, suc, ◌+◌, length, Some, None, Ok, Err}
use Rattle.answers.specs.Refusals.{number_of}
use Rattle.answers.specs.declared.Refusal.{Refusal}
use Rattle.answers.specs.declared.Refusal.TheVariants.{FormTwo}
use Rattle.format.specs.declared.Form.{Form}
use Rattle.table.specs.Lines.{refused_line}
use Rattle.trace.specs.Places.{zeroth_of, later_of}
use Rattle.walk.specs.Blocks.{blocks_of, joined}
use Rattle.walk.specs.Programs.{to_output, Ending, walked}
use Rattle.walk.specs.Steps.{refuses}
use Rattle.convert.specs.declared.Run.{Run}
use Rattle.convert.specs.Runs.{next_of}
use Rattle.convert.specs.Tables.{ecntable}
use Rattle.forms.specs.Converted.{ecnforms}
use Rattle.salvage.specs.Salvaged.{to_errors, salvaged}

-- ---- each block is copied or listed, never both, in order

-- of the blocks from number i on: those that are copied, and those that are listed, each with its number and with what ecntable's rule refuses it with
pub data Sorted (form : Form) (ssrc : ℕ) : ℕ → List (List ℕ) → List (List ℕ) → List Ending → Type 0 where
  done : {i : ℕ} → Sorted form ssrc i [] [] []
  copy : {i : ℕ} {b : List ℕ} {bs copied : List (List ℕ)} {listed : List Ending} (n : ℕ) → later_of form ssrc b ≡ Ok n
      → Sorted form ssrc (suc i) bs copied listed → Sorted form ssrc i (b ∷ bs) (b ∷ copied) listed
  leave : {i : ℕ} {b : List ℕ} {bs copied : List (List ℕ)} {listed : List Ending} (refusal : Refusal) → later_of form ssrc b ≡ Err refusal
      → Sorted form ssrc (suc i) bs copied listed → Sorted form ssrc i (b ∷ bs) copied (record { refusal = refusal; block = i } ∷ listed)

-- the lines of what is listed
unfoldable pub lines_of : List Ending → List ℕ
lines_of [] = []
lines_of (e ∷ es) = refused_line (number_of e.refusal) e.block ++ lines_of es

-- so that copied and listed blocks are all the blocks after the label; these are printed, and nothing else
pub record Salvages (trace : List ℕ) (form : Form) (ssrc : ℕ) : Type 0 where
  pub copied : List (List ℕ)
  pub listed : List Ending
  pub sorted : Sorted form ssrc 1 (blocks_of trace).others copied listed
  pub add_up : length copied + length listed ≡ length (blocks_of trace).others
  pub prints : salvaged trace ≡ record { out = (blocks_of trace).zeroth ++ joined copied; err = lines_of listed }

abbrev pub SalvageSorts : Type 0
SalvageSorts = (trace : List ℕ) (form : Form) (n ssrc : ℕ) → zeroth_of (blocks_of trace).zeroth ≡ Ok (record { form = form; length = n; ssrc = ssrc }) → Salvages trace form ssrc

-- what the rule refuses, ecntable refuses, and with no other number, whatever it has counted
abbrev pub ListedIsRefused : Type 0
ListedIsRefused = (run : Run) (b : List ℕ) (refusal : Refusal) → later_of run.form run.ssrc b ≡ Err refusal → next_of run b ≡ refuses refusal

-- ---- after a sound label

module _ (trace : List ℕ) (form : Form) (n ssrc : ℕ) where
  abbrev pub Labelled : Type 0
  Labelled = zeroth_of (blocks_of trace).zeroth ≡ Ok (record { form = form; length = n; ssrc = ssrc })

-- ecntable accepts the output: its run over it ends with no refusal
abbrev pub SalvageAccepted : Type 0
SalvageAccepted = (trace : List ℕ) (form : Form) (n ssrc : ℕ) → Labelled trace form n ssrc → (walked ecntable (blocks_of (salvaged trace).out)).ended ≡ None

-- ecnforms refuses none of its blocks but with 17
abbrev pub SalvageConverts : Type 0
SalvageConverts =
    (trace : List ℕ) (form : Form) (n ssrc : ℕ) (e : Ending) → Labelled trace form n ssrc → (walked ecnforms (blocks_of (salvaged trace).out)).ended ≡ Some e → e.refusal ≡ FormTwo

-- the label block is the same bytes
abbrev pub LabelIsKept : Type 0
LabelIsKept = (trace : List ℕ) (form : Form) (n ssrc : ℕ) → Labelled trace form n ssrc → (blocks_of (salvaged trace).out).zeroth ≡ (blocks_of trace).zeroth

-- salvage of the output gives it again, and lists nothing
abbrev pub SalvageAgain : Type 0
SalvageAgain = (trace : List ℕ) (form : Form) (n ssrc : ℕ) → Labelled trace form n ssrc → salvaged (salvaged trace).out ≡ to_output (salvaged trace).out

-- ---- other traces

-- after a wrong label nothing is copied, and that block is listed; an empty trace is one, with 1
abbrev pub WrongLabel : Type 0
WrongLabel = (trace : List ℕ) (refusal : Refusal) → zeroth_of (blocks_of trace).zeroth ≡ Err refusal → salvaged trace ≡ to_errors (refused_line (number_of refusal) 0)

-- a trace that ecntable accepts comes out byte for byte the same, and nothing is listed
abbrev pub AcceptedIsSame : Type 0
AcceptedIsSame = (trace : List ℕ) → (walked ecntable (blocks_of trace)).ended ≡ None → salvaged trace ≡ to_output trace
