-- What the front of a piece is, and what a trace is whose blocks are all sound.
use Rattle.std.specs.Prelude.{◌≡◌, List, [], ◌∷◌, ◌++◌, ℕ, ◌≤◌, length, take, drop, Option, Some, None, Ok}
use Rattle.answers.specs.declared.Refusal.{Refusal}
use Rattle.format.specs.Blocks.{block_bytes}
use Rattle.answers.specs.declared.Refusal.TheVariants.{FormTwo}
use Rattle.format.specs.declared.Form.{Form}
use Rattle.trace.specs.Places.{zeroth_of}
use Rattle.walk.specs.Blocks.{blocks_of, joined}
use Rattle.walk.specs.Programs.{Ending, walked}
use Rattle.convert.specs.Tables.{ecntable}
use Rattle.forms.specs.Converted.{ecnforms}
use Rattle.copies.specs.Fronts.{fault_of, Sound, sound_in}

-- each block is a trace's own
abbrev pub AllOwn : Form → ℕ → List (List ℕ) → Type 0
AllOwn form ssrc [] = Unit {0}
AllOwn form ssrc (b ∷ bs) = (fault_of form ssrc b ≡ None) × AllOwn form ssrc bs

-- the block after the front: there is none, or it has the refusal
abbrev pub NextHas : Form → ℕ → Option Refusal → List (List ℕ) → Type 0
NextHas form ssrc None bs = bs ≡ []
NextHas form ssrc (Some refusal) bs = (b : List ℕ) × (rest : List (List ℕ)) × (bs ≡ b ∷ rest) × (fault_of form ssrc b ≡ Some refusal)

pub record IsFront (form : Form) (ssrc : ℕ) (bs : List (List ℕ)) (s : Sound) : Type 0 where
  pub inside : s.many ≤ length bs
  pub own : AllOwn form ssrc (take s.many bs)
  pub next : NextHas form ssrc s.refusal (drop s.many bs)

abbrev pub FrontIsSound : Type 0
FrontIsSound = (form : Form) (ssrc : ℕ) (bs : List (List ℕ)) → IsFront form ssrc bs (sound_in form ssrc bs)

-- block 0 and a trace's own blocks put together are a trace of these blocks
abbrev pub CopyIsCut : Type 0
CopyIsCut =
    (form : Form) (ssrc : ℕ) (zeroth : List ℕ) (bs : List (List ℕ)) → length zeroth ≡ block_bytes → AllOwn form ssrc bs
    → blocks_of (zeroth ++ joined bs) ≡ record { zeroth = zeroth; others = bs }

-- ---- a trace whose blocks are all sound: a label, and then its own arrivals

pub record SoundTrace (trace : List ℕ) (form : Form) (n ssrc : ℕ) : Type 0 where
  pub label : zeroth_of (blocks_of trace).zeroth ≡ Ok (record { form = form; length = n; ssrc = ssrc })
  pub own : AllOwn form ssrc (blocks_of trace).others

-- ecntable accepts it, which ends its run with no refusal, and accepts no other trace
abbrev pub TableAccepts : Type 0
TableAccepts = (trace : List ℕ) (form : Form) (n ssrc : ℕ) → SoundTrace trace form n ssrc → (walked ecntable (blocks_of trace)).ended ≡ None

abbrev pub AcceptedIsSound : Type 0
AcceptedIsSound = (trace : List ℕ) → (walked ecntable (blocks_of trace)).ended ≡ None → (form : Form) × (n : ℕ) × (ssrc : ℕ) × SoundTrace trace form n ssrc

-- ecnforms refuses none of its blocks but with 17
abbrev pub FormsRefuseTimes : Type 0
FormsRefuseTimes =
    (trace : List ℕ) (form : Form) (n ssrc : ℕ) (e : Ending) → SoundTrace trace form n ssrc → (walked ecnforms (blocks_of trace)).ended ≡ Some e → e.refusal ≡ FormTwo
