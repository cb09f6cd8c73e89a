-- The three calls of a run of ecnlabel over pieces of a trace: what each gives, and what they print together.
use Rattle.answers.specs.declared.Unwritten.{Unwritten}
use Rattle.answers.specs.declared.Refusal.{Refusal}
use Rattle.std.specs.Prelude.{◌≡◌, List, [], ℕ, ◌*◌, ◌^◌, ◌≤◌, ◌<◌, length, take, Option, Some, None, Result, Ok, Err}
use Rattle.answers.specs.Writers.{Wrote}
use Rattle.format.specs.Blocks.{block_bytes}
use Rattle.format.specs.declared.Form.TheVariants.{One}
use Rattle.trace.specs.Places.{zeroth_of}
use Rattle.trace.specs.Rewriting.{replaced_in}
use Rattle.trace.specs.declared.Zeroth.{Zeroth}
use Rattle.walk.specs.Programs.{Printed, to_output}
use Rattle.walk.specs.Pieces.{Octets, whole_in}
use Rattle.walk.specs.Endings.{is_going, number_after}
use Rattle.walk.specs.Machines.{ending_by, Gave, Machine, Session}
use Rattle.copies.specs.Fronts.{Sound, sound_in}
use Rattle.labels.specs.declared.Progress.{Progress}
use Rattle.labels.specs.declared.Begun.{Begun}
use Rattle.labels.specs.declared.Taken.{Taken}
use Rattle.labels.specs.Labelled.{Kept, closing, ecnlabel, labelled}

-- ---- block 0

abbrev pub started_by : Result Zeroth Refusal → ℕ → Progress
started_by (Ok label) replaced = record { form = label.form; ssrc = label.ssrc; replaced = replaced; block = 1; ended = None }
started_by (Err refusal) replaced = record { form = One; ssrc = 0; replaced = 0; block = 0; ended = Some refusal }

unfoldable pub started_of : List ℕ → Progress
started_of b = started_by (zeroth_of b) (replaced_in b (zeroth_of b))

abbrev pub not_begun : Progress
not_begun = record { form = One; ssrc = 0; replaced = 0; block = 0; ended = None }

-- if the label block has no room, 12, nothing has begun
abbrev pub begun_in : List ℕ → Result ℕ Unwritten → Progress
begun_in b (Ok n) = started_of b
begun_in b (Err why) = not_begun

pub record Begins (b old : List ℕ) (r : Begun) (out : List ℕ) : Type 0 where
  pub wrote : Wrote None (ecnlabel.begin b).printed.out old r.answer out
  pub progress : r.progress ≡ begun_in b r.answer

-- ---- a piece

-- the sound blocks at its front; the next one, if it is refused, ends the run
abbrev pub after_taking : Progress → Sound → Progress
after_taking p s = record { form = p.form; ssrc = p.ssrc; replaced = p.replaced; block = number_after p.block s.many; ended = s.refusal }

-- nothing after a refusal
abbrev pub TakenBy : Progress → Sound → Option Refusal → Taken
TakenBy p s None = record { bytes = block_bytes * s.many; progress = after_taking p s }
TakenBy p s (Some refusal) = record { bytes = 0; progress = p }

unfoldable pub taken_of : Progress → List ℕ → Taken
taken_of p piece = TakenBy p (sound_in p.form p.ssrc (whole_in piece)) p.ended

-- ---- the end: what is left is a part of a block, which is refused with 1, or nothing

abbrev pub kept_of : Progress → Kept
kept_of p = record { form = p.form; ssrc = p.ssrc; replaced = p.replaced }

unfoldable pub end_of : Progress → List ℕ → List ℕ
end_of p rest = (closing (kept_of p) (ending_by p.block p.ended rest)).err

-- ---- the calls over a trace, and what they print: block 0 written anew, bytes of a piece as they stand, and a line

abbrev pub gave_by : List ℕ → Taken → Gave Progress
gave_by piece r = record { state = r.progress; taken = r.bytes; printed = to_output (take r.bytes piece) }

abbrev pub calls : Machine Progress
calls = record {
  begin = λ b. record { state = started_of b; taken = 0; printed = to_output (ecnlabel.begin b).printed.out };
  blocks = λ p piece room. gave_by piece (taken_of p piece);
  end = λ p rest. record { out = []; err = end_of p rest };
  going = λ p. is_going p.ended;
}

-- however a trace is cut into pieces, what the calls give, joined, is what ecnlabel prints on both outputs
abbrev pub TracePrints : Type 0
TracePrints = (trace : List ℕ) (q : Printed) → Octets trace → length trace < block_bytes * 2 ^ 64 → Session calls trace q → q ≡ labelled trace

-- 64 bytes are enough for a line
abbrev pub EndHasRoom : Type 0
EndHasRoom = (p : Progress) (rest : List ℕ) → p.replaced < 2 ^ 64 → p.block < 2 ^ 64 → length (end_of p rest) ≤ 64

-- a call on a piece of a block or more takes a block or more, unless the run ends, so that it comes to its end
abbrev pub BlocksGoOn : Type 0
BlocksGoOn =
    (p : Progress) (piece : List ℕ) → p.ended ≡ None → block_bytes ≤ length piece → (taken_of p piece).progress.ended ≡ None
    → block_bytes ≤ (taken_of p piece).bytes
