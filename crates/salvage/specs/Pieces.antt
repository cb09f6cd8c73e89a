-- The three calls of a run of ecnsalvage over pieces of a trace: what each gives, and what they print together.
use Rattle.answers.specs.declared.Unwritten.{Unwritten}
use Rattle.std.specs.Prelude.{◌≡◌, List, [], ℕ, ◌+◌, ◌*◌, ◌^◌, ◌≤◌, ◌<◌, length, take, replicate, Option, Some, None, Result, Ok, Err}
use Rattle.answers.specs.Refusals.{number_of}
use Rattle.answers.specs.Writers.{written, Wrote}
use Rattle.answers.specs.declared.Refusal.{Refusal}
use Rattle.format.specs.Blocks.{block_bytes}
use Rattle.format.specs.declared.Form.TheVariants.{One}
use Rattle.table.specs.Lines.{refused_line}
use Rattle.trace.specs.Places.{zeroth_of}
use Rattle.trace.specs.declared.Zeroth.{Zeroth}
use Rattle.walk.specs.Programs.{Printed, to_output}
use Rattle.walk.specs.Pieces.{Octets, whole_in}
use Rattle.walk.specs.Endings.{is_going, number_after}
use Rattle.walk.specs.Machines.{ending_by, Gave, Machine, Session}
use Rattle.copies.specs.Fronts.{Sound, sound_in}
use Rattle.salvage.specs.declared.Progress.{Progress}
use Rattle.salvage.specs.declared.Begun.{Begun}
use Rattle.salvage.specs.declared.Taken.{Taken}
use Rattle.salvage.specs.Salvaged.{closing, salvaged}

-- ---- block 0

abbrev pub begun_by : Result Zeroth Refusal → Begun
begun_by (Ok label) = record { copied = block_bytes; progress = record { form = label.form; ssrc = label.ssrc; block = 1; ended = None } }
begun_by (Err refusal) = record { copied = 0; progress = record { form = One; ssrc = 0; block = 0; ended = Some refusal } }

unfoldable pub begun_of : List ℕ → Begun
begun_of b = begun_by (zeroth_of b)

-- ---- a piece

-- how many blocks at its front are copied, how many are taken, and the line of the one between
pub record Portion : Type 0 where
  pub copied : ℕ
  pub taken : ℕ
  pub line : List ℕ

-- the sound blocks at the front, and the block after them, if that is refused
abbrev pub portion_by : ℕ → ℕ → Option Refusal → Portion
portion_by block many None = record { copied = many; taken = many; line = [] }
portion_by block many (Some refusal) = record { copied = many; taken = many + 1; line = refused_line (number_of refusal) (number_after block many) }

-- nothing after an end
abbrev pub portion_in : Progress → Sound → Option Refusal → Portion
portion_in p s None = portion_by p.block s.many s.refusal
portion_in p s (Some refusal) = record { copied = 0; taken = 0; line = [] }

unfoldable pub portion_of : Progress → List ℕ → Portion
portion_of p piece = portion_in p (sound_in p.form p.ssrc (whole_in piece)) p.ended

-- so many blocks on
abbrev pub moved_by : Progress → ℕ → Progress
moved_by p many = record { form = p.form; ssrc = p.ssrc; block = number_after p.block many; ended = p.ended }

-- the call's answer, by its line's: if the line has no room, 12, nothing is taken
abbrev pub TakenBy : Progress → Portion → Result ℕ Unwritten → Taken
TakenBy p q (Ok n) = record { copied = q.copied * block_bytes; bytes = q.taken * block_bytes; answer = Ok n; progress = moved_by p q.taken }
TakenBy p q (Err why) = record { copied = 0; bytes = 0; answer = Err why; progress = p }

pub record TakesBy (p : Progress) (q : Portion) (old : List ℕ) (r : Taken) (err : List ℕ) : Type 0 where
  pub wrote : Wrote None q.line old r.answer err
  pub taken : r ≡ TakenBy p q r.answer

abbrev pub Takes : Progress → List ℕ → List ℕ → Taken → List ℕ → Type 0
Takes p piece old r err = TakesBy p (portion_of p piece) old r err

-- ---- the end: what is left is a part of a block, which is refused with 1, or nothing

unfoldable pub end_of : Progress → List ℕ → List ℕ
end_of p rest = (closing (ending_by p.block p.ended rest)).err

-- ---- the calls over a trace, and what they print: bytes of a piece as they stand, and lines

-- the line, if it was written
abbrev pub line_in : List ℕ → Result ℕ Unwritten → List ℕ
line_in line (Ok n) = line
line_in line (Err why) = []

abbrev pub gave_by : Portion → List ℕ → Taken → Gave Progress
gave_by q piece r = record {
  state = r.progress;
  taken = r.bytes;
  printed = record { out = take r.copied piece; err = line_in q.line r.answer };
}

-- with an output of so many bytes for the line
abbrev pub gave_of : Progress → List ℕ → Portion → ℕ → Gave Progress
gave_of p piece q room = gave_by q piece (TakenBy p q (written None q.line (replicate room 0)))

abbrev pub calls : Machine Progress
calls = record {
  begin = λ b. record { state = (begun_of b).progress; taken = 0; printed = to_output (take (begun_of b).copied b) };
  blocks = λ p piece room. gave_of p piece (portion_of p piece) room;
  end = λ p rest. record { out = []; err = end_of p rest };
  going = λ p. is_going p.ended;
}

-- however a trace is cut into pieces, what the calls give, joined, is what ecnsalvage prints on both outputs
abbrev pub TracePrints : Type 0
TracePrints = (trace : List ℕ) (q : Printed) → Octets trace → length trace < block_bytes * 2 ^ 64 → Session calls trace q → q ≡ salvaged trace

-- 64 bytes are enough for a line
abbrev pub LineHasRoom : Type 0
LineHasRoom = (p : Progress) (piece : List ℕ) → p.block < 2 ^ 64 → length (portion_of p piece).line ≤ 64

abbrev pub EndHasRoom : Type 0
EndHasRoom = (p : Progress) (rest : List ℕ) → p.block < 2 ^ 64 → length (end_of p rest) ≤ 64

-- and with them a call on a piece of a block or more takes a block or more, so that the run comes to its end
abbrev pub BlocksGoOn : Type 0
BlocksGoOn =
    (p : Progress) (piece old : List ℕ) (r : Taken) (err : List ℕ) → p.ended ≡ None → p.block < 2 ^ 64 → block_bytes ≤ length piece → 64 ≤ length old
    → Takes p piece old r err → block_bytes ≤ r.bytes
