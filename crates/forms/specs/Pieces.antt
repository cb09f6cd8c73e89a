-- The three calls of a run of ecnforms over pieces of a trace: what each gives, by the program of specs/Converted.
use Rattle.answers.specs.declared.Unwritten.{Unwritten}
use Rattle.std.specs.Prelude.{◌≡◌, true, List, [], ◌∷◌, ℕ, ◌*◌, ◌/◌, ◌^◌, ◌≤◌, ◌<◌, length, take, Option, Some, None, Result, Ok, Err}
use Rattle.answers.specs.Writers.{Wrote}
use Rattle.answers.specs.declared.Refusal.{Refusal}
use Rattle.format.specs.Blocks.{block_bytes, body_bytes}
use Rattle.trace.specs.declared.Record.{Record}
use Rattle.walk.specs.Programs.{Printed, nothing, to_output, Turn}
use Rattle.walk.specs.Pieces.{Octets, wholes, whole_in}
use Rattle.walk.specs.Fitting.{Took, fitting, Reached}
use Rattle.walk.specs.Steps.{Next, goes, refuses, state_after}
use Rattle.walk.specs.Puts.{PutBy}
use Rattle.walk.specs.Endings.{is_going, number_after}
use Rattle.walk.specs.Machines.{Standing, next_behind, fitting_by, ending_by, Gave, Machine, Session}
use Rattle.walk.specs.declared.Closed.{Closed}
use Rattle.forms.specs.declared.Conversion.{Conversion}
use Rattle.forms.specs.declared.Step.{Step}
use Rattle.forms.specs.declared.pieces.Progress.{Progress}
use Rattle.forms.specs.declared.pieces.Begun.{Begun}
use Rattle.forms.specs.declared.pieces.Taken.{Taken}
use Rattle.forms.specs.Conversions.{next_of, sound, bytes_in, Carried, carries, carried_by, close_fault}
use Rattle.forms.specs.Converted.{Kept, kept_of, no_trace, ecnforms, converted}

-- ---- block 0

-- the conversion that goes with a program's state
abbrev pub conversion_of : Kept → Conversion
conversion_of k = record { form = k.form; ssrc = k.ssrc; held = length k.held }

abbrev pub progress_by : Turn Kept → Progress
progress_by t = record { conversion = conversion_of t.state; block = next_behind t.refusal; ended = t.refusal }

unfoldable pub progress_of : List ℕ → Progress
progress_of b = progress_by (ecnforms.begin b)

abbrev pub not_begun : Progress
not_begun = record { conversion = conversion_of no_trace; block = 0; ended = None }

-- where the label block has no room, 12, nothing has begun
abbrev pub begun_in : List ℕ → Result ℕ Unwritten → Progress
begun_in b (Ok n) = progress_of b
begun_in b (Err why) = not_begun

pub record Begins (b old : List ℕ) (r : Begun) (out : List ℕ) : Type 0 where
  pub wrote : Wrote None (ecnforms.begin b).printed.out old r.answer out
  pub progress : r.progress ≡ begun_in b r.answer

-- ---- the whole blocks of a piece

-- how the program's run stands
abbrev pub standing : Progress → List ℕ → Standing Kept
standing p part = record { state = kept_of p.conversion part; block = p.block; refusal = p.ended }

-- what is taken of the piece: nothing after a refusal
unfoldable pub took_of : Progress → List ℕ → List ℕ → ℕ → Took Kept
took_of p part piece room = fitting_by ecnforms (standing p part) p.ended piece room

-- what is carried behind blocks that were taken, each as `Conversion.block` takes it
abbrev pub next_in : Carried → Next Carried → Carried
next_in s (goes next) = next
next_in s (refuses refusal) = s

unfoldable pub carried_over : Carried → List (List ℕ) → Carried
carried_over s [] = s
carried_over s (b ∷ bs) = carried_over (next_in s (carried_by s.conversion s.part (next_of s.conversion.form s.conversion.ssrc b))) bs

unfoldable pub carried_with : Progress → List ℕ → List ℕ → ℕ → Carried
carried_with p part piece many = carried_over (carries p.conversion part) (take many (whole_in piece))

abbrev pub after_taking : Progress → Carried → Took Kept → Progress
after_taking p s w = record { conversion = s.conversion; block = number_after p.block w.taken; ended = w.refusal }

-- a run that goes on must be sound, with its part, else 9
abbrev pub piece_fault : Progress → List ℕ → Option Refusal → Option Refusal
piece_fault p part None = close_fault p.conversion part
piece_fault p part (Some refusal) = None

-- the bytes taken, the progress and the part afterwards; 9 changes nothing
abbrev pub TakenBy : Progress → List ℕ → Carried → Took Kept → Option Refusal → Taken → List ℕ → Type 0
TakenBy p part s w None r kept = (r.bytes ≡ block_bytes * w.taken) × (r.progress ≡ after_taking p s w) × (kept ≡ s.part)
TakenBy p part s w (Some refusal) r kept = (r.bytes ≡ 0) × (r.progress ≡ p) × (kept ≡ part)

pub record Takes (p : Progress) (part piece old : List ℕ) (r : Taken) (kept out : List ℕ) : Type 0 where
  pub wrote : Wrote (piece_fault p part p.ended) (took_of p part piece (length old)).printed.out old r.answer out
  pub taken : let w = took_of p part piece (length old) in TakenBy p part (carried_with p part piece w.taken) w (piece_fault p part p.ended) r kept

-- a block that brings `next`, its full blocks put in the output from a place on
pub record Puts (c : Conversion) (part : List ℕ) (next : Next (List Record)) (old : List ℕ) (at : ℕ) (r : Step) (kept out : List ℕ) : Type 0 where
  pub put : PutBy (carried_by c part next) (bytes_in c part next) old at (carries r.conversion kept) out r.answer
  pub after : carries r.conversion kept ≡ state_after (carries c part) (carried_by c part next) r.answer

-- the loop over the blocks, whatever number the first has
pub record Fitted (start : Conversion) (part piece old : List ℕ) (c : Conversion) (bytes used : ℕ) (ended : Option Refusal) (kept out : List ℕ) : Type 0 where
  pub reached : (first : ℕ) → Reached (fitting ecnforms first (whole_in piece) (kept_of start part) (length old)) (kept_of c kept) ended bytes old out used
  pub carried : carried_over (carries start part) (take (bytes / block_bytes) (whole_in piece)) ≡ carries c kept

-- ---- the end: the records that are left; what is left of the trace is a part of a block, which is refused with 1, or nothing

unfoldable pub end_of : Progress → List ℕ → List ℕ → Printed
end_of p part rest = ecnforms.close (kept_of p.conversion part) (ending_by p.block p.ended rest)

pub record Ends (p : Progress) (part rest oldOut oldErr : List ℕ) (r : Closed) (out err : List ℕ) : Type 0 where
  pub printed : Wrote (close_fault p.conversion part) (end_of p part rest).out oldOut r.out out
  pub told : Wrote None (end_of p part rest).err oldErr r.err err

-- ---- the calls over a trace, and what they print

-- the progress and the lent part
pub record Held : Type 0 where
  pub progress : Progress
  pub part : List ℕ

abbrev pub gave_by : Held → Carried → Took Kept → Option Refusal → Gave Held
gave_by h s w None = record { state = record { progress = after_taking h.progress s w; part = s.part }; taken = block_bytes * w.taken; printed = to_output w.printed.out }
gave_by h s w (Some refusal) = record { state = h; taken = 0; printed = nothing }

abbrev pub gave_of : Held → List ℕ → Took Kept → Gave Held
gave_of h piece w = gave_by h (carried_with h.progress h.part piece w.taken) w (piece_fault h.progress h.part h.progress.ended)

-- 9 keeps the last block back
abbrev pub end_by : Printed → Option Refusal → Printed
end_by printed None = printed
end_by printed (Some refusal) = record { out = []; err = printed.err }

abbrev pub calls : List ℕ → Machine Held
calls part = record {
  begin = λ b. record { state = record { progress = progress_of b; part = part }; taken = 0; printed = to_output (ecnforms.begin b).printed.out };
  blocks = λ h piece room. gave_of h piece (took_of h.progress h.part piece room);
  end = λ h rest. end_by (end_of h.progress h.part rest) (close_fault h.progress.conversion h.part);
  going = λ h. is_going h.progress.ended;
}

-- however a trace is cut into pieces, what the calls give, joined, is what ecnforms prints on both outputs; the part is lent with any bytes
abbrev pub TracePrints : Type 0
TracePrints =
    (part trace : List ℕ) (q : Printed) → body_bytes ≤ length part → Octets trace → length trace < block_bytes * 2 ^ 64 → Session (calls part) trace q → q ≡ converted trace

-- room for 320 blocks is enough for a piece of 256: all are taken, unless one is refused
abbrev pub BlocksHaveRoom : Type 0
BlocksHaveRoom =
    (p : Progress) (part piece : List ℕ) (room : ℕ) → p.ended ≡ None → sound p.conversion part ≡ true → wholes piece ≤ 256 → 320 * block_bytes ≤ room
    → (took_of p part piece room).refusal ≡ None → (took_of p part piece room).taken ≡ wholes piece

-- and so is a block, and 64 bytes, for the end
abbrev pub EndHasRoom : Type 0
EndHasRoom =
    (p : Progress) (part rest : List ℕ) → sound p.conversion part ≡ true → p.block < 2 ^ 64
    → (length (end_of p part rest).out ≤ block_bytes) × (length (end_of p part rest).err ≤ 64)
