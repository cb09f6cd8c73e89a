-- What holds of the definitions.
use Rattle.std.specs.Prelude.{◌≡◌, true, cond, ℕ, ◌≤◌, ◌<◌, eqb}
use Rattle.answers.specs.declared.Refusal.{Refusal}
use Rattle.answers.specs.declared.Refusal.TheVariants.{Jump}
use Rattle.answers.specs.Refusals.{number_of}
use Rattle.format.specs.declared.Wire.{Wire}
use Rattle.source.specs.declared.Source.{Source}
use Rattle.source.specs.declared.Arrival.TheVariants.{Accepted, Restarted, Refused}
use Rattle.source.specs.declared.distances.Reach.TheVariants as reach
use Rattle.source.specs.Distances.{reach_of}
use Rattle.source.specs.Record.{wire_number, fresh_record, sound}
use Rattle.source.specs.Arrivals.{first, distance, next, remembering, arrival, after}

-- a sound record stays sound, whatever arrives
abbrev pub SoundStays : Type 0
SoundStays = (s : Source) (wire : Wire) (mark : ℕ) → wire.0 < 65536 → sound s ≡ true → sound (after (arrival s wire mark)) ≡ true

-- a remembered number stays one of 16 bits, whatever arrives
abbrev pub TypedStays : Type 0
TypedStays = (s : Source) (wire : Wire) (mark : ℕ) → wire_number s.remembered ≡ true → wire_number (after (arrival s wire mark)).remembered ≡ true

-- the record after a restart is exactly that of a first arrival (document 02, L5)
abbrev pub RestartsAfresh : Type 0
RestartsAfresh = (s t : Source) (wire : Wire) (mark : ℕ) → arrival s wire mark ≡ Restarted t → arrival fresh_record wire mark ≡ Accepted t

-- and there is one: where an arrival is 7 and the number after it is a jump too, that number restarts
abbrev pub SecondRestarts : Type 0
SecondRestarts =
    (s t : Source) (wire : Wire) (mark other : ℕ) → arrival s wire mark ≡ Refused Jump t → reach_of (distance s.highest (next wire)) ≡ reach.Jump
    → other ≤ 3 → arrival t (next wire) other ≡ Restarted (first fresh_record (next wire) other)

-- refusal 7 changes only what is remembered, which is then the number after the jump; every other refusal hands back the given record
abbrev pub RefusalKeeps : Type 0
RefusalKeeps =
    (s t : Source) (wire : Wire) (mark : ℕ) (refusal : Refusal) → arrival s wire mark ≡ Refused refusal t
    → t ≡ cond (eqb (number_of refusal) 7) (remembering s (next wire)) s
