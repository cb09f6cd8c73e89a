-- What the calls on a table answer, and the places afterwards (document 02, L1).
use Rattle.std.specs.Prelude.{ℕ, Bool, cond, not, ◌&&◌, List, eqb, ltb, length, Option, Some, None}
use Rattle.answers.specs.Conditions.{all}
use Rattle.answers.specs.declared.Refusal.{Refusal}
use Rattle.answers.specs.declared.Refusal.TheVariants.{Limits, Places}
use Rattle.format.specs.declared.Wire.{Wire}
use Rattle.source.specs.declared.Source.{Source}
use Rattle.source.specs.declared.Arrival.{Arrival}
use Rattle.source.specs.declared.Arrival.TheVariants as arrival
use Rattle.source.specs.declared.BlockCount.{BlockCount}
use Rattle.source.specs.declared.BlockCount.TheVariants as block
use Rattle.source.specs.Arrivals.{arrival, after}
use Rattle.source.specs.Blocks.{in_limits, block_count}
use Rattle.sources.specs.declared.Place.{Place}
use Rattle.sources.specs.declared.Arrived.{Arrived}
use Rattle.sources.specs.declared.Arrived.TheVariants.{Accepted, Restarted, Refused}
use Rattle.sources.specs.declared.Counted.{Counted}
use Rattle.sources.specs.declared.Counted.TheVariants as counted
use Rattle.sources.specs.Places.{held_of}
use Rattle.sources.specs.Rules.{fault}
use Rattle.sources.specs.Stands.{stands_at, record_of, new_to, with_place}

-- every place is held
abbrev pub full : List Place → Bool
full ps = eqb (length (held_of ps)) (length ps)

-- ---- the refusals that change no place, in the order 16, 9, 10, 15

-- 10, then 15 for a new SSRC where every place is held
abbrev pub seatless : Bool → ℕ → List Place → Option Refusal
seatless outside ssrc ps =
    cond outside (Some Limits)
    (cond (new_to ssrc ps && full ps) (Some Places)
    None)

abbrev pub or_else : Option Refusal → Option Refusal → Option Refusal
or_else (Some refusal) other = Some refusal
or_else None other = other

unfoldable pub refusal : Bool → ℕ → List Place → Option Refusal
refusal outside ssrc ps = or_else (fault ps) (seatless outside ssrc ps)

-- the places after a call: as they were where it is so refused
abbrev pub kept : Option Refusal → List Place → List Place → List Place
kept (Some refusal) ps changed = ps
kept None ps changed = changed

-- ---- one arrival

-- the record's own answer; 8 and 7 come from it
abbrev pub told : Arrival → Arrived
told (arrival.Accepted s) = Accepted
told (arrival.Restarted s) = Restarted
told (arrival.Refused refusal s) = Refused refusal

abbrev pub told_unless : Option Refusal → Arrival → Arrived
told_unless (Some refusal) answer = Refused refusal
told_unless None answer = told answer

unfoldable pub arrive_answer : List Place → ℕ → Wire → ℕ → Arrived
arrive_answer ps ssrc wire mark = told_unless (refusal (ltb 3 mark) ssrc ps) (arrival (record_of ssrc ps) wire mark)

-- the record that the arrival hands back stands in the place of its SSRC (7 stores there the number that it remembers)
unfoldable pub arrive_places : List Place → ℕ → Wire → ℕ → List Place
arrive_places ps ssrc wire mark =
    kept (refusal (ltb 3 mark) ssrc ps) ps (with_place (record { ssrc = ssrc; source = after (arrival (record_of ssrc ps) wire mark) }) ps)

-- ---- the arrivals of a block

abbrev pub outside : ℕ → List ℕ → Bool
outside width bytes = not (all (in_limits width bytes))

abbrev pub behind : BlockCount → Source
behind (block.Counted s jumps restarts) = s
behind (block.Refused refusal s) = s

-- where the SSRC stands and whether it was put in new; the jumps and restarts
abbrev pub told_block : ℕ → Bool → BlockCount → Counted
told_block at new (block.Counted s jumps restarts) = counted.Block (record { at = at; new = new }) jumps restarts
told_block at new (block.Refused refusal s) = counted.Refused refusal

abbrev pub block_unless : Option Refusal → Counted → Counted
block_unless (Some refusal) answer = counted.Refused refusal
block_unless None answer = answer

unfoldable pub count_answer : List Place → ℕ → ℕ → List ℕ → Counted
count_answer ps ssrc width bytes =
    block_unless (refusal (outside width bytes) ssrc ps)
    (told_block (stands_at ssrc (held_of ps)) (new_to ssrc ps) (block_count (record_of ssrc ps) width bytes))

unfoldable pub count_places : List Place → ℕ → ℕ → List ℕ → List Place
count_places ps ssrc width bytes =
    kept (refusal (outside width bytes) ssrc ps) ps (with_place (record { ssrc = ssrc; source = behind (block_count (record_of ssrc ps) width bytes) }) ps)
