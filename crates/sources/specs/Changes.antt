-- What a call does with what a walk over the places saw: its answer, and the places that change. (Calling, in proofs/, says that these are the answer and the
-- places of the table.)
use Rattle.std.specs.Prelude.{ℕ, ◌-◌, cond, not, List, ltb, Option, Some, None}
use Rattle.answers.specs.declared.Refusal.{Refusal}
use Rattle.answers.specs.declared.Refusal.TheVariants.{Limits, Places}
use Rattle.format.specs.declared.Wire.{Wire}
use Rattle.source.specs.declared.BlockCount.{BlockCount}
use Rattle.source.specs.declared.BlockCount.TheVariants as block
use Rattle.source.specs.Arrivals.{arrival, after}
use Rattle.source.specs.Blocks.{block_count}
use Rattle.sources.specs.declared.Place.{Place}
use Rattle.sources.specs.declared.Arrived.TheVariants as arrived
use Rattle.sources.specs.declared.Counted.TheVariants as counted
use Rattle.sources.specs.declared.calls.Change.{Change}
use Rattle.sources.specs.declared.calls.Arriving.{Arriving}
use Rattle.sources.specs.declared.calls.Counting.{Counting}
use Rattle.sources.specs.declared.finding.Seen.{Seen}
use Rattle.sources.specs.Places.{empty_place}
use Rattle.sources.specs.Answers.{told}
use Rattle.sources.specs.Seats.{pushed}
use Rattle.sources.specs.Seeing.{fault_seen, roomy}

-- the places with a change
unfoldable pub changed : Change → List Place → List Place
changed c ps = pushed c.from (c.end - c.from) c.place ps

abbrev pub no_change : Change
no_change = record { from = 0; end = 0; place = empty_place }

abbrev pub change_of : Seen → Place → Change
change_of s p = record { from = s.stand.at; end = s.end; place = p }

-- ---- one arrival: the refusal of the table, 10, 15, or the record's own answer

abbrev pub not_arriving : Refusal → Arriving
not_arriving refusal = record { answer = arrived.Refused refusal; change = no_change }

-- 10 for a mark above 3; 15 for a new SSRC and no place
unfoldable pub arriving_by : Option Refusal → Seen → ℕ → Wire → ℕ → Arriving
arriving_by (Some refusal) s ssrc wire mark = not_arriving refusal
arriving_by None s ssrc wire mark =
    cond (ltb 3 mark) (not_arriving Limits)
    (cond (not (roomy s)) (not_arriving Places)
    (record {
      answer = told (arrival s.source wire mark);
      change = change_of s (record { ssrc = ssrc; source = after (arrival s.source wire mark) });
    }))

abbrev pub arriving : Seen → ℕ → Wire → ℕ → Arriving
arriving s = arriving_by (fault_seen s) s

-- ---- a block: the refusal of the table, 10, 15, or its jumps and restarts

abbrev pub not_counting : Refusal → Counting
not_counting refusal = record { answer = counted.Refused refusal; change = no_change }

-- 15 for a new SSRC and no place
unfoldable pub settled : Seen → Place → ℕ → ℕ → Counting
settled s p jumps restarts = cond (not (roomy s)) (not_counting Places) (record { answer = counted.Block s.stand jumps restarts; change = change_of s p })

abbrev pub counted_by : Seen → ℕ → BlockCount → Counting
counted_by s ssrc (block.Counted source jumps restarts) = settled s (record { ssrc = ssrc; source = source }) jumps restarts
counted_by s ssrc (block.Refused refusal source) = not_counting refusal

unfoldable pub counting_by : Option Refusal → Seen → ℕ → ℕ → List ℕ → Counting
counting_by (Some refusal) s ssrc width bytes = not_counting refusal
counting_by None s ssrc width bytes = counted_by s ssrc (block_count s.source width bytes)

abbrev pub counting : Seen → ℕ → ℕ → List ℕ → Counting
counting s = counting_by (fault_seen s) s
