-- Document 02, request L1: the compound of a table reads back, and demand 3 holds for each source's record where places suffice, "over the calls that name the
-- source, from a table without it that 16 and 9 don't refuse, whatever calls for other sources come between".
use Rattle.rtcp.specs.declared.Feedback.{Feedback}
use Rattle.rtcp.specs.declared.Compound.{Compound}
use Rattle.answers.specs.declared.Refusal.{Refusal}
use Rattle.std.specs.Prelude.{◌≡◌, Bool, true, cond, not, ◌&&◌, List, [], ◌∷◌, ◌++◌, map, ℕ, ◌/◌, ◌^◌, ◌≤◌, ◌<◌, eqb, leb, ltb, length, get_or, Option, Some, None, Result, Ok}
use Rattle.answers.specs.Conditions.{all}
use Rattle.answers.specs.Refusals.{number_of}
use Rattle.answers.specs.declared.Refusal.TheVariants.{Limits}
use Rattle.numbers.specs.Integers.{modulo}
use Rattle.source.specs.Blocks.{Packet, packets}
use Rattle.rtcp.specs.declared.Profile.{Profile}
use Rattle.rtcp.specs.Compound.{reading}
use Rattle.sources.specs.declared.Place.{Place}
use Rattle.sources.specs.declared.Arrived.TheVariants.{Accepted, Refused}
use Rattle.sources.specs.declared.Counted.{Counted}
use Rattle.sources.specs.declared.Counted.TheVariants as counted
use Rattle.sources.specs.Places.{empty_place, held_of}
use Rattle.sources.specs.Rules.{fault}
use Rattle.sources.specs.Stands.{found, record_of, new_to}
use Rattle.sources.specs.Seats.{stand_of}
use Rattle.sources.specs.Answers.{outside, count_answer, count_places}
use Rattle.sources.specs.Compounds.{compound_bytes}
use Rattle.sources.specs.Theorems.{Arrival, answer, behind_one, seated}
use Rattle.demands.specs.Calls.{TruePacket, arrivals, Described}
use Rattle.demands.specs.Count.{base_of, greatest_in, count, counts_in, SameArrivals}
use Rattle.demands.specs.PrintedTable.{of_arrival}
use Rattle.demands.specs.BetweenReports.{feedback_from}

-- ---- the compound of a table

-- every SSRC has 32 bits
abbrev pub ssrcs_fit : List Place → Bool
ssrcs_fit ps = all (map (λ p. ltb p.ssrc (2 ^ 32)) ps)

-- what is read where an SR or an RR is there, and about the source nothing but this
abbrev pub only_feedback : Option Feedback → Result Compound Refusal
only_feedback feedback = Ok (record { report = None; feedback = feedback; summary = None; reporting = true })

pub record ReadsBack (ps : List Place) (sender : ℕ) (profile : Profile) : Type 0 where
  -- about the SSRC of a held place: that place's feedback
  pub held : (i : ℕ) → i < length (held_of ps)
      → reading (compound_bytes sender ps) (get_or (held_of ps) i empty_place).ssrc profile
      ≡ only_feedback (Some (feedback_from sender (get_or (held_of ps) i empty_place).source))
  -- about any other: none
  pub others : (ssrc : ℕ) → new_to ssrc ps ≡ true → reading (compound_bytes sender ps) ssrc profile ≡ only_feedback None

abbrev pub CompoundReadsBack : Type 0
CompoundReadsBack =
    (ps : List Place) (sender : ℕ) (profile : Profile) → fault ps ≡ None → ssrcs_fit (held_of ps) ≡ true → sender < 2 ^ 32 → ReadsBack ps sender profile

-- ---- calls on a table

-- an arrival; or a block's records: their SSRC, the width of each, and their bytes
pub data Call : Type 0 where
  arrives : Arrival → Call
  counts : ℕ → ℕ → List ℕ → Call

-- the SSRC that a call names
abbrev pub named : Call → ℕ
named (arrives a) = a.ssrc
named (counts ssrc width bytes) = ssrc

-- SSRCs of 32 bits, wire numbers of 16, bytes of 8
abbrev pub Fits : Call → Type 0
Fits (arrives a) = (a.ssrc < 2 ^ 32) × (a.wire.0 < 65536)
Fits (counts ssrc width bytes) = (ssrc < 2 ^ 32) × ((i : ℕ) → get_or bytes i 0 < 256)

abbrev pub AllFit : List Call → Type 0
AllFit [] = Unit {0}
AllFit (c ∷ calls) = Fits c × AllFit calls

-- the table behind a call, and behind a list of calls, each on the table that the one before left
abbrev pub behind_call : List Place → Call → List Place
behind_call ps (arrives a) = behind_one ps a
behind_call ps (counts ssrc width bytes) = count_places ps ssrc width bytes

abbrev pub behind_all : List Place → List Call → List Place
behind_all ps [] = ps
behind_all ps (c ∷ calls) = behind_all (behind_call ps c) calls

-- not refused with 15
abbrev pub seated_block : Counted → Bool
seated_block (counted.Block stand jumps restarts) = true
seated_block (counted.Refused refusal) = not (eqb (number_of refusal) 15)

abbrev pub seated_call : List Place → Call → Bool
seated_call ps (arrives a) = seated (answer ps a)
seated_call ps (counts ssrc width bytes) = seated_block (count_answer ps ssrc width bytes)

-- places suffice for a source: no call that names it is refused with 15
abbrev pub places_suffice : ℕ → List Place → List Call → Bool
places_suffice ssrc ps [] = true
places_suffice ssrc ps (c ∷ calls) = cond (eqb (named c) ssrc) (seated_call ps c) true && places_suffice ssrc (behind_call ps c) calls

-- the packets that a call brings: an arrival its own; a block those of its records, and none where they are outside the limits, which is refused with 10
abbrev pub brought : Call → List Packet
brought (arrives a) = record { wire = a.wire; mark = a.mark } ∷ []
brought (counts ssrc width bytes) = cond (outside width bytes) [] (packets width (length bytes / width) bytes)

-- and that the calls that name a source bring, in order
abbrev pub seen : ℕ → List Call → List Packet
seen ssrc [] = []
seen ssrc (c ∷ calls) = cond (eqb (named c) ssrc) (brought c) [] ++ seen ssrc calls

-- ---- demand 3 for one source of the table

-- Calls on a table that neither 16 nor 9 refuses and in which the source is new, where places suffice for it. What those that name the source bring is what the
-- program sees of the packets `tps`, a list as the user describes it; calls for other sources come between as they like.
pub record Brings (ps : List Place) (calls : List Call) (ssrc : ℕ) (tps : List TruePacket) : Type 0 where
  pub good : fault ps ≡ None
  pub new : new_to ssrc ps ≡ true
  pub ssrcs : ssrcs_fit (held_of ps) ≡ true
  pub fit : AllFit calls
  pub suffice : places_suffice ssrc ps calls ≡ true
  pub described : Described tps
  pub same : seen ssrc calls ≡ map of_arrival tps

-- an arrival is accepted, and one with a mark above 3 refused with 10; of a block no packet is a jump or a restart, and one outside the limits is refused with 10
abbrev pub Answered : List Place → Call → Type 0
Answered ps (arrives a) = answer ps a ≡ cond (leb a.mark 3) Accepted (Refused Limits)
Answered ps (counts ssrc width bytes) =
    count_answer ps ssrc width bytes ≡ cond (outside width bytes) (counted.Refused Limits) (counted.Block (stand_of ssrc (held_of ps)) 0 0)

-- so is each call that names the source
abbrev pub AllAnswered : ℕ → List Place → List Call → Type 0
AllAnswered ssrc ps [] = Unit {0}
AllAnswered ssrc ps (c ∷ calls) = (eqb (named c) ssrc ≡ true → Answered ps c) × AllAnswered ssrc (behind_call ps c) calls

pub record SourceOutcome (ps : List Place) (calls : List Call) (ssrc : ℕ) (tps : List TruePacket) : Type 0 where
  pub answers : AllAnswered ssrc ps calls
  -- neither 16 nor 9 refuses the table at the end
  pub good : fault (behind_all ps calls) ≡ None
  -- the source's record there is what the count over its arrivals gives, and a place holds it where there are some
  pub state : record_of ssrc (behind_all ps calls) ≡ count (arrivals tps)
  pub place : 1 ≤ length (arrivals tps) → found ssrc (held_of (behind_all ps calls)) ≡ Some (count (arrivals tps))
  -- and the table's compound carries that count of it
  pub feedback : (sender : ℕ) (profile : Profile) → sender < 2 ^ 32 → 1 ≤ length (arrivals tps)
      → reading (compound_bytes sender (behind_all ps calls)) ssrc profile
      ≡ only_feedback (Some (record { sender = sender; highest = modulo (2 ^ 32) (greatest_in (arrivals tps)); counts = counts_in (arrivals tps) }))
  -- any other such calls on any other such table, with the same arrivals of the source and the same first one, end in the same record of it
  pub order : (qs : List Place) (others : List Call) (tqs : List TruePacket) → Brings qs others ssrc tqs → SameArrivals (arrivals tps) (arrivals tqs)
      → base_of (arrivals tps) ≡ base_of (arrivals tqs) → record_of ssrc (behind_all ps calls) ≡ record_of ssrc (behind_all qs others)

abbrev pub EachSource : Type 0
EachSource = (ps : List Place) (calls : List Call) (ssrc : ℕ) (tps : List TruePacket) → Brings ps calls ssrc tps → SourceOutcome ps calls ssrc tps
