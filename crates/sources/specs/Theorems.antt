-- What holds of a table (document 02, L1).
use Rattle.std.specs.Prelude.{◌≡◌, Bool, true, false, cond, not, ◌&&◌, List, [], ◌∷◌, ◌++◌, ℕ, ◌<◌, eqb, ltb, get_or, Some, None}
use Rattle.answers.specs.Refusals.{number_of}
use Rattle.answers.specs.declared.Refusal.{Refusal}
use Rattle.format.specs.declared.Wire.{Wire}
use Rattle.source.specs.declared.Source.{Source}
use Rattle.source.specs.Arrivals.{arrival, after}
use Rattle.sources.specs.declared.Place.{Place}
use Rattle.sources.specs.declared.Arrived.{Arrived}
use Rattle.sources.specs.declared.Arrived.TheVariants.{Accepted, Restarted, Refused}
use Rattle.sources.specs.declared.Counted.TheVariants as counted
use Rattle.sources.specs.Places.{held_of, rest_of}
use Rattle.sources.specs.Rules.{fault}
use Rattle.sources.specs.Stands.{found, record_of, new_to}
use Rattle.sources.specs.Answers.{refusal, arrive_answer, arrive_places, count_answer, count_places}

-- ---- the rules are kept by every call, and the held records stay sound

abbrev pub ArrivalKeepsRules : Type 0
ArrivalKeepsRules =
    (ps : List Place) (ssrc : ℕ) (wire : Wire) (mark : ℕ) → wire.0 < 65536 → fault ps ≡ None → fault (arrive_places ps ssrc wire mark) ≡ None

abbrev pub BlockKeepsRules : Type 0
BlockKeepsRules =
    (ps : List Place) (ssrc width : ℕ) (bytes : List ℕ) → ((i : ℕ) → get_or bytes i 0 < 256) → fault ps ≡ None → fault (count_places ps ssrc width bytes) ≡ None

-- ---- every refusal but 7 leaves the places as they were, 8 among them

abbrev pub RefusalLeaves : Type 0
RefusalLeaves =
    (ps : List Place) (ssrc : ℕ) (wire : Wire) (mark : ℕ) (r : Refusal) → arrive_answer ps ssrc wire mark ≡ Refused r → eqb (number_of r) 7 ≡ false
    → arrive_places ps ssrc wire mark ≡ ps

abbrev pub BlockRefusalLeaves : Type 0
BlockRefusalLeaves =
    (ps : List Place) (ssrc width : ℕ) (bytes : List ℕ) (r : Refusal) → count_answer ps ssrc width bytes ≡ counted.Refused r → count_places ps ssrc width bytes ≡ ps

-- ---- a new SSRC is put in its place, and all others keep their contents

-- among the held places, whose order is kept; and one unused place fewer is left
pub record PutIn (p : Place) (before behind : List Place) : Type 0 where
  pub low : List Place
  pub high : List Place
  pub were : held_of before ≡ low ++ high
  pub are : held_of behind ≡ low ++ p ∷ high
  pub unused : Place
  pub left : rest_of before ≡ rest_of behind ++ (unused ∷ [])

abbrev pub NewIsPutIn : Type 0
NewIsPutIn =
    (ps : List Place) (ssrc : ℕ) (wire : Wire) (mark : ℕ) → wire.0 < 65536 → refusal (ltb 3 mark) ssrc ps ≡ None → new_to ssrc ps ≡ true
    → PutIn (record { ssrc = ssrc; source = after (arrival (record_of ssrc ps) wire mark) }) ps (arrive_places ps ssrc wire mark)

-- what is found of every SSRC after a call that was not so refused
abbrev pub OthersKeep : Type 0
OthersKeep =
    (ps : List Place) (ssrc : ℕ) (wire : Wire) (mark : ℕ) → wire.0 < 65536 → refusal (ltb 3 mark) ssrc ps ≡ None → (other : ℕ)
    → found other (held_of (arrive_places ps ssrc wire mark))
    ≡ cond (eqb ssrc other) (Some (after (arrival (record_of ssrc ps) wire mark))) (found other (held_of ps))

-- ---- two arrivals for different sources give the same table in either order where neither is refused in either order

abbrev pub taken : Arrived → Bool
taken Accepted = true
taken Restarted = true
taken (Refused refusal) = false

pub record Arrival : Type 0 where
  pub ssrc : ℕ
  pub wire : Wire
  pub mark : ℕ

abbrev pub answer : List Place → Arrival → Arrived
answer ps a = arrive_answer ps a.ssrc a.wire a.mark

abbrev pub behind_one : List Place → Arrival → List Place
behind_one ps a = arrive_places ps a.ssrc a.wire a.mark

abbrev pub EitherOrder : Type 0
EitherOrder =
    (ps : List Place) (a b : Arrival) → a.wire.0 < 65536 → b.wire.0 < 65536 → eqb a.ssrc b.ssrc ≡ false
    → taken (answer ps a) ≡ true → taken (answer (behind_one ps a) b) ≡ true
    → taken (answer ps b) ≡ true → taken (answer (behind_one ps b) a) ≡ true
    → behind_one (behind_one ps a) b ≡ behind_one (behind_one ps b) a

-- ---- a list of calls: each source's record is that of the calls that name it

unfoldable pub behind_all : List Place → List Arrival → List Place
behind_all ps [] = ps
behind_all ps (a ∷ rest) = behind_all (behind_one ps a) rest

-- not refused with 15
abbrev pub seated : Arrived → Bool
seated Accepted = true
seated Restarted = true
seated (Refused refusal) = not (eqb (number_of refusal) 15)

-- places suffice for a source: no call that names it is refused with 15
unfoldable pub places_suffice : ℕ → List Place → List Arrival → Bool
places_suffice ssrc ps [] = true
places_suffice ssrc ps (a ∷ rest) = cond (eqb a.ssrc ssrc) (seated (answer ps a)) true && places_suffice ssrc (behind_one ps a) rest

unfoldable pub naming : ℕ → List Arrival → List Arrival
naming ssrc [] = []
naming ssrc (a ∷ rest) = cond (eqb a.ssrc ssrc) (a ∷ naming ssrc rest) (naming ssrc rest)

-- the record after the calls, each on the record that the one before handed back
unfoldable pub record_behind : Source → List Arrival → Source
record_behind s [] = s
record_behind s (a ∷ rest) = record_behind (after (arrival s a.wire a.mark)) rest

unfoldable pub Wires : List Arrival → Type 0
Wires [] = Unit {0}
Wires (a ∷ rest) = (a.wire.0 < 65536) × Wires rest

-- whatever calls for other sources come between; from the fresh record where the table had none
abbrev pub EachSourceAlone : Type 0
EachSourceAlone =
    (ps : List Place) (calls : List Arrival) (ssrc : ℕ) → Wires calls → fault ps ≡ None → places_suffice ssrc ps calls ≡ true
    → record_of ssrc (behind_all ps calls) ≡ record_behind (record_of ssrc ps) (naming ssrc calls)
