-- A list of arrival calls in the order of time, and what is asked of it.
use Rattle.std.specs.Prelude.{◌≡◌, cond, List, [], ◌∷◌, ℕ, ◌≤◌, ◌^◌, leb, ℤ, pos, ◌+ℤ◌, ◌-ℤ◌, length, ◌≤ℤ◌}
use Rattle.std.specs.Int.Signed.{le_z}
use Rattle.numbers.specs.Integers.{modulo}
use Rattle.answers.specs.declared.Refusal.TheVariants.{Limits}
use Rattle.format.specs.declared.Wire.{Wire}
use Rattle.source.specs.declared.Source.{Source}
use Rattle.source.specs.declared.Arrival.{Arrival}
use Rattle.source.specs.declared.Arrival.TheVariants.{Accepted, Refused}
use Rattle.source.specs.Record.{fresh_record}
use Rattle.source.specs.Arrivals.{arrival, after}

-- a true, unwrapped sequence number and a mark
pub record TruePacket : Type 0 where
  pub number : ℤ
  pub mark : ℕ

-- ---- the calls

-- of the true number the program sees 16 bits
abbrev pub wire_of : ℤ → Wire
wire_of z = record { 0 = modulo 65536 z }

-- what `arrive` answers
abbrev pub call : Source → TruePacket → Arrival
call s p = arrival s (wire_of p.number) p.mark

-- the record after some calls, each on the record that the call before handed back
abbrev pub run_from : Source → List TruePacket → Source
run_from s [] = s
run_from s (p ∷ ps) = run_from (after (call s p)) ps

abbrev pub run : List TruePacket → Source
run ps = run_from fresh_record ps

-- each call with a mark of at most 3 is accepted, and each other is refused with 10 and the given record
abbrev pub AnsweredFrom : Source → List TruePacket → Type 0
AnsweredFrom s [] = Unit {0}
AnsweredFrom s (p ∷ ps) =
    (call s p ≡ cond (leb p.mark 3) (Accepted (after (call s p))) (Refused Limits s)) × AnsweredFrom (after (call s p)) ps

-- ---- the arrivals among them

-- the calls with a mark of at most 3
abbrev pub arrivals : List TruePacket → List TruePacket
arrivals [] = []
arrivals (p ∷ ps) = cond (leb p.mark 3) (p ∷ arrivals ps) (arrivals ps)

-- the greater of two numbers
abbrev pub max_z : ℤ → ℤ → ℤ
max_z a b = cond (le_z a b) b a

-- each number is at most 99 below and at most 2,999 above the highest before it, which is h at first
abbrev pub SteadyAfter : ℤ → List TruePacket → Type 0
SteadyAfter h [] = Unit {0}
SteadyAfter h (p ∷ ps) = ((h -ℤ pos 99) ≤ℤ p.number) × (p.number ≤ℤ (h +ℤ pos 2999)) × SteadyAfter (max_z h p.number) ps

-- the first is from 0 to 65,535
abbrev pub Steady : List TruePacket → Type 0
Steady [] = Unit {0}
Steady (p ∷ ps) = (pos 0 ≤ℤ p.number) × (p.number ≤ℤ pos 65535) × SteadyAfter p.number ps

-- a list of calls as the user describes it
pub record Described (ps : List TruePacket) : Type 0 where
  pub few : length (arrivals ps) ≤ 2 ^ 48
  pub steady : Steady (arrivals ps)
