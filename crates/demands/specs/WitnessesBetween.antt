-- The hypotheses of the theorems on what comes between two records, and on restarts, can be met: for each of them, values that meet them all.
use Rattle.std.specs.Prelude.{◌≡◌, true, List, [], ◌∷◌, map, ℕ, pos, negsuc, None}
use Rattle.answers.specs.declared.Refusal.TheVariants.{Jump}
use Rattle.format.specs.declared.Wire.{Wire}
use Rattle.source.specs.declared.Source.{Source}
use Rattle.source.specs.declared.Arrival.TheVariants.{Restarted, Refused}
use Rattle.source.specs.declared.distances.Reach.TheVariants as reach
use Rattle.source.specs.Distances.{reach_of}
use Rattle.source.specs.Record.{wire_number, fresh_record}
use Rattle.source.specs.Arrivals.{extended, first, distance, remembering, arrival}
use Rattle.source.specs.Blocks.{Packet}
use Rattle.source.specs.Between.{Leads, came, with_mark, arrived_before}
use Rattle.demands.specs.Between.{lost_between}
use Rattle.demands.specs.BetweenCalls.{Tellable}
use Rattle.demands.specs.Examples.{c1}

abbrev pub wire : ℕ → Wire
wire number = record { 0 = number }

abbrev pub packet_of : ℕ → ℕ → Packet
packet_of number mark = record { wire = wire number; mark = mark }

-- after C1's calls: a jump, a duplicate, the next number, a mark above 3, and a number that was lost
abbrev pub onward : List Packet
onward = packet_of 30000 2 ∷ packet_of 65535 2 ∷ packet_of 4 1 ∷ packet_of 5 4 ∷ packet_of 1 0 ∷ []

-- C1's record, and that after them
abbrev pub earlier : Source
earlier = record {
  base = extended (pos 65534);
  highest = extended (pos 65539);
  notect = 0;
  ect1 = 1;
  ect0 = 2;
  ce = 2;
  duplicates = 1;
  history = record { recent = 0b111001; older = 0 };
  remembered = None;
}

abbrev pub later : Source
later = record {
  base = extended (pos 65534);
  highest = extended (pos 65540);
  notect = 1;
  ect1 = 2;
  ect0 = 3;
  ce = 2;
  duplicates = 2;
  history = record { recent = 0b1111011; older = 0 };
  remembered = None;
}

pub record MetBetween : Type 0 where
  -- GrowsByBetween
  pub c1_leads : Leads fresh_record (map (λ x. packet_of x.0 x.1) c1) earlier
  pub leads : Leads earlier onward later
  -- TellsBetween
  pub notect : came (with_mark 0) earlier onward ≡ 1
  pub ect1 : came (with_mark 1) earlier onward ≡ 1
  pub ect0 : came (with_mark 2) earlier onward ≡ 1
  pub ce : came (with_mark 3) earlier onward ≡ 0
  pub duplicates : came arrived_before earlier onward ≡ 1
  pub lost : lost_between earlier onward later ≡ negsuc 0
  -- ReportsTellCalls
  pub tellable : Tellable earlier onward later
  -- RefusalKeeps: a jump, which is 7; SecondRestarts, TypedStays, RestartsAfresh: the number after it
  pub jumps : arrival earlier (wire 30000) 2 ≡ Refused Jump (remembering earlier (wire 30001))
  pub far : reach_of (distance earlier.highest (wire 30001)) ≡ reach.Jump
  pub typed : wire_number (remembering earlier (wire 30001)).remembered ≡ true
  pub restarts : arrival (remembering earlier (wire 30001)) (wire 30001) 3 ≡ Restarted (first fresh_record (wire 30001) 3)
