-- The hypotheses are met, and each theorem is used where they are. Assumes nothing.
use mathlib.Core.Path.{◌≡◌, refl}
use mathlib.Core.Bool.{true}
use Rattle.answers.specs.declared.Refusal.TheVariants.{Full, Limits}
use mathlib.Core.List.{List, [], ◌∷◌, map}
use Prim.Native.Nat.{ℕ, zero, suc, ◌<◌}
use native.Mathlib.Omega.{arith}
use borrow.Author.Tests.{ltb-true}
use lib.Count.{ones}
use lib.Dec.{ltb}
use lib.ListN.{get_or}
use Rattle.answers.specs.Conditions.{all}
use Rattle.answers.proofs.Conditions.{and_left, and_right}
use Rattle.source.specs.Arrivals.{arrival, first, counted, distance, ahead, behind, jumped, remembering}
use Rattle.source.specs.Distances.{reach_of}
use Rattle.source.specs.Places.{pack, marks, place, places, moved, added}
use Rattle.source.specs.Record.{sound, fresh, has_counted}
use Rattle.sources.specs.Places.{held_of, rest_of}
use Rattle.sources.specs.Rules.{rising, fault}
use Rattle.sources.specs.Stands.{found, put, with_place}
use Rattle.sources.specs.Answers.{refusal, arrive_answer, arrive_places, count_answer}
use Rattle.sources.specs.Theorems.{places_suffice, Wires}
use Rattle.sources.specs.Witnesses.{Met, some_table, lower, next, some_calls, some_bytes, full_table}
use Rattle.sources.proofs.Behind.{arrival_keeps_rules, block_keeps_rules, new_is_put_in, others_keep}
use Rattle.sources.proofs.Leaves.{refusal_leaves, block_refusal_leaves}
use Rattle.sources.proofs.Orders.{either_order, each_source_alone}

octets : (s : List ℕ) → all (map (λ (c : ℕ). ltb c 256) s) ≡ true → (i : ℕ) → get_or s i 0 < 256
octets [] e i = omega arith
octets (c ∷ s) e zero = ltb-true c 256 (and_left (ltb c 256) (all (map (λ (c : ℕ). ltb c 256) s)) e)
octets (c ∷ s) e (suc i) = octets s (and_right (ltb c 256) (all (map (λ (c : ℕ). ltb c 256) s)) e) i

pub met : Met
unfolding fault rising held_of rest_of found put with_place refusal arrive_answer arrive_places count_answer places_suffice Wires sound fresh has_counted arrival first counted distance reach_of ahead behind jumped remembering pack marks place moved added places ones
met = record {
  all_counted = refl;
  no_records = refl;
  good = refl;
  wire = omega arith;
  bytes = octets some_bytes refl;
  free = refl;
  new = refl;
  lower_first = refl;
  next_second = refl;
  next_first = refl;
  lower_second = refl;
  wires = (omega arith, (omega arith, (omega arith, (omega arith, (omega arith, (omega arith, tt))))));
  suffice = refl;
}

used : Unit {0}
used =
    let leaves = refusal_leaves full_table 7 next.wire 3 Full met.all_counted refl in
    let block-leaves = block_refusal_leaves some_table 3 8 [] Limits met.no_records in
    let kept = arrival_keeps_rules some_table 3 lower.wire 1 met.wire met.good in
    let block = block_keeps_rules some_table 3 8 some_bytes met.bytes met.good in
    let between = new_is_put_in some_table 3 lower.wire 1 met.wire met.free met.new in
    let others = others_keep some_table 3 lower.wire 1 met.wire met.free in
    let orders = either_order some_table lower next met.wire (omega arith) refl met.lower_first met.next_second met.next_first met.lower_second in
    let alone = each_source_alone some_table some_calls 7 met.wires met.good met.suffice in
    tt
