-- Calls on a table in lent words: from what the table's own calls say to what is said of the words. Assumes nothing.
use Rattle.std.specs.Prelude.{Option, Some, None, Result, Ok, Err}
use Rattle.answers.specs.declared.Unwritten.{Unwritten}
use mathlib.Core.Path.{◌≡◌, refl, sym, ap, ap₂, ◌∙◌}
use mathlib.Core.Bool.{Bool, true, false, cond, not, ◌&&◌}
use mathlib.Core.List.{List}
use Prim.Native.Nat.{ℕ, ◌≤◌}
use native.Mathlib.Omega.{arith}
use borrow.Author.Tests.{ltb-false}
use lib.Dec.{eqb, ltb}
use lib.IntN.{ℤ, pos, neg_ℤ}
use lib.ListN.{length, get_or}
use lib.Seq.{sets}
use Rattle.answers.specs.declared.Refusal.{Refusal}
use Rattle.answers.specs.declared.Refusal.TheVariants.{Malformed, Rules}
use Rattle.answers.specs.Refusals.{number_of}
use Rattle.answers.specs.Writers.{written, stored, size_in, Wrote}
use Rattle.answers.specs.Conditions.{all}
use Rattle.answers.proofs.Stores.{wrote_refused, wrote_size, wrote_same}
use Rattle.format.specs.declared.Wire.{Wire}
use Rattle.source.specs.declared.Arrival.{Arrival}
use Rattle.source.specs.declared.BlockCount.{BlockCount}
use Rattle.source.specs.declared.BlockCount.TheVariants as block
use Rattle.source.specs.Arrivals.{arrival}
use Rattle.source.specs.Blocks.{block_count}
use Rattle.source.proofs.Totalled.{few_jumps, few_restarts}
use Rattle.sources.specs.declared.Place.{Place}
use Rattle.sources.specs.declared.Table.{Table}
use Rattle.sources.specs.declared.Counted.{Counted}
use Rattle.sources.specs.declared.TableArrived.{TableArrived}
use Rattle.sources.specs.declared.TableCounted.{TableCounted}
use Rattle.sources.specs.Places.{empty_place, held_of}
use Rattle.sources.specs.Rules.{most_places, rules, all_sound, fault}
use Rattle.sources.specs.Stands.{stands_at, record_of, new_to}
use Rattle.sources.specs.Answers.{or_else, refusal, seatless, outside, told_unless}
use Rattle.sources.specs.Answers.{block_unless, told_block, arrive_answer, arrive_places, count_answer, count_places}
use Rattle.sources.specs.Compounds.{compound_bytes}
use Rattle.sources.specs.Tables as table
use Rattle.sources.proofs.Fronts.{front_le}
use Rattle.sources.proofs.Compounding.{compound_long}
use Rattle.sources.proofs.Loaded.{few_lent, few_fault, arrive_long, count_long, arrived_lent, arrived_back, counted_lent, counted_back, compound_back}
use Rattle.lent.specs.TableWords.{place_words, table_words, places_in, are_places, are_wires, words_fault, loaded}
use Rattle.lent.proofs.PlaceRuns.{length-table}
use Rattle.lent.proofs.Taking.{Fit, taken, not_taken}
use Rattle.capi.specs.Codes.{refusal_code}
use Rattle.capi.specs.Tables.{arrived_unless, table_arrived, arrived_code, arrived_words, CountsTableArrival, counted_unless, table_counted}
use Rattle.capi.specs.Tables.{counted_code, counted_words, CountsTableBlock, unheld, GivesPlace, held_code, TellsHeld}
use Rattle.capi.specs.TableSteps.{stored_over, LeavesArrived, LeavesCounted, jumps_in, restarts_in, GivesHeld, HeldIn}
use Rattle.capi.proofs.Answers.{gives}
use Rattle.capi.proofs.Fronts.{sets-whole}

-- ---- the words

module _ (words : List ℕ) where
  -- their refusals are no jump
  no_jump : {r : Refusal} → words_fault words ≡ Some r → eqb (number_of r) 7 ≡ false
  unfolding words_fault
  no_jump {r} e = go (all (are_places words)) (all (rules (places_in words))) (are_wires words && all_sound (places_in words)) e
    where
      go : (a b c : Bool) → cond (not a) (Some Rules) (cond (not b) (Some Rules) (cond (not c) (Some Malformed) None)) ≡ Some r → eqb (number_of r) 7 ≡ false
      go false b c e = let k : Rules ≡ r = cc in ap (λ (x : Refusal). eqb (number_of x) 7) (sym k)
      go true false c e = let k : Rules ≡ r = cc in ap (λ (x : Refusal). eqb (number_of x) 7) (sym k)
      go true true false e = let k : Malformed ≡ r = cc in ap (λ (x : Refusal). eqb (number_of x) 7) (sym k)
      go true true true e = let z : ◌≡◌ {A = ℕ} 0 1 = cc in absurd (omega arith)

  -- as many places stored over them
  stored_whole : {u : Table} → Fit words u → (t : Table) (qs : List Place) → table.lent t ≡ qs → length qs ≡ length (places_in words) → stored_over words t ≡ table_words qs
  stored_whole f t qs e long =
      ap (λ (l : List Place). sets words 0 (table_words l)) e ∙ sets-whole words (table_words qs) (omega (arith, f.long, length-table qs, long))

-- ---- one arrival

-- the table's answer tells its own faults
arrived_own : (ps : List Place) (ssrc : ℕ) (wire : Wire) (mark : ℕ)
    → arrived_unless (fault ps) (arrive_answer ps ssrc wire mark) ≡ arrive_answer ps ssrc wire mark
unfolding arrive_answer refusal
arrived_own ps ssrc wire mark = go (fault ps) (arrival (record_of ssrc ps) wire mark)
  where
    go : (f : Option Refusal) (a : Arrival)
        → arrived_unless f (told_unless (or_else f (seatless (ltb 3 mark) ssrc ps)) a) ≡ told_unless (or_else f (seatless (ltb 3 mark) ssrc ps)) a
    go (Some r) a = refl
    go None a = refl

module _ (words : List ℕ) (ssrc wire mark : ℕ) where
  pub arrives_refused : {r : Refusal} → loaded words ≡ Err r → CountsTableArrival words ssrc wire mark (number_of r) words
  unfolding table_arrived
  arrives_refused e = let f = not_taken words e in record { answers = rw f; stores = rw (f, no_jump words f) }

  pub arrives_taken : {t : Table} {given : TableArrived} {r : ℕ} {out : List ℕ} → loaded words ≡ Ok t
      → given ≡ table.arrived_in t ssrc (record { 0 = wire }) mark → LeavesArrived given words r out → CountsTableArrival words ssrc wire mark r out
  unfolding table_arrived
  arrives_taken {t} {given} e eg l =
      let f = taken words e in
      let w : Wire = record { 0 = wire } in
      let ps = places_in words in
      let from = f.table in
      let answer = (arrived_back ps ssrc w mark t given from eg).answer ∙ sym (arrived_own ps ssrc w mark)
      ∙ ap (λ (x : Option Refusal). arrived_unless x (arrive_answer ps ssrc w mark)) (sym f.faults) in
      let places = ap (λ (x : TableArrived). table.lent x.table) (eg ∙ ap (λ (x : Table). table.arrived_in x ssrc w mark) from)
      ∙ arrived_lent ps ssrc w mark f.short in
      let next = stored_whole words f given.table (arrive_places ps ssrc w mark) places (arrive_long ps ssrc w mark) in
      record { answers = l.answers ∙ ap arrived_code answer; stores = l.stores ∙ ap₂ (arrived_words words) next answer }

-- ---- a block

counted_own : (ps : List Place) (ssrc width : ℕ) (bytes : List ℕ)
    → counted_unless (fault ps) (count_answer ps ssrc width bytes) ≡ count_answer ps ssrc width bytes
unfolding count_answer refusal
counted_own ps ssrc width bytes = go (fault ps) (told_block (stands_at ssrc (held_of ps)) (new_to ssrc ps) (block_count (record_of ssrc ps) width bytes))
  where
    go : (f : Option Refusal) (c : Counted)
        → counted_unless f (block_unless (or_else f (seatless (outside width bytes) ssrc ps)) c) ≡ block_unless
        (or_else f (seatless (outside width bytes) ssrc ps)) c
    go (Some r) c = refl
    go None c = refl

-- a block has at most 62 jumps, and as many restarts
few_told : (ps : List Place) (ssrc width : ℕ) (bytes : List ℕ) → (jumps_in (count_answer ps ssrc width bytes) ≤ 62)
    × (restarts_in (count_answer ps ssrc width bytes) ≤ 62)
unfolding count_answer
few_told ps ssrc width bytes = go (refusal (outside width bytes) ssrc ps) (block_count (record_of ssrc ps) width bytes) refl
  where
    go : (f : Option Refusal) (b : BlockCount) → block_count (record_of ssrc ps) width bytes ≡ b
        → (jumps_in (block_unless f (told_block (stands_at ssrc (held_of ps)) (new_to ssrc ps) b)) ≤ 62)
        × (restarts_in (block_unless f (told_block (stands_at ssrc (held_of ps)) (new_to ssrc ps) b)) ≤ 62)
    go (Some r) b e = (omega arith, omega arith)
    go None (block.Counted s jumps restarts) e = (few_jumps (record_of ssrc ps) width bytes e, few_restarts (record_of ssrc ps) width bytes e)
    go None (block.Refused r s) e = (omega arith, omega arith)

module _ (words : List ℕ) (ssrc width : ℕ) (records : List ℕ) where
  pub counts_refused : {r : Refusal} → loaded words ≡ Err r → CountsTableBlock words ssrc width records (neg_ℤ (pos (number_of r))) words
  unfolding table_counted
  counts_refused e = let f = not_taken words e in record { answers = rw f; stores = rw f }

  module _ {t : Table} {given : TableCounted} (e : loaded words ≡ Ok t)
      (eg : given ≡ table.counted_in t ssrc width records) where
    told : given.answer ≡ count_answer (places_in words) ssrc width records
    told = (counted_back (places_in words) ssrc width records t given (taken words e).table eg).answer

    pub few_counted : (jumps_in given.answer ≤ 62) × (restarts_in given.answer ≤ 62)
    few_counted = rw told (few_told (places_in words) ssrc width records)

    pub counts_taken : {r : ℤ} {out : List ℕ} → LeavesCounted given words r out → CountsTableBlock words ssrc width records r out
    unfolding table_counted
    counts_taken l =
        let f = taken words e in
        let ps = places_in words in
        let answer = told ∙ sym (counted_own ps ssrc width records)
        ∙ ap (λ (x : Option Refusal). counted_unless x (count_answer ps ssrc width records)) (sym f.faults) in
        let places = ap (λ (x : TableCounted). table.lent x.table) (eg ∙ ap (λ (x : Table). table.counted_in x ssrc width records) f.table)
        ∙ counted_lent ps ssrc width records f.short in
        let next = stored_whole words f given.table (count_places ps ssrc width records) places (count_long ps ssrc width records) in
        record { answers = l.answers ∙ ap counted_code answer; stores = l.stores ∙ ap₂ (counted_words words) next answer }

-- ---- the compound

module _ (words : List ℕ) (sender : ℕ) (old : List ℕ) where
  pub compound_refused : {r : Refusal} → loaded words ≡ Err r
      → Wrote (words_fault words) (compound_bytes sender (places_in words)) old (Err (Unwritten.Refused r)) old
  compound_refused e = wrote_refused (compound_bytes sender (places_in words)) old (not_taken words e)

  module _ {t : Table} {answer : Result ℕ Unwritten} {out : List ℕ} (e : loaded words ≡ Ok t)
      (w : Wrote (table.fault_in t) (compound_bytes sender (table.lent t)) old answer out) where
    pub compound_wrote : Wrote (words_fault words) (compound_bytes sender (places_in words)) old answer out
    compound_wrote =
        let f = taken words e in
        wrote_same (sym f.faults) refl (compound_back (places_in words) sender old t f.table w)

    pub compound_size : size_in answer ≤ 520
    compound_size =
        let f = taken words e in
        let ps = places_in words in
        let most = ltb-false most_places (length ps) f.short in
        let long = compound_long sender ps (length (held_of ps)) refl in
        wrote_size 520 (λ _. omega (arith, long, front_le ps, most)) compound_wrote

-- ---- one place

module _ (words : List ℕ) (place : ℕ) (old : List ℕ) where
  pub place_refused : {r : Refusal} → loaded words ≡ Err r → GivesPlace words place old (number_of r) old
  place_refused e = gives refusal_code (wrote_refused _ old (ap (λ (x : Option Refusal). or_else x (unheld (places_in words) place)) (not_taken words e))) refl

  pub place_taken : {t : Table} {r : ℕ} {out : List ℕ} → loaded words ≡ Ok t → GivesHeld t place old r out
      → GivesPlace words place old r out
  place_taken {t} e g =
      let f = taken words e in
      let from = f.table in
      let faults : table.fault_in t ≡ words_fault words = ap (λ (x : Table). table.fault_in x) from ∙ few_fault (places_in words) f.short ∙ sym f.faults in
      let places : table.lent t ≡ places_in words = ap (λ (x : Table). table.lent x) from ∙ few_lent (places_in words) f.short in
      record {
        answers = g.answers ∙ (λ i. refusal_code
            (written (or_else (faults i) (unheld (places i) place)) (place_words (get_or (places i) place empty_place)) old));
        stores = g.stores ∙ (λ i. stored (or_else (faults i) (unheld (places i) place)) (place_words (get_or (places i) place empty_place)) old);
      }

-- ---- how many are held

module _ (words : List ℕ) where
  pub held_refused : {r : Refusal} → loaded words ≡ Err r → TellsHeld words (neg_ℤ (pos (number_of r)))
  held_refused e = rw (not_taken words e)

  pub held_taken : {t : Table} {r : ℤ} → loaded words ≡ Ok t → HeldIn t r → TellsHeld words r
  held_taken {t} e g =
      let f = taken words e in
      let from = f.table in
      let faults : table.fault_in t ≡ words_fault words = ap (λ (x : Table). table.fault_in x) from ∙ few_fault (places_in words) f.short ∙ sym f.faults in
      let places : table.lent t ≡ places_in words = ap (λ (x : Table). table.lent x) from ∙ few_lent (places_in words) f.short in
      g ∙ (λ i. held_code (faults i) (length (held_of (places i))))
