-- Calls on a table of several sources from C. Assumes nothing.
use Rattle.std.specs.Prelude.{Option, Some, None}
use mathlib.Core.Path.{◌≡◌, refl, sym, ap, ap₂, ◌∙◌, subst}
use mathlib.Core.Bool.{Bool, true, false, cond}
use mathlib.Core.List.{List, [], ◌∷◌, ◌++◌, map}
use Prim.Native.Nat.{ℕ, zero, suc, ◌^◌, ◌<◌}
use borrow.Author.Tests.{lt-ltb, le-ltb, leb-true}
use lib.Dec.{eqb, ltb}
use lib.IntN.{ℤ, pos}
use lib.ListN.{length, take}
use Rattle.answers.specs.Conditions.{all}
use Rattle.answers.specs.Refusals.{number_of}
use Rattle.answers.specs.declared.Refusal.{Refusal}
use Rattle.answers.proofs.Conditions.{and_left, and_right, all_true}
use Rattle.format.specs.declared.Wire.{Wire}
use Rattle.source.specs.declared.Source.{Source}
use Rattle.source.specs.Record.{wire_number}
use Rattle.source.specs.Arrivals.{arrival, after}
use Rattle.source.specs.Blocks.{block_count}
use Rattle.source.proofs.Afresh.{typed_stays}
use Rattle.sources.specs.declared.Place.{Place}
use Rattle.sources.specs.declared.Arrived.{Arrived}
use Rattle.sources.specs.declared.Arrived.TheVariants.{Accepted, Restarted, Refused}
use Rattle.sources.specs.declared.Counted.{Counted}
use Rattle.sources.specs.declared.Counted.TheVariants as counted
use Rattle.sources.specs.Places.{held, held_of, rest_of}
use Rattle.sources.specs.Rules.{most_places, rules, fault}
use Rattle.sources.specs.Stands.{found, record_in, record_of, put, with_place}
use Rattle.sources.specs.Answers.{refusal, kept, behind, outside, arrive_answer, arrive_places, count_answer, count_places}
use Rattle.sources.specs.Compounds.{compound_bytes}
use Rattle.sources.specs.Tables as table
use Rattle.sources.proofs.Checking as checking
use Rattle.sources.proofs.Sorted.{all_put}
use Rattle.sources.proofs.Leaves.{refusal_leaves, block_refusal_leaves}
use Rattle.sources.proofs.Behind.{record_sound, arrival_keeps_rules, block_keeps_rules}
use Rattle.sources.proofs.Loaded.{few_lent}
use Rattle.walk.specs.Pieces.{Octets}
use Rattle.lent.specs.TableWords.{table_words, places_in, words_fault, typed_place}
use Rattle.lent.proofs.TableLaws.{table_back}
use Rattle.lent.proofs.Taking.{taken}
use Rattle.sources.specs.Witnesses.{some_table}
use Rattle.capi.specs.Codes.{length_code}
use Rattle.capi.specs.Tables.{arrived_unless, table_arrived, arrived_code, arrived_words, counted_unless, table_counted, counted_code, counted_words}
use Rattle.demands.specs.EachSource.{Call, arrives, counts, Fits, AllFit, behind_call, behind_all}
use Rattle.demands.specs.Witnesses.{wrapped}
use Rattle.demands.specs.WitnessesSources.{mixed_calls}
use Rattle.demands.proofs.EachSource.{each_source}
use Rattle.demands.proofs.WitnessesSources.{met_sources}
use Rattle.callers.specs.InTurn.{left_by, Every, ReadOn}
use Rattle.callers.specs.TableFromC.{table_left, table_told, places_told, TableCallsInTurn, EachSourceFromC}
use Rattle.callers.proofs.FromC.{gives_same, gave}
use Rattle.callers.proofs.InTurn.{in_turn}
use Rattle.callers.proofs.BlocksFromC.{one}

-- ---- what the types of the fields say stays so

abbrev Typed : List Place → Type 0
Typed ps = all (map typed_place ps) ≡ true

typed_append : (ps qs : List Place) → Typed ps → Typed qs → Typed (ps ++ qs)
typed_append [] qs p q = q
typed_append (x ∷ ps) qs p q = rw (and_left (typed_place x) (all (map typed_place ps)) p, typed_append ps qs (and_right (typed_place x) (all (map typed_place ps)) p) q)

typed_take : (n : ℕ) (ps : List Place) → Typed ps → Typed (take n ps)
typed_take zero ps t = refl
typed_take (suc n) [] t = refl
typed_take (suc n) (p ∷ ps) t = rw (and_left (typed_place p) (all (map typed_place ps)) t) (typed_take n ps (and_right (typed_place p) (all (map typed_place ps)) t))

-- the held places and the others
typed_parts : (ps : List Place) → Typed ps → Typed (held_of ps) × Typed (rest_of ps)
unfolding held_of rest_of
typed_parts [] t = (refl, refl)
typed_parts (p ∷ ps) t = go (held p) (typed_parts ps (and_right (typed_place p) (all (map typed_place ps)) t))
  where
    go : (b : Bool) → Typed (held_of ps) × Typed (rest_of ps) → Typed (cond b (p ∷ held_of ps) []) × Typed (cond b (rest_of ps) (p ∷ ps))
    go true r = (rw (and_left (typed_place p) (all (map typed_place ps)) t) r.0, r.1)
    go false r = (refl, t)

found_typed : (ssrc : ℕ) (ps : List Place) → Typed ps → wire_number (record_in (found ssrc ps)).remembered ≡ true
unfolding found
found_typed ssrc [] t = refl
found_typed ssrc (p ∷ ps) t = go (eqb p.ssrc ssrc) (found_typed ssrc ps (and_right (typed_place p) (all (map typed_place ps)) t))
  where
    go : (b : Bool) → wire_number (record_in (found ssrc ps)).remembered ≡ true → wire_number (record_in (cond b (Some p.source) (found ssrc ps))).remembered ≡ true
    go true r = and_right (ltb p.ssrc (2 ^ 32)) (wire_number p.source.remembered) (and_left (typed_place p) (all (map typed_place ps)) t)
    go false r = r

with_typed : (p : Place) (ps : List Place) → typed_place p ≡ true → Typed ps → Typed (with_place p ps)
unfolding with_place
with_typed p ps h t =
    let both = typed_parts ps t in
    typed_take (length ps) (put p (held_of ps) ++ rest_of ps) (typed_append (put p (held_of ps)) (rest_of ps) (all_put typed_place p (held_of ps) h both.0) both.1)

module _ (ps : List Place) (t : Typed ps) (ssrc : ℕ) (small : ssrc < 2 ^ 32) where
  -- with a record put at the SSRC, unless the call is refused
  kept_typed : (o : Option Refusal) (s : Source) → wire_number s.remembered ≡ true → Typed (kept o ps (with_place (record { ssrc = ssrc; source = s }) ps))
  kept_typed (Some r) s w = t
  kept_typed None s w = with_typed (record { ssrc = ssrc; source = s }) ps (rw (lt-ltb ssrc (2 ^ 32) small, w)) t

  arrive_typed : (wire : Wire) (mark : ℕ) → Typed (arrive_places ps ssrc wire mark)
  unfolding arrive_places
  arrive_typed wire mark =
      kept_typed (refusal (ltb 3 mark) ssrc ps) (after (arrival (record_of ssrc ps) wire mark))
      (typed_stays (record_of ssrc ps) wire mark (found_typed ssrc (held_of ps) (typed_parts ps t).0))

  count_typed : fault ps ≡ None → (width : ℕ) (bytes : List ℕ) → Octets bytes → Typed (count_places ps ssrc width bytes)
  unfolding count_places
  count_typed f width bytes o =
      let s = record_of ssrc ps in
      let sound = record_sound ssrc ps (checking.kept ps f) in
      kept_typed (refusal (outside width bytes) ssrc ps) (behind (block_count s width bytes)) (one s (width, bytes) sound (found_typed ssrc (held_of ps) (typed_parts ps t).0) o).typed

-- ---- the words of a table are read as it

module _ (ps : List Place) (f : fault ps ≡ None) (t : Typed ps) where
  abbrev words : List ℕ
  words = table_words ps

  back : (words_fault words ≡ None) × (places_in words ≡ ps)
  back =
      let b = table_back ps f t in
      let fit = taken words b.0 in
      let few = le-ltb most_places (length ps) (leb-true (length ps) most_places (all_true (rules ps) 0 (checking.kept ps f).ruled)) in
      (b.1, sym (few_lent (places_in words) fit.short) ∙ ap table.lent (sym fit.table) ∙ few_lent ps few)

  module _ (ssrc : ℕ) (wire : Wire) (mark : ℕ) where
    arrived_is : table_arrived words ssrc wire.0 mark ≡ arrive_answer ps ssrc wire mark
    unfolding table_arrived
    arrived_is = ap₂ (λ (o : Option Refusal) (qs : List Place). arrived_unless o (arrive_answer qs ssrc wire mark)) back.0 back.1

    arrived_left : arrived_words words (table_words (arrive_places (places_in words) ssrc wire mark)) (table_arrived words ssrc wire.0 mark) ≡ table_words (arrive_places ps ssrc wire mark)
    arrived_left =
        ap₂ (λ (qs : List Place) (a : Arrived). arrived_words words (table_words (arrive_places qs ssrc wire mark)) a) back.1 arrived_is ∙ go (arrive_answer ps ssrc wire mark) refl
      where
        refused : (r : Refusal) → arrive_answer ps ssrc wire mark ≡ Refused r → (b : Bool) → eqb (number_of r) 7 ≡ b
            → cond b (table_words (arrive_places ps ssrc wire mark)) words ≡ table_words (arrive_places ps ssrc wire mark)
        refused r e true q = refl
        refused r e false q = ap table_words (sym (refusal_leaves ps ssrc wire mark r e q))

        go : (a : Arrived) → arrive_answer ps ssrc wire mark ≡ a → arrived_words words (table_words (arrive_places ps ssrc wire mark)) a ≡ table_words (arrive_places ps ssrc wire mark)
        go Accepted e = refl
        go Restarted e = refl
        go (Refused r) e = refused r e (eqb (number_of r) 7) refl

  module _ (ssrc width : ℕ) (bytes : List ℕ) where
    counted_is : table_counted words ssrc width bytes ≡ count_answer ps ssrc width bytes
    unfolding table_counted
    counted_is = ap₂ (λ (o : Option Refusal) (qs : List Place). counted_unless o (count_answer qs ssrc width bytes)) back.0 back.1

    counted_left : counted_words words (table_words (count_places (places_in words) ssrc width bytes)) (table_counted words ssrc width bytes) ≡ table_words (count_places ps ssrc width bytes)
    counted_left =
        ap₂ (λ (qs : List Place) (c : Counted). counted_words words (table_words (count_places qs ssrc width bytes)) c) back.1 counted_is ∙ go (count_answer ps ssrc width bytes) refl
      where
        go : (c : Counted) → count_answer ps ssrc width bytes ≡ c → counted_words words (table_words (count_places ps ssrc width bytes)) c ≡ table_words (count_places ps ssrc width bytes)
        go (counted.Block stand jumps restarts) e = refl
        go (counted.Refused r) e = ap table_words (sym (block_refusal_leaves ps ssrc width bytes r e))

-- ---- calls in turn

-- the words of a table that is not refused
abbrev Reads : List ℕ → List Place → Type 0
Reads words ps = (words ≡ table_words ps) × (fault ps ≡ None) × Typed ps

told_same : (ps : List Place) (c : Call) → fault ps ≡ None → Typed ps → table_told (table_words ps) c ≡ places_told ps c
told_same ps (arrives a) f t = ap (λ (x : Arrived). pos (arrived_code x)) (arrived_is ps f t a.ssrc a.wire a.mark)
told_same ps (counts ssrc width bytes) f t = ap counted_code (counted_is ps f t ssrc width bytes)

left_reads : (ps : List Place) (c : Call) → fault ps ≡ None → Typed ps → Fits c → Reads (table_left (table_words ps) c) (behind_call ps c)
left_reads ps (arrives a) f t fit =
    (arrived_left ps f t a.ssrc a.wire a.mark, arrival_keeps_rules ps a.ssrc a.wire a.mark fit.1 f, arrive_typed ps t a.ssrc fit.0 a.wire a.mark)
left_reads ps (counts ssrc width bytes) f t fit =
    (counted_left ps f t ssrc width bytes, block_keeps_rules ps ssrc width bytes fit.1 f, count_typed ps t ssrc fit.0 f width bytes fit.1)

read_on_lem : ReadOn Reads Fits table_told table_left places_told behind_call
read_on_lem = record {
  same = λ words ps c r fit. ap (λ (l : List ℕ). table_told l c) r.0 ∙ told_same ps c r.1 r.2;
  on = λ words ps c r fit. subst (λ (l : List ℕ). Reads (table_left l c) (behind_call ps c)) (sym r.0) (left_reads ps c r.1 r.2 fit);
}

every_fits : (calls : List Call) → AllFit calls → Every Fits calls
every_fits [] o = tt
every_fits (c ∷ calls) o = (o.0, every_fits calls o.1)

behind_is : (ps : List Place) (calls : List Call) → left_by behind_call ps calls ≡ behind_all ps calls
unfolding left_by
behind_is ps [] = refl
behind_is ps (c ∷ calls) = behind_is (behind_call ps c) calls

pub table_calls_in_turn : TableCallsInTurn
table_calls_in_turn ps calls f t o =
    let turn = in_turn (List ℕ) (List Place) Call ℤ Reads Fits table_told table_left places_told behind_call read_on_lem (table_words ps) ps calls (refl, f, t) (every_fits calls o) in
    let end : Reads (left_by table_left (table_words ps) calls) (behind_all ps calls) =
    subst (Reads (left_by table_left (table_words ps) calls)) (behind_is ps calls) turn.1 in
    let its = back (behind_all ps calls) end.1 end.2 in
    record {
      answers = turn.0;
      left = end.0;
      read = ap places_in end.0 ∙ its.1;
      good = ap words_fault end.0 ∙ its.0;
    }

pub each_source_from_c : EachSourceFromC
each_source_from_c ps calls ssrc tps t b =
    let turn = table_calls_in_turn ps calls b.good t b.fit in
    let its = each_source ps calls ssrc tps b in
    record {
      state = ap (record_of ssrc) turn.read ∙ its.state;
      compound = λ sender old out r w. gives_same turn.good (ap (compound_bytes sender) turn.read) w;
    }

-- at the table and the calls that show that what is asked of each source can be met
used : Unit {0}
used =
    let m = met_sources in
    let turn = table_calls_in_turn some_table mixed_calls m.good refl m.brings.fit in
    let source = each_source_from_c some_table mixed_calls 3 wrapped refl m.brings in
    let compound = source.compound 9 [] _ _ (gave length_code _ _ []) in
    tt
