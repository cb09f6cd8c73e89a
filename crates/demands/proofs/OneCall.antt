-- One call on a table: the record of the source that it names, those of the others, and its answer. Assumes nothing.
use Rattle.std.specs.Prelude.{Option, Some, None}
use mathlib.Core.Path.{◌≡◌, refl, sym, ap, ◌∙◌, subst}
use mathlib.Core.Bool.{Bool, true, false, cond, ◌&&◌, false≢true}
use mathlib.Core.List.{List, [], ◌∷◌, map}
use Prim.Native.Nat.{ℕ, ◌/◌, ◌^◌, ◌≤◌, ◌<◌}
use native.Mathlib.Omega.{arith}
use borrow.Author.Tests.{le-leb, lt-leb, leb-true, lt-ltb, ltb-true, ltb-false, eq-eqb}
use lib.Dec.{eqb, leb, ltb}
use lib.ListN.{length, get_or}
use Rattle.answers.specs.declared.Refusal.{Refusal}
use Rattle.answers.specs.declared.Refusal.TheVariants.{Limits, Places}
use Rattle.answers.proofs.Conditions.{and_left, and_right}
use Rattle.source.specs.declared.Source.{Source}
use Rattle.source.specs.declared.Arrival as answers
use Rattle.source.specs.declared.Arrival.TheVariants as arrival
use Rattle.source.specs.declared.BlockCount.TheVariants as block
use Rattle.source.specs.Record as Record
use Rattle.source.specs.Arrivals.{arrival, after}
use Rattle.source.specs.Blocks.{Packet, packets, marks_fit, count_all, block_count}
use Rattle.source.proofs.Packets.{limits as within}
use Rattle.source.proofs.Totalled.{packets_wires, length-packets, all_counted}
use Rattle.sources.specs.declared.Place.{Place}
use Rattle.sources.specs.Places.{held_of}
use Rattle.sources.specs.Rules.{fault}
use Rattle.sources.specs.Stands.{stands_at, found, put, record_in, record_of, new_to}
use Rattle.sources.specs.Answers.{full, refusal, told, told_unless, outside, behind, told_block, block_unless, arrive_answer, arrive_places, count_answer, count_places}
use Rattle.sources.specs.Theorems.{Arrival, answer, behind_one, seated}
use Rattle.sources.proofs.Behind.{Free, free, record_sound, held_behind, arrive_held, counted_is, in_limits_lem, arrival_keeps_rules, block_keeps_rules, others_keep}
use Rattle.sources.proofs.Grown.{block_grown}
use Rattle.sources.proofs.Sorted.{found_put, all_put}
use Rattle.sources.proofs.Orders.{step_record}
use Rattle.demands.specs.Calls.{TruePacket, run_from, AnsweredFrom}
use Rattle.demands.specs.PrintedTable.{of_arrival}
use Rattle.demands.specs.EachSource.{ssrcs_fit, Call, arrives, counts, named, Fits, behind_call, seated_block, seated_call, brought, Answered}
use Rattle.demands.proofs.Members.{Marks}
use Rattle.demands.proofs.Traces.{count_accepted}

-- ---- which of 10 and 15 refuses, where neither 16 nor 9 does

data Way (o : Bool) (ssrc : ℕ) (ps : List Place) : Type 0 where
  limits : o ≡ true → refusal o ssrc ps ≡ Some Limits → Way o ssrc ps
  places : refusal o ssrc ps ≡ Some Places → Way o ssrc ps
  goes : o ≡ false → refusal o ssrc ps ≡ None → Way o ssrc ps

way : (o : Bool) (ssrc : ℕ) (ps : List Place) → fault ps ≡ None → Way o ssrc ps
unfolding refusal
way o ssrc ps good = go o refl (new_to ssrc ps && full ps) refl
  where
    go : (b : Bool) → o ≡ b → (c : Bool) → (new_to ssrc ps && full ps) ≡ c → Way o ssrc ps
    go true ho c hc = limits ho (rw (good, ho))
    go false ho true hc = places (rw (good, ho, hc))
    go false ho false hc = goes ho (rw (good, ho, hc))

-- ---- an arrival

module _ (ps : List Place) (a : Arrival) (good : fault ps ≡ None) (seat : seated (answer ps a) ≡ true) where
  abbrev own : answers.Arrival
  own = arrival (record_of a.ssrc ps) a.wire a.mark

  arrival_answer : own ≡ cond (leb a.mark 3) (arrival.Accepted (after own)) (arrival.Refused Limits (record_of a.ssrc ps)) → Answered ps (arrives a)
  unfolding arrive_answer
  arrival_answer e = go (way (ltb 3 a.mark) a.ssrc ps good)
    where
      go : Way (ltb 3 a.mark) a.ssrc ps → Answered ps (arrives a)
      go (limits o r) = rw (r, lt-leb a.mark 3 (ltb-true 3 a.mark o))
      go (places r) = absurd (false≢true (sym (ap (λ (f : Option Refusal). seated (told_unless f own)) r) ∙ seat))
      go (goes o r) = rw r (ap told e ∙ rw (le-leb a.mark 3 (ltb-false 3 a.mark o)))

-- ---- a block

pub marks_fit_lem : (vs : List TruePacket) → marks_fit (map of_arrival vs) ≡ true → Marks vs
marks_fit_lem [] e = tt
marks_fit_lem (v ∷ vs) e = (leb-true v.mark 3 (and_left (leb v.mark 3) (marks_fit (map of_arrival vs)) e), marks_fit_lem vs (and_right (leb v.mark 3) (marks_fit (map of_arrival vs)) e))

module _ (ps : List Place) (ssrc width : ℕ) (bytes : List ℕ) (octets : (i : ℕ) → get_or bytes i 0 < 256) where
  abbrev start : Source
  start = record_of ssrc ps

  abbrev in_block : List Packet
  in_block = packets width (length bytes / width) bytes

  abbrev next : Source
  next = behind (block_count start width bytes)

  -- a block that 10 refuses
  block_kept : {r : Refusal} → refusal (outside width bytes) ssrc ps ≡ Some r → count_places ps ssrc width bytes ≡ ps
  unfolding count_places
  block_kept r = rw r

  -- one that is counted
  module _ (r : refusal (outside width bytes) ssrc ps ≡ None) where
    its : Free (outside width bytes) ssrc ps
    its = free (outside width bytes) ssrc ps r

    counts_some : 1 ≤ Record.arrivals next
    counts_some =
        let l = within width bytes (in_limits_lem ps ssrc width bytes octets its) in
        let good = record_sound ssrc ps its.good in
        let c = all_counted in_block start 0 0 (packets_wires width (length bytes / width) bytes octets) good in
        let many : 1 ≤ length in_block = let h = l.some in omega (arith, length-packets width (length bytes / width) bytes) in
        let is : next ≡ c.state = ap behind (counted_is ps ssrc width bytes octets its ∙ c.is) in
        omega (arith, ap Record.arrivals is, block_grown in_block start good many l.fit c.is)

    block_held : held_of (count_places ps ssrc width bytes) ≡ put (record { ssrc = ssrc; source = next }) (held_of ps)
    unfolding count_places
    block_held = rw r (held_behind ssrc ps next its.good counts_some its.room)

    block_found : (other : ℕ) → found other (held_of (count_places ps ssrc width bytes)) ≡ cond (eqb ssrc other) (Some next) (found other (held_of ps))
    block_found other = ap (found other) block_held ∙ found_put other (record { ssrc = ssrc; source = next }) (held_of ps)

    -- where its packets are accepted
    block_counted : (front : List TruePacket) → in_block ≡ map of_arrival front → AnsweredFrom start front → block_count start width bytes ≡ block.Counted (run_from start front) 0 0
    block_counted front same a =
        let fit : marks_fit (map of_arrival front) ≡ true = ap marks_fit (sym same) ∙ (within width bytes (in_limits_lem ps ssrc width bytes octets its)).fit in
        counted_is ps ssrc width bytes octets its ∙ ap (λ (l : List Packet). count_all l start 0 0) same ∙ count_accepted front start 0 0 (marks_fit_lem front fit) a

  module _ (good : fault ps ≡ None) where
    block_other : (other : ℕ) → eqb ssrc other ≡ false → record_of other (count_places ps ssrc width bytes) ≡ record_of other ps
    block_other other e = go (way (outside width bytes) ssrc ps good)
      where
        go : Way (outside width bytes) ssrc ps → record_of other (count_places ps ssrc width bytes) ≡ record_of other ps
        go (limits o r) = ap (record_of other) (block_kept r)
        go (places r) = ap (record_of other) (block_kept r)
        go (goes o r) = ap record_in (block_found r other ∙ ap (λ (t : Bool). cond t (Some next) (found other (held_of ps))) e)

  module _ (good : fault ps ≡ None) (seat : seated_block (count_answer ps ssrc width bytes) ≡ true) where
    seatless : refusal (outside width bytes) ssrc ps ≡ Some Places → ⊥
    unfolding count_answer
    seatless r = false≢true (sym (ap (λ (f : Option Refusal). seated_block (block_unless f (told_block (stands_at ssrc (held_of ps)) (new_to ssrc ps) (block_count start width bytes)))) r) ∙ seat)

    module _ (front : List TruePacket) (same : brought (counts ssrc width bytes) ≡ map of_arrival front) (a : AnsweredFrom start front) where
      -- the packets that it brings
      none_brought : outside width bytes ≡ true → [] ≡ map of_arrival front
      none_brought o = sym (ap (λ (t : Bool). cond t [] in_block) o) ∙ same

      all_brought : outside width bytes ≡ false → in_block ≡ map of_arrival front
      all_brought o = sym (ap (λ (t : Bool). cond t [] in_block) o) ∙ same

      block_record : record_of ssrc (count_places ps ssrc width bytes) ≡ run_from start front
      block_record = go (way (outside width bytes) ssrc ps good)
        where
          same_record : (vs : List TruePacket) → [] ≡ map of_arrival vs → start ≡ run_from start vs
          same_record [] e = refl
          same_record (v ∷ vs) e = let z : ◌≡◌ {A = ℕ} 0 1 = cc in absurd (omega arith)

          go : Way (outside width bytes) ssrc ps → record_of ssrc (count_places ps ssrc width bytes) ≡ run_from start front
          go (limits o r) = ap (record_of ssrc) (block_kept r) ∙ same_record front (none_brought o)
          go (places r) = absurd (seatless r)
          go (goes o r) =
              ap record_in (block_found r ssrc ∙ ap (λ (t : Bool). cond t (Some next) (found ssrc (held_of ps))) (eq-eqb ssrc ssrc refl))
              ∙ ap behind (block_counted r front (all_brought o) a)

      block_answer_lem : Answered ps (counts ssrc width bytes)
      unfolding count_answer
      block_answer_lem = go (way (outside width bytes) ssrc ps good)
        where
          go : Way (outside width bytes) ssrc ps → Answered ps (counts ssrc width bytes)
          go (limits o r) = rw (r, o)
          go (places r) = absurd (seatless r)
          go (goes o r) = rw (r, o) (ap (told_block (stands_at ssrc (held_of ps)) (new_to ssrc ps)) (block_counted r front (all_brought o) a))

-- ---- either call

pub good_behind : (ps : List Place) (c : Call) → Fits c → fault ps ≡ None → fault (behind_call ps c) ≡ None
good_behind ps (arrives a) h good = arrival_keeps_rules ps a.ssrc a.wire a.mark h.1 good
good_behind ps (counts ssrc width bytes) h good = block_keeps_rules ps ssrc width bytes h.1 good

pub ssrcs_behind : (ps : List Place) (c : Call) → Fits c → ssrcs_fit (held_of ps) ≡ true → ssrcs_fit (held_of (behind_call ps c)) ≡ true
unfolding arrive_places
ssrcs_behind ps (arrives a) h fit = go (refusal (ltb 3 a.mark) a.ssrc ps) refl
  where
    go : (f : Option Refusal) → refusal (ltb 3 a.mark) a.ssrc ps ≡ f → ssrcs_fit (held_of (behind_one ps a)) ≡ true
    go (Some r) e = rw e fit
    go None e =
        let p : Place = record { ssrc = a.ssrc; source = after (arrival (record_of a.ssrc ps) a.wire a.mark) } in
        ap ssrcs_fit (arrive_held ps a.ssrc a.wire a.mark h.1 e) ∙ all_put (λ p. ltb p.ssrc (2 ^ 32)) p (held_of ps) (lt-ltb a.ssrc (2 ^ 32) h.0) fit
ssrcs_behind ps (counts ssrc width bytes) h fit = go (refusal (outside width bytes) ssrc ps) refl
  where
    go : (f : Option Refusal) → refusal (outside width bytes) ssrc ps ≡ f → ssrcs_fit (held_of (count_places ps ssrc width bytes)) ≡ true
    go (Some r) e = ap (λ (l : List Place). ssrcs_fit (held_of l)) (block_kept ps ssrc width bytes h.1 e) ∙ fit
    go None e =
        let p : Place = record { ssrc = ssrc; source = behind (block_count (record_of ssrc ps) width bytes) } in
        ap ssrcs_fit (block_held ps ssrc width bytes h.1 e) ∙ all_put (λ p. ltb p.ssrc (2 ^ 32)) p (held_of ps) (lt-ltb ssrc (2 ^ 32) h.0) fit

module _ (ps : List Place) (good : fault ps ≡ None) where
  pub others_stay : (c : Call) → Fits c → (other : ℕ) → eqb (named c) other ≡ false → record_of other (behind_call ps c) ≡ record_of other ps
  unfolding arrive_places
  others_stay (arrives a) h other e = go (refusal (ltb 3 a.mark) a.ssrc ps) refl
    where
      go : (f : Option Refusal) → refusal (ltb 3 a.mark) a.ssrc ps ≡ f → record_of other (behind_one ps a) ≡ record_of other ps
      go (Some r) q = rw q
      go None q =
          ap record_in (others_keep ps a.ssrc a.wire a.mark h.1 q other
          ∙ ap (λ (t : Bool). cond t (Some (after (arrival (record_of a.ssrc ps) a.wire a.mark))) (found other (held_of ps))) e)
  others_stay (counts ssrc width bytes) h other e = block_other ps ssrc width bytes h.1 good other e

  -- the record that the call names has counted the packets that it brings, where they are accepted
  pub record Own (c : Call) (front : List TruePacket) : Type 0 where
    pub state : record_of (named c) (behind_call ps c) ≡ run_from (record_of (named c) ps) front
    pub answer : Answered ps c

  pub own_counts : (c : Call) → Fits c → seated_call ps c ≡ true → (front : List TruePacket) → brought c ≡ map of_arrival front → AnsweredFrom (record_of (named c) ps) front → Own c front
  own_counts (counts ssrc width bytes) h seat front same a =
      record { state = block_record ps ssrc width bytes h.1 good seat front same a; answer = block_answer_lem ps ssrc width bytes h.1 good seat front same a }
  own_counts (arrives a) h seat [] same b = let z : ◌≡◌ {A = ℕ} 0 1 = cc in absurd (omega arith)
  own_counts (arrives a) h seat (v ∷ (w ∷ vs)) same b = let z : ◌≡◌ {A = ℕ} 0 1 = cc in absurd (omega arith)
  own_counts (arrives a) h seat (v ∷ []) same b =
      let r : Source = record_of a.ssrc ps in
      let is : of_arrival v ≡ record { wire = a.wire; mark = a.mark } = cc in
      record {
        state =
            step_record ps a a.ssrc h.1 good (ap (λ (t : Bool). cond t (seated (answer ps a)) true) (eq-eqb a.ssrc a.ssrc refl) ∙ seat) ∙ ap (λ (t : Bool). cond t (after (arrival r a.wire a.mark)) r) (eq-eqb a.ssrc a.ssrc refl)
            ∙ sym (ap (λ (p : Packet). after (arrival r p.wire p.mark)) is);
        answer = arrival_answer ps a good seat
            (subst (λ (p : Packet). arrival r p.wire p.mark ≡ cond (leb p.mark 3) (arrival.Accepted (after (arrival r p.wire p.mark))) (arrival.Refused Limits r)) is b.0);
      }
