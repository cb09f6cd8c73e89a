-- The calls of a table: what they do with what a walk over the places saw is what L1 says of those places. Assumes nothing.
use Rattle.std.specs.Prelude.{Option, Some, None}
use mathlib.Core.Path.{◌≡◌, refl, sym, ap, subst, ◌∙◌}
use mathlib.Core.Bool.{Bool, true, false, cond, not, ◌&&◌, ◌||◌}
use mathlib.Core.List.{List, [], ◌∷◌, ◌++◌, map}
use Prim.Native.Nat.{ℕ, ◌+◌, ◌/◌, ◌≤◌}
use native.Mathlib.Omega.{arith}
use native.Mathlib.Nat.{zero-add}
use borrow.Author.Tests.{ltb-true, ltb-false, eq-eqb, ne_eqb, le-leb, lt-leb}
use lib.Dec.{ltb, leb, eqb}
use lib.ListN.{length, take, drop, take-append-drop, length-take}
use lib.Seq.{length-take-le}
use Rattle.answers.specs.Conditions.{all}
use Rattle.answers.specs.declared.Refusal.{Refusal}
use Rattle.answers.specs.declared.Refusal.TheVariants.{Limits, Malformed, Places, Rules}
use Rattle.format.specs.declared.Wire.{Wire}
use Rattle.source.specs.declared.Source.{Source}
use Rattle.source.specs.declared.BlockCount.{BlockCount}
use Rattle.source.specs.declared.BlockCount.TheVariants as block
use Rattle.source.specs.Record.{sound}
use Rattle.source.specs.Arrivals.{arrival, after}
use Rattle.source.specs.Blocks.{Packet, packets, jump, restart, count_all, block_count}
use Rattle.sources.specs.declared.Place.{Place}
use Rattle.sources.specs.declared.Stand.{Stand}
use Rattle.sources.specs.declared.Table.{Table}
use Rattle.sources.specs.declared.Arrived.TheVariants as arrived
use Rattle.sources.specs.declared.Counted.TheVariants as counted
use Rattle.sources.specs.declared.calls.Change.{Change}
use Rattle.sources.specs.declared.calls.Arriving.{Arriving}
use Rattle.sources.specs.declared.calls.Counting.{Counting}
use Rattle.sources.specs.declared.finding.Seen.{Seen}
use Rattle.sources.specs.Places.{empty, held_of, rest_of}
use Rattle.sources.specs.Rules.{most_places, rising, rules, all_sound, fault}
use Rattle.sources.specs.Stands.{stands_at, found, is_new, record_in, record_of, new_to, with_place}
use Rattle.sources.specs.Answers.{full, refusal, told, arrive_answer, arrive_places, outside, count_answer, count_places}
use Rattle.sources.specs.Tables.{lent, with_lent, over, fault_in, arrived_in, counted_in}
use Rattle.sources.specs.Seats.{pushed}
use Rattle.sources.specs.Lending.{in_use}
use Rattle.sources.specs.Checks.{checked_by, checked_in}
use Rattle.sources.specs.Seeing.{seen_first, seen_from, seen_in, fault_seen, checked_seen, roomy}
use Rattle.sources.specs.Changes.{changed, no_change, change_of, not_arriving, arriving_by, arriving, not_counting, settled, counted_by, counting_by, counting}
use Rattle.sources.proofs.Checking.{Passed, passed}
use Rattle.sources.proofs.Sights.{Opened, opened, Stood, stood, Before}
use Rattle.sources.proofs.Putting.{found_sound, known_inside, put_places}

-- a table with its own places
same_table : (t : Table) → with_lent t (lent t) ≡ t
same_table t = λ i. record { places = take-append-drop t.count t.places i; count = t.count }

-- packets counted are never refused
pub never_refused : (ps : List Packet) (s : Source) (jumps restarts : ℕ) {r : Refusal} {u : Source} → count_all ps s jumps restarts ≡ block.Refused r u → ⊥
unfolding count_all
never_refused [] s jumps restarts e = let z : ◌≡◌ {A = ℕ} 0 1 = cc in omega arith
never_refused (p ∷ ps) s jumps restarts e =
    let a = arrival s p.wire p.mark in
    never_refused ps (after a) (jumps + jump a) (restarts + restart a) e

unchanged : (ps : List Place) → changed no_change ps ≡ ps
unfolding changed pushed
unchanged ps = refl

-- ---- what is seen of a table

module _ (ssrc : ℕ) (t : Table) where
  abbrev s : Seen
  s = seen_in ssrc t.count t.places

  over_is : over t ≡ true → s ≡ seen_first t.count
  unfolding seen_in seen_from in_use
  over_is o = ap (λ (b : Bool). seen_from ssrc (seen_first t.count) 0 (take (cond b 0 t.count) t.places)) o

  over_seen : over t ≡ true → fault_seen s ≡ Some Rules
  over_seen o =
      ap fault_seen (over_is o)
      ∙ ap (λ (b : Bool). cond (not b) (Some Rules) (cond (not true) (Some Malformed) None)) (lt-leb t.count most_places (ltb-true most_places t.count o))

  module _ (o : over t ≡ false) where
    few_is : s ≡ seen_from ssrc (seen_first t.count) 0 (lent t)
    unfolding seen_in in_use
    few_is = ap (λ (b : Bool). seen_from ssrc (seen_first t.count) 0 (take (cond b 0 t.count) t.places)) o

    few : t.count ≤ most_places
    few = ltb-false most_places t.count o

    abbrev walked : Seen
    walked = seen_from ssrc (seen_first t.count) 0 (lent t)

    all_open : Opened ssrc (seen_first t.count) 0 (lent t) walked
    all_open = opened ssrc (lent t) (seen_first t.count) 0 refl refl

    short : leb (length (lent t)) most_places ≡ true
    short = le-leb (length (lent t)) most_places (simp length-take (omega (arith, few)))

    ruled_seen : s.ruled ≡ all (rules (lent t))
    ruled_seen =
        ap (λ (u : Seen). u.ruled) few_is ∙ all_open.rules ∙ rw (le-leb t.count most_places few, short) (join (rising 0 (held_of (lent t))) (all (map empty (rest_of (lent t)))))
      where
        join : (a b : Bool) → (a && b) ≡ (a && (b && true))
        join true true = refl
        join true false = refl
        join false b = refl

    sound_seen : s.sound ≡ all_sound (lent t)
    sound_seen = ap (λ (u : Seen). u.sound) few_is ∙ all_open.sounds

    fault_seen_lem : fault_seen s ≡ fault (lent t)
    unfolding fault
    fault_seen_lem = λ i. cond (not (ruled_seen i)) (Some Rules) (cond (not (sound_seen i)) (Some Malformed) None)

    held_seen : s.held ≡ length (held_of (lent t))
    held_seen = ap (λ (u : Seen). u.held) few_is ∙ all_open.many ∙ zero-add (length (held_of (lent t)))

    count_seen : s.count ≡ t.count
    count_seen = ap (λ (u : Seen). u.count) few_is ∙ all_open.counts

  pub checked_seen_lem : checked_seen s ≡ checked_in t
  unfolding checked_in fault_in
  checked_seen_lem = go (over t) refl
    where
      go : (b : Bool) → over t ≡ b → checked_seen s ≡ checked_by (cond b (Some Rules) (fault (lent t))) (length (held_of (lent t)))
      go true o = ap (λ (f : Option Refusal). checked_by f s.held) (over_seen o)
      go false o = λ i. checked_by (fault_seen_lem o i) (held_seen o i)

  -- ---- if neither 16 nor 9 refuses it

  module _ (o : over t ≡ false) (good : fault (lent t) ≡ None) (long : t.count ≤ length t.places) where
    abbrev n : ℕ
    n = length (held_of (lent t))

    is_good : fault_in t ≡ None
    unfolding fault_in
    is_good = rw (o, good)

    known : Passed t n
    known = passed t n (record { kept = is_good; count = refl })

    abbrev front : List Place
    front = take n t.places

    rises : rising 0 (held_of (lent t)) ≡ true
    rises = ap (rising 0) known.first ∙ known.rises

    at_first : Before ssrc 0 t.count (seen_first t.count)
    at_first = record { open_is = refl; stands = refl; ends = refl; record_is = refl }

    it_stands : Stood ssrc 0 t.count (held_of (lent t)) (walked o)
    it_stands = stood ssrc (lent t) (seen_first t.count) 0 0 t.count at_first rises

    source_seen_lem : s.source ≡ record_of ssrc (lent t)
    source_seen_lem = ap (λ (u : Seen). u.source) (few_is o) ∙ it_stands.record_is

    abbrev at : ℕ
    at = stands_at ssrc (held_of (lent t))

    abbrev new : Bool
    new = new_to ssrc (lent t)

    stand_seen_lem : s.stand ≡ record { at = at; new = new }
    stand_seen_lem = ap (λ (u : Seen). u.stand) (few_is o) ∙ it_stands.stands ∙ (λ i. record { at = zero-add at i; new = new })

    end_seen_lem : s.end ≡ cond new t.count (at + 1)
    end_seen_lem = ap (λ (u : Seen). u.end) (few_is o) ∙ it_stands.ends ∙ ap (λ (k : ℕ). cond new t.count (k + 1)) (zero-add at)

    count_is : length (lent t) ≡ t.count
    count_is = length-take-le t.count t.places long

    -- ---- 15

    full_is : full (lent t) ≡ not (ltb n t.count)
    full_is = ap (eqb n) count_is ∙ go (ltb n t.count) refl
      where
        go : (b : Bool) → ltb n t.count ≡ b → eqb n t.count ≡ not b
        go true e = let l = ltb-true n t.count e in ne_eqb n t.count (λ z. omega arith)
        go false e = let l = ltb-false n t.count e in let m = known.most in eq-eqb n t.count (omega arith)

    roomy_seen : roomy s ≡ (not new || ltb n t.count)
    roomy_seen = λ i. not (stand_seen_lem i).new || ltb (held_seen o i) (count_seen o i)

    seat : (new && full (lent t)) ≡ not (roomy s)
    seat = go new ∙ ap not (sym roomy_seen)
      where
        go : (b : Bool) → (b && full (lent t)) ≡ not (not b || ltb n t.count)
        go true = full_is
        go false = refl

    -- 10 and 15, and none
    module _ (out : Bool) where
      refused_limits : out ≡ true → refusal out ssrc (lent t) ≡ Some Limits
      unfolding refusal
      refused_limits e = rw (good, e)

      refused_places : out ≡ false → roomy s ≡ false → refusal out ssrc (lent t) ≡ Some Places
      unfolding refusal
      refused_places e h = rw (good, e, seat, h)

      refused_none : out ≡ false → roomy s ≡ true → refusal out ssrc (lent t) ≡ None
      unfolding refusal
      refused_none e h = rw (good, e, seat, h)

    -- ---- the places that change

    change_seen : (p : Place) → p.ssrc ≡ ssrc → change_of s p
        ≡ record { from = stands_at p.ssrc front; end = cond (is_new (found p.ssrc front)) t.count (stands_at p.ssrc front + 1); place = p }
    change_seen p e =
        (λ i. record {
          from = (ap (λ (u : Stand). u.at) stand_seen_lem ∙ ap (stands_at ssrc) known.first) i;
          end = (end_seen_lem ∙ ap (λ (ps : List Place). cond (is_new (found ssrc ps)) t.count (stands_at ssrc ps + 1)) known.first) i;
          place = p;
        })
        ∙ (λ i. record { from = stands_at (sym e i) front; end = cond (is_new (found (sym e i) front)) t.count (stands_at (sym e i) front + 1); place = p })

    put_seen : (source : Source) → changed (change_of s (record { ssrc = ssrc; source = source })) t.places
        ≡ with_place (record { ssrc = ssrc; source = source }) (lent t) ++ drop t.count t.places
    put_seen source =
        ap (λ (c : Change). changed c t.places) (change_seen (record { ssrc = ssrc; source = source }) refl) ∙ put_places t n known long (record { ssrc = ssrc; source = source })

    end_within : s.end ≤ t.count
    end_within = subst (λ (k : ℕ). k ≤ t.count) (sym end_seen_lem) (go new refl)
      where
        go : (b : Bool) → new ≡ b → cond b t.count (at + 1) ≤ t.count
        go true e = omega arith
        go false e =
            let l = known_inside t n known long ssrc (ap (λ (ps : List Place). is_new (found ssrc ps)) (sym known.first) ∙ e) in
            let same : at ≡ stands_at ssrc front = ap (stands_at ssrc) known.first in
            let m = known.most in
            omega (arith, l, same, m)

    end_most : s.end ≤ most_places
    end_most = let f = few o in let w = end_within in omega arith

    sound_source : sound s.source ≡ true
    sound_source =
        ap sound source_seen_lem ∙ ap (λ (ps : List Place). sound (record_in (found ssrc ps))) known.first ∙ found_sound ssrc front known.sounds

-- ---- one arrival

module _ (ssrc : ℕ) (t : Table) (long : over t ≡ false → t.count ≤ length t.places) (wire : Wire) (mark : ℕ) where
  abbrev found_so : Seen
  found_so = seen_in ssrc t.count t.places

  -- the table with the places that change, and the answer, are L1's; the change is inside the table
  pub record Arrives (u : Arriving) : Type 0 where
    pub is : record { table = record { places = changed u.change t.places; count = t.count }; answer = u.answer } ≡ arrived_in t ssrc wire mark
    pub within : u.change.end ≤ t.count
    pub most : u.change.end ≤ most_places

  not_arrives : (r : Refusal) → record { table = t; answer = arrived.Refused r } ≡ arrived_in t ssrc wire mark → Arrives (not_arriving r)
  not_arrives r e = record {
    is = (λ i. record { table = record { places = unchanged t.places i; count = t.count }; answer = arrived.Refused r }) ∙ e;
    within = omega arith;
    most = omega arith;
  }

  arrived_over : over t ≡ true → record { table = t; answer = arrived.Refused Rules } ≡ arrived_in t ssrc wire mark
  unfolding arrived_in
  arrived_over o = rw o

  arrived_kept : over t ≡ false → {r : Refusal} → refusal (ltb 3 mark) ssrc (lent t) ≡ Some r → record { table = t; answer = arrived.Refused r } ≡ arrived_in t ssrc wire mark
  unfolding arrived_in arrive_answer arrive_places
  arrived_kept o {r} e = rw (o, e) (λ i. record { table = sym (same_table t) i; answer = arrived.Refused r })

  fault_first : {r : Refusal} → fault (lent t) ≡ Some r → refusal (ltb 3 mark) ssrc (lent t) ≡ Some r
  unfolding refusal
  fault_first e = rw e

  module _ (o : over t ≡ false) (good : fault (lent t) ≡ None) where
    abbrev answered : Arriving
    answered = record {
      answer = told (arrival found_so.source wire mark);
      change = change_of found_so (record { ssrc = ssrc; source = after (arrival found_so.source wire mark) });
    }

    arrived_put : ltb 3 mark ≡ false → roomy found_so ≡ true → Arrives answered
    unfolding arrived_in arrive_answer arrive_places
    arrived_put m h = record { is = puts; within = end_within ssrc t o good (long o); most = end_most ssrc t o good (long o) }
      where
        puts : record { table = record { places = changed answered.change t.places; count = t.count }; answer = answered.answer } ≡ arrived_in t ssrc wire mark
        puts =
            rw (o, refused_none ssrc t o good (long o) (ltb 3 mark) m h)
            (λ i. record {
              table = record {
                places =
                    (put_seen ssrc t o good (long o) (after (arrival found_so.source wire mark))
                    ∙ ap (λ (u : Source). with_place (record { ssrc = ssrc; source = after (arrival u wire mark) }) (lent t) ++ drop t.count t.places) (source_seen_lem ssrc t o good (long o))) i;
                count = t.count;
              };
              answer = told (arrival (source_seen_lem ssrc t o good (long o) i) wire mark);
            })

    arrived_good : Arrives (arriving_by None found_so ssrc wire mark)
    unfolding arriving_by
    arrived_good = go (ltb 3 mark) refl (roomy found_so) refl
      where
        go : (m : Bool) → ltb 3 mark ≡ m → (h : Bool) → roomy found_so ≡ h → Arrives (cond m (not_arriving Limits) (cond (not h) (not_arriving Places) answered))
        go true em h eh = not_arrives Limits (arrived_kept o (refused_limits ssrc t o good (long o) (ltb 3 mark) em))
        go false em false eh = not_arrives Places (arrived_kept o (refused_places ssrc t o good (long o) (ltb 3 mark) em eh))
        go false em true eh = arrived_put em eh

  by_fault : (f : Option Refusal) → fault_seen found_so ≡ f → Arrives (arriving_by f found_so ssrc wire mark) → Arrives (arriving found_so ssrc wire mark)
  by_fault f e a = subst (λ (g : Option Refusal). Arrives (arriving_by g found_so ssrc wire mark)) (sym e) a

  refused_by_lem : (r : Refusal) → Arrives (not_arriving r) → Arrives (arriving_by (Some r) found_so ssrc wire mark)
  unfolding arriving_by
  refused_by_lem r a = a

  pub arrives : Arrives (arriving found_so ssrc wire mark)
  arrives = go (over t) refl
    where
      tests : over t ≡ false → (f : Option Refusal) → fault (lent t) ≡ f → Arrives (arriving found_so ssrc wire mark)
      tests o (Some r) e = by_fault (Some r) (fault_seen_lem ssrc t o ∙ e) (refused_by_lem r (not_arrives r (arrived_kept o (fault_first e))))
      tests o None e = by_fault None (fault_seen_lem ssrc t o ∙ e) (arrived_good o e)

      go : (b : Bool) → over t ≡ b → Arrives (arriving found_so ssrc wire mark)
      go true o = by_fault (Some Rules) (over_seen ssrc t o) (refused_by_lem Rules (not_arrives Rules (arrived_over o)))
      go false o = tests o (fault (lent t)) refl

-- ---- a block

module _ (ssrc : ℕ) (t : Table) (long : over t ≡ false → t.count ≤ length t.places) (width : ℕ) (bytes : List ℕ) where
  abbrev seen_so : Seen
  seen_so = seen_in ssrc t.count t.places

  pub record Counts (u : Counting) : Type 0 where
    pub is : record { table = record { places = changed u.change t.places; count = t.count }; answer = u.answer } ≡ counted_in t ssrc width bytes
    pub within : u.change.end ≤ t.count
    pub most : u.change.end ≤ most_places

  not_counts : (r : Refusal) → record { table = t; answer = counted.Refused r } ≡ counted_in t ssrc width bytes → Counts (not_counting r)
  not_counts r e = record {
    is = (λ i. record { table = record { places = unchanged t.places i; count = t.count }; answer = counted.Refused r }) ∙ e;
    within = omega arith;
    most = omega arith;
  }

  counted_over : over t ≡ true → record { table = t; answer = counted.Refused Rules } ≡ counted_in t ssrc width bytes
  unfolding counted_in
  counted_over o = rw o

  counted_kept : over t ≡ false → {r : Refusal} → refusal (outside width bytes) ssrc (lent t) ≡ Some r → record { table = t; answer = counted.Refused r } ≡ counted_in t ssrc width bytes
  unfolding counted_in count_answer count_places
  counted_kept o {r} e = rw (o, e) (λ i. record { table = sym (same_table t) i; answer = counted.Refused r })

  block_first : {r : Refusal} → fault (lent t) ≡ Some r → refusal (outside width bytes) ssrc (lent t) ≡ Some r
  unfolding refusal
  block_first e = rw e

  module _ (o : over t ≡ false) (good : fault (lent t) ≡ None) where
    abbrev own : BlockCount
    own = block_count seen_so.source width bytes

    -- a sound record's block is refused by 10 alone
    out_is : {r : Refusal} {u : Source} → own ≡ block.Refused r u → refusal (outside width bytes) ssrc (lent t) ≡ Some r
    unfolding block_count
    out_is {r} {u} e = go (outside width bytes) refl (rw (sound_source ssrc t o good (long o)) at e)
      where
        go : (b : Bool) → outside width bytes ≡ b
            → cond b (block.Refused Limits seen_so.source) (count_all (packets width (length bytes / width) bytes) seen_so.source 0 0) ≡ block.Refused r u
            → refusal (outside width bytes) ssrc (lent t) ≡ Some r
        go true x e = let same : Limits ≡ r = cc in refused_limits ssrc t o good (long o) (outside width bytes) x ∙ ap Some same
        go false x e = absurd (never_refused (packets width (length bytes / width) bytes) seen_so.source 0 0 e)

    inside : {source : Source} {jumps restarts : ℕ} → own ≡ block.Counted source jumps restarts → outside width bytes ≡ false
    unfolding block_count
    inside {source} {jumps} {restarts} e = go (outside width bytes) (rw (sound_source ssrc t o good (long o)) at e)
      where
        go : (b : Bool) → cond b (block.Refused Limits seen_so.source) (count_all (packets width (length bytes / width) bytes) seen_so.source 0 0) ≡ block.Counted source jumps restarts → b ≡ false
        go true e = let z : ◌≡◌ {A = ℕ} 0 1 = cc in absurd (omega arith)
        go false e = refl

    module _ (source : Source) (jumps restarts : ℕ) (e : own ≡ block.Counted source jumps restarts) where
      abbrev counted_so : Counting
      counted_so = record { answer = counted.Block seen_so.stand jumps restarts; change = change_of seen_so (record { ssrc = ssrc; source = source }) }

      here : block_count (record_of ssrc (lent t)) width bytes ≡ block.Counted source jumps restarts
      here = ap (λ (u : Source). block_count u width bytes) (sym (source_seen_lem ssrc t o good (long o))) ∙ e

      counted_put : roomy seen_so ≡ true → Counts counted_so
      unfolding counted_in count_answer count_places
      counted_put h = record { is = puts; within = end_within ssrc t o good (long o); most = end_most ssrc t o good (long o) }
        where
          puts : record { table = record { places = changed counted_so.change t.places; count = t.count }; answer = counted_so.answer } ≡ counted_in t ssrc width bytes
          puts =
              rw (o, refused_none ssrc t o good (long o) (outside width bytes) (inside e) h, here)
              (λ i. record {
                table = record { places = put_seen ssrc t o good (long o) source i; count = t.count };
                answer = counted.Block (stand_seen_lem ssrc t o good (long o) i) jumps restarts;
              })

      counted_settled : Counts (settled seen_so (record { ssrc = ssrc; source = source }) jumps restarts)
      unfolding settled
      counted_settled = go (roomy seen_so) refl
        where
          go : (h : Bool) → roomy seen_so ≡ h → Counts (cond (not h) (not_counting Places) counted_so)
          go true eh = counted_put eh
          go false eh = not_counts Places (counted_kept o (refused_places ssrc t o good (long o) (outside width bytes) (inside e) eh))

    counted_good : Counts (counting_by None seen_so ssrc width bytes)
    unfolding counting_by
    counted_good = go own refl
      where
        go : (b : BlockCount) → own ≡ b → Counts (counted_by seen_so ssrc b)
        go (block.Counted source jumps restarts) e = counted_settled source jumps restarts e
        go (block.Refused r source) e = not_counts r (counted_kept o (out_is e))

  by_its_fault : (f : Option Refusal) → fault_seen seen_so ≡ f → Counts (counting_by f seen_so ssrc width bytes) → Counts (counting seen_so ssrc width bytes)
  by_its_fault f e a = subst (λ (g : Option Refusal). Counts (counting_by g seen_so ssrc width bytes)) (sym e) a

  not_counted_by : (r : Refusal) → Counts (not_counting r) → Counts (counting_by (Some r) seen_so ssrc width bytes)
  unfolding counting_by
  not_counted_by r a = a

  pub block_counts : Counts (counting seen_so ssrc width bytes)
  block_counts = go (over t) refl
    where
      tests : over t ≡ false → (f : Option Refusal) → fault (lent t) ≡ f → Counts (counting seen_so ssrc width bytes)
      tests o (Some r) e = by_its_fault (Some r) (fault_seen_lem ssrc t o ∙ e) (not_counted_by r (not_counts r (counted_kept o (block_first e))))
      tests o None e = by_its_fault None (fault_seen_lem ssrc t o ∙ e) (counted_good o e)

      go : (b : Bool) → over t ≡ b → Counts (counting seen_so ssrc width bytes)
      go true o = by_its_fault (Some Rules) (over_seen ssrc t o) (not_counted_by Rules (not_counts Rules (counted_over o)))
      go false o = tests o (fault (lent t)) refl
