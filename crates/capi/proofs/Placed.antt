-- A call for the SSRC of a place that a walk has told: the record there is the table's, and the next table has another one there. Assumes nothing.
use Rattle.std.specs.Prelude.{Option, Some, None, Ok}
use mathlib.Core.Path.{◌≡◌, refl, sym, ap, ◌∙◌}
use mathlib.Core.Bool.{Bool, true, false, cond, not, ◌&&◌}
use mathlib.Core.List.{List, [], ◌∷◌, ◌++◌}
use Prim.Native.Nat.{ℕ, zero, suc, ◌+◌, ◌*◌, ◌^◌, ◌≤◌, ◌<◌, min}
use native.Mathlib.Omega.{arith}
use borrow.Author.Tests.{eq-eqb, ne_eqb, le-ltb, lt-ltb, ltb-true}
use lib.Dec.{ltb}
use lib.IntN.{ℤ}
use lib.ListN.{length, get_or, set, take, drop, length-set}
use lib.Seq.{get_or-take, get_or-drop, drop-drop, take_all, set-append_left}
use Rattle.answers.specs.Conditions.{all}
use Rattle.answers.specs.declared.Refusal.{Refusal}
use Rattle.answers.specs.declared.Refusal.TheVariants.{Malformed, Rules, Limits}
use Rattle.answers.proofs.Conditions.{and_left, and_right, all_true}
use Rattle.format.specs.declared.Wire.{Wire}
use Rattle.numbers.specs.Since.{signed}
use Rattle.source.specs.declared.Source.{Source}
use Rattle.source.specs.declared.Arrival.{Arrival}
use Rattle.source.specs.declared.Arrival.TheVariants as arrival
use Rattle.source.specs.declared.BlockCount.{BlockCount}
use Rattle.source.specs.declared.BlockCount.TheVariants as block
use Rattle.source.specs.Arrivals.{arrival, after}
use Rattle.source.specs.Blocks.{block_count}
use Rattle.source.specs.Record.{sound}
use Rattle.sources.specs.declared.Place.{Place}
use Rattle.sources.specs.declared.Counted.{Counted}
use Rattle.sources.specs.Places.{empty_place, held_of, rest_of}
use Rattle.sources.specs.Rules.{rising, rules, all_sound, fault}
use Rattle.sources.specs.Stands.{stands_at, found, is_new, record_in, put, record_of, new_to, with_place}
use Rattle.sources.specs.Answers.{refusal, kept, told, told_unless, arrive_answer, arrive_places}
use Rattle.sources.specs.Answers.{outside, behind, told_block, block_unless, count_answer, count_places}
use Rattle.sources.specs.Tables as table
use Rattle.sources.proofs.Found.{rising_first, rising_rest}
use Rattle.sources.proofs.Fronts.{front_is, front_rest, front_le}
use Rattle.sources.proofs.Checking.{fault_none}
use Rattle.sources.proofs.Putting.{found_sound, put_is}
use Rattle.sources.proofs.Loaded.{few_lent}
use Rattle.lent.specs.SourceWords.{remembered_in, source_with, source_of, source_near, source_words}
use Rattle.lent.specs.TableWords.{place_words, table_words, place_of, whole_places, places_in, each_below, are_places, are_wires, words_fault, unfit, loaded}
use Rattle.lent.proofs.PlaceRuns.{length-places_by}
use Rattle.lent.proofs.Taking.{whole, few, taken}
use Rattle.lent.proofs.TableLaws.{table_words_back}
use Rattle.capi.specs.Codes.{Leaves}
use Rattle.capi.specs.Tables.{table_arrived, arrived_code, arrived_words, CountsTableArrival, table_counted, counted_code, counted_words, CountsTableBlock}
use Rattle.capi.specs.TableWalks.{Told, put_at}
use Rattle.capi.proofs.Walked.{nth_place}

-- ---- words and places

-- the record in 10 words, as it is read
near_front : (l : List ℕ) → get_or l 9 0 ≤ 65536 → source_near (take 10 l) ≡ source_of l
unfolding source_with
near_front l h =
    let g : (i : ℕ) → i < 10 → get_or (take 10 l) i 0 ≡ get_or l i 0 = λ i. get_or-take 10 l i 0 in
    let last : min (get_or (take 10 l) 9 0) 65536 ≡ get_or l 9 0 = omega (arith, g 9 (omega arith), h) in
    λ i. record {
      base = record { 0 = signed 64 (g 0 (omega arith) i) };
      highest = record { 0 = signed 64 (g 1 (omega arith) i) };
      notect = g 2 (omega arith) i;
      ect1 = g 3 (omega arith) i;
      ect0 = g 4 (omega arith) i;
      ce = g 5 (omega arith) i;
      duplicates = g 6 (omega arith) i;
      history = record { recent = g 7 (omega arith) i; older = g 8 (omega arith) i };
      remembered = remembered_in (last i);
    }

below_nth : (limit k n : ℕ) (words : List ℕ) (at : ℕ) → each_below limit k n words ≡ true → at < n → get_or (drop (11 * at) words) k 0 < limit
unfolding each_below
below_nth limit k zero words at e h = absurd (omega arith)
below_nth limit k (suc n) words zero e h = ltb-true (get_or words k 0) limit (and_left (ltb (get_or words k 0) limit) (each_below limit k n (drop 11 words)) e)
below_nth limit k (suc n) words (suc at) e h =
    let q : 11 + 11 * at ≡ 11 * suc at = omega arith in
    let same : drop (11 * at) (drop 11 words) ≡ drop (11 * suc at) words = drop-drop (11 * at) 11 words ∙ ap (λ (j : ℕ). drop j words) q in
    rw (sym same) (below_nth limit k n (drop 11 words) at (and_right (ltb (get_or words k 0) limit) (each_below limit k n (drop 11 words)) e) (omega arith))

-- another place among places is its words among theirs
set_words : (p : Place) (ps : List Place) (at : ℕ) → at < length ps → table_words (set ps at p) ≡ put_at (table_words ps) at p
unfolding table_words source_words
set_words p [] at h = absurd (omega arith)
set_words p (q ∷ qs) zero h = refl
set_words p (q ∷ qs) (suc at) h =
    let e : 11 * suc at ≡ suc (suc (suc (suc (suc (suc (suc (suc (suc (suc (suc (11 * at))))))))))) = omega arith in
    rw e (ap (λ (l : List ℕ). place_words q ++ l) (set_words p qs at (omega arith)))

-- ---- a place among rising ones

rising_nth : (least : ℕ) (ps : List Place) (at : ℕ) → rising least ps ≡ true → at < length ps → least ≤ (get_or ps at empty_place).ssrc
rising_nth least [] at r h = absurd (omega arith)
rising_nth least (p ∷ ps) zero r h = rising_first least p ps r
rising_nth least (p ∷ ps) (suc at) r h =
    omega (arith, rising_first least p ps r, rising_nth (p.ssrc + 1) ps at (rising_rest least p ps r) (omega arith))

record Nth (ps : List Place) (at : ℕ) : Type 0 where
  found_is : found (get_or ps at empty_place).ssrc ps ≡ Some (get_or ps at empty_place).source
  stands : stands_at (get_or ps at empty_place).ssrc ps ≡ at

nth : (least : ℕ) (ps : List Place) (at : ℕ) → rising least ps ≡ true → at < length ps → Nth ps at
unfolding found stands_at
nth least [] at r h = absurd (omega arith)
nth least (p ∷ ps) zero r h = record { found_is = rw (eq-eqb p.ssrc p.ssrc refl); stands = rw (le-ltb p.ssrc p.ssrc (omega arith)) }
nth least (p ∷ ps) (suc at) r h =
    let s = (get_or ps at empty_place).ssrc in
    let n = nth (p.ssrc + 1) ps at (rising_rest least p ps r) (omega arith) in
    let above = rising_nth (p.ssrc + 1) ps at (rising_rest least p ps r) (omega arith) in
    record {
      found_is = rw (ne_eqb p.ssrc s (λ e. omega (arith, e, above))) n.found_is;
      stands = rw (lt-ltb p.ssrc s (omega (arith, above))) (ap suc n.stands);
    }

-- ---- words that are not refused

record Clear (words : List ℕ) : Type 0 where
  places : all (are_places words) ≡ true
  ruled : all (rules (places_in words)) ≡ true
  wires : are_wires words ≡ true
  sounds : all_sound (places_in words) ≡ true

clear : (words : List ℕ) → words_fault words ≡ None → Clear words
unfolding words_fault
clear words e = go (all (are_places words)) refl (all (rules (places_in words))) refl (are_wires words) refl (all_sound (places_in words)) refl e
  where
    go : (a : Bool) → all (are_places words) ≡ a → (b : Bool) → all (rules (places_in words)) ≡ b → (c : Bool) → are_wires words ≡ c
        → (d : Bool) → all_sound (places_in words) ≡ d
        → cond (not a) (Some Rules) (cond (not b) (Some Rules) (cond (not (c && d)) (Some Malformed) None)) ≡ None → Clear words
    go true ra true rb true rc true rd e = record { places = ra; ruled = rb; wires = rc; sounds = rd }
    go true ra true rb true rc false rd e = let z : ◌≡◌ {A = ℕ} 0 1 = cc in absurd (omega arith)
    go true ra true rb false rc d rd e = let z : ◌≡◌ {A = ℕ} 0 1 = cc in absurd (omega arith)
    go true ra false rb c rc d rd e = let z : ◌≡◌ {A = ℕ} 0 1 = cc in absurd (omega arith)
    go false ra b rb c rc d rd e = let z : ◌≡◌ {A = ℕ} 0 1 = cc in absurd (omega arith)

-- the words of its places are the words
clear_words : (words : List ℕ) → Clear words → ((i : ℕ) → get_or words i 0 < 2 ^ 64) → table_words (places_in words) ≡ words
unfolding loaded unfit
clear_words words k bits =
    let t = table.loaded (places_in words) in
    let e : loaded words ≡ Ok t = rw (k.places, k.wires) in
    let f = taken words e in
    sym (ap table_words (ap table.lent f.table ∙ few_lent (places_in words) f.short)) ∙ table_words_back words t bits e

-- ---- the place that was told

module _ (words : List ℕ) (ssrc at : ℕ) (t : Told words ssrc at) where
  abbrev ps : List Place
  ps = places_in words

  abbrev hs : List Place
  hs = held_of ps

  count : length ps ≡ whole_places words
  count = length-places_by place_of (whole_places words) words

  low : at < whole_places words
  low = omega (arith, t.inside, front_le ps, count)

  pub told_low : at < 16
  told_low = let k = clear words t.taken in omega (arith, low, few words k.places)

  pub told_long : 11 * at + 11 ≤ length words
  told_long = let k = clear words t.taken in omega (arith, low, whole words k.places)

  rises : rising 0 hs ≡ true
  rises = all_true (rules ps) 1 (clear words t.taken).ruled

  same : get_or hs at empty_place ≡ get_or ps at empty_place
  same = ap (λ (l : List Place). get_or l at empty_place) (front_is ps) ∙ get_or-take (length hs) ps at empty_place t.inside

  is_found : found ssrc hs ≡ Some (get_or ps at empty_place).source
  is_found =
      let n = nth 0 hs at rises t.inside in
      ap (λ (x : ℕ). found x hs) (sym (ap (λ (p : Place). p.ssrc) same ∙ t.named)) ∙ n.found_is ∙ ap (λ (p : Place). Some p.source) same

  stands : stands_at ssrc hs ≡ at
  stands =
      let n = nth 0 hs at rises t.inside in
      ap (λ (x : ℕ). stands_at x hs) (sym (ap (λ (p : Place). p.ssrc) same ∙ t.named)) ∙ n.stands

  -- the record that is read is the table's
  pub told_source : {s : Source} → s ≡ source_near (take 10 (drop (11 * at + 1) words)) → s ≡ record_of ssrc ps
  told_source e =
      let k = clear words t.taken in
      let here = drop (11 * at) words in
      let last : get_or (drop 1 here) 9 0 ≤ 65536 = omega (arith, get_or-drop 1 here 9 0, below_nth 65537 10 (whole_places words) words at k.wires low) in
      e
      ∙ ap (λ (l : List ℕ). source_near (take 10 l)) (sym (drop-drop 1 (11 * at) words))
      ∙ near_front (drop 1 here) last
      ∙ sym (ap record_in is_found ∙ ap (λ (p : Place). p.source) (nth_place (whole_places words) words at low))

  not_new : new_to ssrc ps ≡ false
  not_new = ap is_new is_found

  pub told_sound : sound (record_of ssrc ps) ≡ true
  told_sound = found_sound ssrc hs (clear words t.taken).sounds

  no_fault : fault ps ≡ None
  no_fault = let k = clear words t.taken in fault_none ps k.ruled k.sounds

  refusal_is : (outside : Bool) → refusal outside ssrc ps ≡ cond outside (Some Limits) None
  unfolding refusal
  refusal_is outside = rw (no_fault, not_new)

  -- the next places have another one there
  set_is : (p : Place) → p.ssrc ≡ ssrc → with_place p ps ≡ set ps at p
  unfolding with_place
  set_is p e =
      let put_at_lem : put p hs ≡ set hs at p = put_is p 0 hs rises
      ∙ (λ i. cond (is_new (found (e i) hs)) (take (stands_at (e i) hs) hs ++ p ∷ drop (stands_at (e i) hs) hs) (set hs (stands_at (e i) hs) p))
      ∙ rw (is_found, stands) in
      let whole_set : put p hs ++ rest_of ps ≡ set ps at p = ap (λ (l : List Place). l ++ rest_of ps) put_at_lem
      ∙ sym (set-append_left hs (rest_of ps) at p t.inside) ∙ ap (λ (l : List Place). set l at p) (front_rest ps) in
      ap (take (length ps)) whole_set ∙ take_all (length ps) (set ps at p) (omega (arith, length-set ps at p))

  set-is_put : (p : Place) → p.ssrc ≡ ssrc → table_words (with_place p ps) ≡ put_at words at p
  set-is_put p e =
      let k = clear words t.taken in
      ap table_words (set_is p e) ∙ set_words p ps at (omega (arith, low, count)) ∙ ap (λ (l : List ℕ). put_at l at p) (clear_words words k t.bits)

  -- ---- one arrival

  module _ (wire mark : ℕ) where
    abbrev w : Wire
    w = record { 0 = wire }

    abbrev given : Arrival
    given = arrival (record_of ssrc ps) w mark

    limits : ltb 3 mark ≡ true → given ≡ arrival.Refused Limits (record_of ssrc ps)
    unfolding arrival
    limits e = rw (told_sound, e)

    -- the record's own answer is the table's
    answer_is : table_arrived words ssrc wire mark ≡ told given
    unfolding table_arrived arrive_answer
    answer_is = rw (t.taken, refusal_is (ltb 3 mark)) (go (ltb 3 mark) refl)
      where
        go : (b : Bool) → ltb 3 mark ≡ b → told_unless (cond b (Some Limits) None) given ≡ told given
        go true e = sym (ap told (limits e))
        go false e = refl

    module _ {a : Arrival} (e : given ≡ a) where
      abbrev next : Place
      next = record { ssrc = ssrc; source = after a }

      next_is : arrived_words words (table_words (arrive_places ps ssrc w mark)) (told a) ≡ arrived_words words (put_at words at next) (told a)
      unfolding arrive_places
      next_is = go (ltb 3 mark) refl
        where
          go : (b : Bool) → ltb 3 mark ≡ b
              → arrived_words words (table_words (arrive_places ps ssrc w mark)) (told a) ≡ arrived_words words (put_at words at next) (told a)
          go true m =
              let k = ap told (sym e ∙ limits m) in
              ap (arrived_words words (table_words (arrive_places ps ssrc w mark))) k ∙ sym (ap (arrived_words words (put_at words at next)) k)
          go false m =
              let free : refusal (ltb 3 mark) ssrc ps ≡ None = refusal_is (ltb 3 mark) ∙ ap (λ (b : Bool). cond b (Some Limits) None) m in
              let p : Place = record { ssrc = ssrc; source = after given } in
              let same : p ≡ next = λ i. record { ssrc = ssrc; source = after (e i) } in
              let kept_is : arrive_places ps ssrc w mark ≡ with_place p ps = ap (λ (f : Option Refusal). kept f ps (with_place p ps)) free in
              ap (λ (l : List ℕ). arrived_words words l (told a)) (ap table_words kept_is ∙ set-is_put p refl ∙ ap (put_at words at) same)

      pub arrives_told : {r : ℕ} {out : List ℕ} → Leaves (arrived_code (told a)) (arrived_words words (put_at words at next) (told a)) r out
          → CountsTableArrival words ssrc wire mark r out
      arrives_told l =
          let answer = answer_is ∙ ap told e in
          record {
            answers = l.answers ∙ sym (ap arrived_code answer);
            stores = l.stores ∙ sym next_is ∙ sym (ap (arrived_words words (table_words (arrive_places ps ssrc w mark))) answer);
          }

  -- ---- a block

  module _ (width : ℕ) (records : List ℕ) where
    abbrev counted : BlockCount
    counted = block_count (record_of ssrc ps) width records

    beyond : outside width records ≡ true → counted ≡ block.Refused Limits (record_of ssrc ps)
    unfolding block_count
    beyond e = rw (told_sound, e)

    abbrev told_of : BlockCount → Counted
    told_of b = told_block (stands_at ssrc hs) (new_to ssrc ps) b

    count_is : table_counted words ssrc width records ≡ told_of counted
    unfolding table_counted count_answer
    count_is = rw (t.taken, refusal_is (outside width records)) (go (outside width records) refl)
      where
        go : (b : Bool) → outside width records ≡ b → block_unless (cond b (Some Limits) None) (told_of counted) ≡ told_of counted
        go true e = sym (ap told_of (beyond e))
        go false e = refl

    module _ {a : BlockCount} (e : counted ≡ a) where
      abbrev left : Place
      left = record { ssrc = ssrc; source = behind a }

      left_is : counted_words words (table_words (count_places ps ssrc width records)) (told_of a) ≡ counted_words words (put_at words at left) (told_of a)
      unfolding count_places
      left_is = go (outside width records) refl
        where
          go : (b : Bool) → outside width records ≡ b
              → counted_words words (table_words (count_places ps ssrc width records)) (told_of a) ≡ counted_words words (put_at words at left) (told_of a)
          go true m =
              let k = ap told_of (sym e ∙ beyond m) in
              ap (counted_words words (table_words (count_places ps ssrc width records))) k ∙ sym (ap (counted_words words (put_at words at left)) k)
          go false m =
              let free : refusal (outside width records) ssrc ps ≡ None = refusal_is (outside width records) ∙ ap (λ (b : Bool). cond b (Some Limits) None) m in
              let p : Place = record { ssrc = ssrc; source = behind counted } in
              let same : p ≡ left = λ i. record { ssrc = ssrc; source = behind (e i) } in
              let kept_is : count_places ps ssrc width records ≡ with_place p ps = ap (λ (f : Option Refusal). kept f ps (with_place p ps)) free in
              ap (λ (l : List ℕ). counted_words words l (told_of a)) (ap table_words kept_is ∙ set-is_put p refl ∙ ap (put_at words at) same)

      pub counts_told : {r : ℤ} {out : List ℕ} → Leaves (counted_code (told_of a)) (counted_words words (put_at words at left) (told_of a)) r out
          → CountsTableBlock words ssrc width records r out
      counts_told l =
          let answer = count_is ∙ ap told_of e in
          record {
            answers = l.answers ∙ sym (ap counted_code answer);
            stores = l.stores ∙ sym left_is ∙ sym (ap (counted_words words (table_words (count_places ps ssrc width records))) answer);
          }
