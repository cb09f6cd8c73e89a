-- What a walk over the words of a table has found: the table is not refused, and a place has the SSRC. Assumes nothing.
use mathlib.Core.Path.{◌≡◌, refl, sym, ap, subst, ◌∙◌}
use mathlib.Core.Bool.{Bool, true, false, cond, ◌&&◌, or-true}
use mathlib.Core.List.{List, [], ◌∷◌, map}
use Prim.Native.Nat.{ℕ, zero, suc, ◌+◌, ◌-◌, ◌*◌, ◌/◌, ◌%◌, ◌^◌, ◌≤◌, ◌<◌}
use native.Mathlib.Omega.{arith}
use borrow.Author.Tests.{eqb-true, eq-eqb, le-leb, lt-ltb}
use lib.Dec.{eqb}
use lib.ListN.{length, get_or, drop, drop_of_length-le}
use lib.Seq.{get_or-drop, drop-drop}
use Rattle.answers.specs.Conditions.{all}
use Rattle.numbers.specs.Since.{signed}
use Rattle.numbers.proofs.Differences.{signed_low}
use Rattle.source.specs.Places.{place, marks}
use Rattle.source.specs.Record.{fresh, has_counted, sound}
use Rattle.source.proofs.Facts.{facts, facts_count}
use Rattle.sources.specs.declared.Place.{Place}
use Rattle.sources.specs.Places.{held, empty_place, empty, sound_place, held_of, rest_of}
use Rattle.sources.specs.Rules.{rising, rules, all_sound}
use Rattle.sources.proofs.Fronts.{front_le}
use Rattle.lent.specs.SourceWords.{remembered_in, source_with, source_of}
use Rattle.lent.specs.TableWords.{place_of, places_by, whole_places, places_in, each_below, are_places, words_fault}
use Rattle.lent.proofs.PlaceRuns.{length-places_by}
use Rattle.capi.specs.TableWalks.{counted_in, FewMarked, Fine, AllZero, Told}

-- ---- the words of one place

-- what the tests of a record have shown
pub record Tests (words : List ℕ) (n : ℕ) : Type 0 where
  pub fewer : get_or words 7 0 < n
  pub most : n ≤ 2 ^ 48
  pub wire : get_or words 1 0 ≤ 65535
  pub ordered : get_or words 1 0 ≤ get_or words 2 0
  pub spread : get_or words 2 0 - get_or words 1 0 ≤ 2999 * (n - get_or words 7 0 - 1)
  pub top : get_or words 8 0 % 2 ≡ 1
  pub fits : get_or words 9 0 < 2 ^ 36
  pub few : FewMarked (get_or words 8 0) (get_or words 9 0) (n - get_or words 7 0)

pub tests_count : (words : List ℕ) (n : ℕ) → Tests words n → n ≡ counted_in words → has_counted (place_of words).source ≡ true
unfolding source_with marks place
tests_count [] n t e = absurd (omega (arith, t.fewer, e))
tests_count (w ∷ words) n t e =
    facts_count (source_of words) (record {
      low = get_or words 0 0;
      high = get_or words 1 0;
      base = signed_low 63 (get_or words 0 0) (omega (arith, t.wire));
      highest = signed_low 63 (get_or words 1 0) (omega (arith, t.wire, t.spread, t.most));
      wire = t.wire;
      ordered = t.ordered;
      some = omega (arith, t.fewer, e);
      most = omega (arith, t.most, e);
      fewer = omega (arith, t.fewer, e);
      top = eq-eqb (get_or words 7 0 / 2 ^ 0 % 2) 1 (omega (arith, t.top));
      fits = t.fits;
      few = omega (arith, t.few, e);
      spread = omega (arith, t.spread, e);
    })

-- ---- what is known of n places, of which k are held in front

pub record Rest (least n : ℕ) (words : List ℕ) (k : ℕ) : Type 0 where
  pub rises : rising least (held_of (places_by place_of n words)) ≡ true
  pub empties : all (map empty (rest_of (places_by place_of n words))) ≡ true
  pub sounds : all_sound (places_by place_of n words) ≡ true
  pub ssrcs : each_below (2 ^ 32) 0 n words ≡ true
  pub wires : each_below 65537 10 n words ≡ true
  pub many : length (held_of (places_by place_of n words)) ≡ k

pub none_left : (least : ℕ) (words : List ℕ) → Rest least 0 words 0
unfolding places_by held_of rest_of rising each_below
none_left least words = record { rises = refl; empties = refl; sounds = refl; ssrcs = refl; wires = refl; many = refl }

-- words that are all 0, one by one
pub zero_cons : (words : List ℕ) (i : ℕ) → get_or words i 0 ≡ 0 → AllZero (drop (i + 1) words) → AllZero (drop i words)
zero_cons words i e z zero = let k : i + 0 ≡ i = omega arith in get_or-drop i words 0 0 ∙ ap (λ (j : ℕ). get_or words j 0) k ∙ e
zero_cons words i e z (suc n) =
    let k : i + suc n ≡ i + 1 + n = omega arith in
    get_or-drop i words (suc n) 0 ∙ ap (λ (j : ℕ). get_or words j 0) k ∙ sym (get_or-drop (i + 1) words n 0) ∙ z n

pub zero_end : (words : List ℕ) (i : ℕ) → length words ≤ i → AllZero (drop i words)
zero_end words i h n = ap (λ (l : List ℕ). get_or l n 0) (drop_of_length-le words {i = i} h)

-- and are empty places
zero_place : (words : List ℕ) → AllZero words → place_of words ≡ empty_place
unfolding source_with signed
zero_place words z =
    let w : (i : ℕ) → get_or (drop 1 words) i 0 ≡ 0 = λ i. get_or-drop 1 words i 0 ∙ z (1 + i) in
    λ i. record {
      ssrc = z 0 i;
      source = record {
        base = record { 0 = signed 64 (w 0 i) };
        highest = record { 0 = signed 64 (w 1 i) };
        notect = w 2 i;
        ect1 = w 3 i;
        ect0 = w 4 i;
        ce = w 5 i;
        duplicates = w 6 i;
        history = record { recent = w 7 i; older = w 8 i };
        remembered = remembered_in (w 9 i);
      };
    }

zero_behind : (words : List ℕ) → AllZero words → AllZero (drop 11 words)
zero_behind words z i = get_or-drop 11 words i 0 ∙ z (11 + i)

zero_below : (limit k n : ℕ) (words : List ℕ) → 0 < limit → AllZero words → each_below limit k n words ≡ true
unfolding each_below
zero_below limit k zero words h z = refl
zero_below limit k (suc n) words h z = rw (z k, lt-ltb 0 limit h) (zero_below limit k n (drop 11 words) h (zero_behind words z))

zero_places : (n : ℕ) (words : List ℕ) → AllZero words → all (map empty (places_by place_of n words)) ≡ true
unfolding places_by fresh
zero_places zero words z = refl
zero_places (suc n) words z =
    let rest = drop 11 words in
    ap (λ (p : Place). empty p && all (map empty (places_by place_of n rest))) (zero_place words z) ∙ zero_places n rest (zero_behind words z)

zero_front : (n : ℕ) (words : List ℕ) → AllZero words → (held_of (places_by place_of n words) ≡ [])
    × (rest_of (places_by place_of n words) ≡ places_by place_of n words)
unfolding places_by held_of rest_of
zero_front zero words z = (refl, refl)
zero_front (suc n) words z =
    let ps = places_by place_of n (drop 11 words) in
    let e = ap (λ (p : Place). held p) (zero_place words z) in
    (ap (λ (b : Bool). cond b (place_of words ∷ held_of ps) []) e, ap (λ (b : Bool). cond b (rest_of ps) (place_of words ∷ ps)) e)

pub zeros_left : (least n : ℕ) (words : List ℕ) → AllZero words → Rest least n words 0
unfolding rising
zeros_left least n words z =
    let f = zero_front n words z in
    record {
      rises = ap (rising least) f.0;
      empties = ap (λ (ps : List Place). all (map empty ps)) f.1 ∙ zero_places n words z;
      sounds = ap (λ (ps : List Place). all (map sound_place ps)) f.0;
      ssrcs = zero_below (2 ^ 32) 0 n words (omega arith) z;
      wires = zero_below 65537 10 n words (omega arith) z;
      many = ap length f.0;
    }

-- one place more in front
module _ (least : ℕ) (words : List ℕ) (f : Fine least words) where
  holds : held (place_of words) ≡ true
  holds = le-leb 1 _ (facts (place_of words).source f.counts).some

  sounds : sound_place (place_of words) ≡ true
  unfolding sound
  sounds = rw f.counts (or-true (fresh (place_of words).source))

  front : (ps : List Place) → held_of (place_of words ∷ ps) ≡ place_of words ∷ held_of ps
  unfolding held_of
  front ps = ap (λ (b : Bool). cond b (place_of words ∷ held_of ps) []) holds

  back : (ps : List Place) → rest_of (place_of words ∷ ps) ≡ rest_of ps
  unfolding rest_of
  back ps = ap (λ (b : Bool). cond b (rest_of ps) (place_of words ∷ ps)) holds

  pub one_more_lem : (n k : ℕ) → Rest (get_or words 0 0 + 1) n (drop 11 words) k → Rest least (suc n) words (suc k)
  unfolding places_by rising each_below
  one_more_lem n k r =
      let ps = places_by place_of n (drop 11 words) in
      record {
        rises = ap (rising least) (front ps) ∙ rw (le-leb least (get_or words 0 0) f.above) r.rises;
        empties = ap (λ (qs : List Place). all (map empty qs)) (back ps) ∙ r.empties;
        sounds = ap (λ (qs : List Place). all (map sound_place qs)) (front ps) ∙ rw sounds r.sounds;
        ssrcs = rw (lt-ltb (get_or words 0 0) (2 ^ 32) f.ssrc) r.ssrcs;
        wires = rw (lt-ltb (get_or words 10 0) 65537 f.wire) r.wires;
        many = ap length (front ps) ∙ ap suc r.many;
      }

-- ---- a turn of the walk, and its ends

pub first_word : (words : List ℕ) (k : ℕ) → get_or (drop k words) 0 0 ≡ get_or words k 0
first_word words k = let e : k + 0 ≡ k = omega arith in get_or-drop k words 0 0 ∙ ap (λ (j : ℕ). get_or words j 0) e

-- what is left is all that is not known
abbrev pub Left : List ℕ → ℕ → ℕ → ℕ → Type 0
Left words n least i = (k : ℕ) → Rest least (n - i) (drop (11 * i) words) k → Rest 0 n words (i + k)

pub turn : (words : List ℕ) (n least i : ℕ) → i < n → Left words n least i → Fine least (drop (11 * i) words)
    → Left words n (get_or words (11 * i) 0 + 1) (i + 1)
turn words n least i h left f k r =
    let here = drop (11 * i) words in
    let first = first_word words (11 * i) in
    let fewer : n - i ≡ suc (n - (i + 1)) = omega arith in
    let q : 11 * i + 11 ≡ 11 * (i + 1) = omega arith in
    let behind : drop 11 here ≡ drop (11 * (i + 1)) words = drop-drop 11 (11 * i) words ∙ ap (λ (j : ℕ). drop j words) q in
    let same : i + suc k ≡ i + 1 + k = omega arith in
    let rest : Rest (get_or here 0 0 + 1) (n - (i + 1)) (drop 11 here) k = rw (first, behind) r in
    let more : Rest least (n - i) here (suc k) = rw fewer (one_more_lem least here f (n - (i + 1)) k rest) in
    subst (λ (j : ℕ). Rest 0 n words j) same (left (suc k) more)

pub nth_place : (n : ℕ) (words : List ℕ) (at : ℕ) → at < n → get_or (places_by place_of n words) at empty_place ≡ place_of (drop (11 * at) words)
unfolding places_by
nth_place zero words at h = absurd (omega arith)
nth_place (suc n) words zero h = refl
nth_place (suc n) words (suc at) h =
    let q : 11 + 11 * at ≡ 11 * suc at = omega arith in
    nth_place n (drop 11 words) at (omega arith) ∙ ap place_of (drop-drop (11 * at) 11 words ∙ ap (λ (j : ℕ). drop j words) q)

-- nothing is known before the first place
pub start : (words : List ℕ) (n : ℕ) → Left words n 0 0
start words n k r =
    let e : n - 0 ≡ n = omega arith in
    let f : k ≡ 0 + k = omega arith in
    subst (λ (j : ℕ). Rest 0 n words j) f (subst (λ (m : ℕ). Rest 0 m words k) e r)

-- the place so far
abbrev pub Named : List ℕ → ℕ → ℕ → ℕ → Type 0
Named words ssrc i at = (at < i) × (get_or words (11 * at) 0 ≡ ssrc)

pub named : (words : List ℕ) (ssrc i at r : ℕ) → r ≡ cond (eqb (get_or words (11 * i) 0) ssrc) i at → (at < 16 → Named words ssrc i at) → r < 16
    → Named words ssrc (i + 1) r
named words ssrc i at r e before h = go (eqb (get_or words (11 * i) 0) ssrc) refl e
  where
    go : (b : Bool) → eqb (get_or words (11 * i) 0) ssrc ≡ b → r ≡ cond b i at → Named words ssrc (i + 1) r
    go true f e = (omega (arith, e), ap (λ (j : ℕ). get_or words (11 * j) 0) e ∙ eqb-true (get_or words (11 * i) 0) ssrc f)
    go false f e = let b = before (omega (arith, e, h)) in (omega (arith, e, b.0), ap (λ (j : ℕ). get_or words (11 * j) 0) e ∙ b.1)

module _ (words : List ℕ) (n ssrc at : ℕ) (bits : (i : ℕ) → get_or words i 0 < 2 ^ 64) (few : n ≤ 16) (long : length words ≡ 11 * n) where
  told : (k : ℕ) → Rest 0 n words k → Named words ssrc k at → Told words ssrc at
  unfolding words_fault
  told k rest named =
      let m : whole_places words ≡ n = omega (arith, long) in
      let r : Rest 0 (whole_places words) words k = subst (λ (j : ℕ). Rest 0 j words k) (sym m) rest in
      let count = length-places_by place_of (whole_places words) words in
      let whole = eq-eqb (length words % 11) 0 (omega (arith, long)) in
      let places : all (are_places words) ≡ true = rw (whole, le-leb (whole_places words) 16 (omega (arith, m, few)), r.ssrcs) in
      let ruled : all (rules (places_in words)) ≡ true = rw (le-leb (length (places_in words)) 16 (omega (arith, m, few, count)), r.rises, r.empties) in
      let low : at < whole_places words = omega (arith, named.0, r.many, front_le (places_in words), count) in
      record {
        bits = bits;
        taken = rw (places, ruled, r.wires, r.sounds);
        inside = omega (arith, named.0, r.many);
        named = ap (λ (p : Place). p.ssrc) (nth_place (whole_places words) words at low) ∙ first_word words (11 * at) ∙ named.1;
      }

  -- all places were fine, or those that are left are empty
  pub told_last : (least i : ℕ) → n ≤ i → Left words n least i → Named words ssrc i at → Told words ssrc at
  told_last least i h left named =
      let e : n - i ≡ 0 = omega arith in
      let q : i + 0 ≡ i = omega arith in
      told i (subst (λ (j : ℕ). Rest 0 n words j) q (left 0 (rw e (none_left least (drop (11 * i) words))))) named

  pub told_zeros : (least i : ℕ) → AllZero (drop (11 * i) words) → Left words n least i → Named words ssrc i at → Told words ssrc at
  told_zeros least i z left named =
      let q : i + 0 ≡ i = omega arith in
      told i (subst (λ (j : ℕ). Rest 0 n words j) q (left 0 (zeros_left least (n - i) (drop (11 * i) words) z))) named
