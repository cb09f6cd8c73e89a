-- What a walk over the places sees, place by place. Assumes nothing.
use Rattle.std.specs.Prelude.{Option, Some, None}
use mathlib.Core.Path.{◌≡◌, refl, sym, ap, subst, ◌∙◌}
use mathlib.Core.Bool.{Bool, true, false, cond, ◌&&◌}
use mathlib.Core.List.{List, [], ◌∷◌, map}
use Prim.Native.Nat.{ℕ, suc, ◌+◌, ◌≤◌, ◌<◌}
use native.Mathlib.Numerals.{add-one}
use native.Mathlib.Omega.{arith}
use borrow.Author.Tests.{ltb-true, ltb-false, lt-ltb, le-ltb, eqb-true, eqb-false, eq-eqb, ne_eqb}
use lib.Dec.{leb, ltb, eqb}
use lib.ListN.{length, get_or, take, drop}
use Rattle.answers.specs.Conditions.{all}
use Rattle.source.specs.declared.Source.{Source}
use Rattle.source.specs.Record.{fresh_record}
use Rattle.sources.specs.declared.Place.{Place}
use Rattle.sources.specs.declared.finding.Seen.{Seen}
use Rattle.sources.specs.Places.{held, empty_place, empty, sound_place, held_of, rest_of}
use Rattle.sources.specs.Rules.{rising}
use Rattle.sources.specs.Stands.{stands_at, found, is_new, record_in}
use Rattle.sources.specs.Seeing.{seen_held, seen_other, seen_next, seen_from}
use Rattle.sources.proofs.Turns.{one_left, none_left}
use Rattle.sources.proofs.Found.{rising_first, rising_rest, below_none}

-- ---- conditions

pub and_same : (a : Bool) → (a && true) ≡ a
and_same true = refl
and_same false = refl

and_assoc : (a b c : Bool) → ((a && b) && c) ≡ (a && (b && c))
and_assoc true b c = refl
and_assoc false b c = refl

and_four : (a b c d : Bool) → ((a && b) && (c && d)) ≡ (a && ((b && c) && d))
and_four true true c d = refl
and_four true false c d = refl
and_four false b c d = refl

-- ---- one place

module _ (p : Place) (ps : List Place) where
  held_first : held p ≡ true → held_of (p ∷ ps) ≡ p ∷ held_of ps
  unfolding held_of
  held_first e = ap (λ (b : Bool). cond b (p ∷ held_of ps) []) e

  rest_after : held p ≡ true → rest_of (p ∷ ps) ≡ rest_of ps
  unfolding rest_of
  rest_after e = ap (λ (b : Bool). cond b (rest_of ps) (p ∷ ps)) e

  held_none : held p ≡ false → held_of (p ∷ ps) ≡ []
  unfolding held_of
  held_none e = ap (λ (b : Bool). cond b (p ∷ held_of ps) []) e

  rest_all : held p ≡ false → rest_of (p ∷ ps) ≡ p ∷ ps
  unfolding rest_of
  rest_all e = ap (λ (b : Bool). cond b (rest_of ps) (p ∷ ps)) e

module _ (ssrc : ℕ) (s : Seen) (i : ℕ) (p : Place) where
  pub next_held : s.front ≡ true → held p ≡ true → seen_next s i p ssrc ≡ seen_held s i p ssrc
  unfolding seen_next
  next_held o h = ap (λ (b : Bool). cond b (seen_held s i p ssrc) (seen_other s p)) (ap (λ (b : Bool). b && held p) o ∙ h)

  pub next_other : s.front ≡ true → held p ≡ false → seen_next s i p ssrc ≡ seen_other s p
  unfolding seen_next
  next_other o h = ap (λ (b : Bool). cond b (seen_held s i p ssrc) (seen_other s p)) (ap (λ (b : Bool). b && held p) o ∙ h)

  pub next_closed : s.front ≡ false → seen_next s i p ssrc ≡ seen_other s p
  unfolding seen_next
  next_closed o = ap (λ (b : Bool). cond b (seen_held s i p ssrc) (seen_other s p)) (ap (λ (b : Bool). b && held p) o)

-- a turn of the walk, and its end
module _ (ssrc : ℕ) (xs : List Place) (n i : ℕ) (s : Seen) where
  pub seen_turn : i < n → n ≤ length xs
      → seen_from ssrc s i (drop i (take n xs)) ≡ seen_from ssrc (seen_next s i (get_or xs i empty_place) ssrc) (i + 1) (drop (i + 1) (take n xs))
  unfolding seen_from
  seen_turn h k =
      ap (seen_from ssrc s i) (one_left xs n i h k)
      ∙ ap (λ (j : ℕ). seen_from ssrc (seen_next s i (get_or xs i empty_place) ssrc) j (drop (i + 1) (take n xs))) (sym (add-one i))

  pub seen_end : n ≤ i → seen_from ssrc s i (drop i (take n xs)) ≡ s
  unfolding seen_from
  seen_end h = ap (seen_from ssrc s i) (none_left xs n i h)

-- ---- all places: what is held, and whether the rules are kept

module _ (ssrc : ℕ) where
  -- from the first place on that is not held
  record Closed (s : Seen) (ps : List Place) (r : Seen) : Type 0 where
    counts : r.count ≡ s.count
    many : r.held ≡ s.held
    rules : r.ruled ≡ (s.ruled && all (map empty ps))
    sounds : r.sound ≡ s.sound
    stands : r.stand ≡ s.stand
    ends : r.end ≡ s.end
    record_is : r.source ≡ s.source

  closed : (ps : List Place) (s : Seen) (i : ℕ) → s.front ≡ false → Closed s ps (seen_from ssrc s i ps)
  unfolding seen_from
  closed [] s i e = record { counts = refl; many = refl; rules = sym (and_same s.ruled); sounds = refl; stands = refl; ends = refl; record_is = refl }
  closed (p ∷ ps) s i e =
      subst (λ (u : Seen). Closed s (p ∷ ps) (seen_from ssrc u (suc i) ps)) (sym (next_closed ssrc s i p e)) (more (closed ps (seen_other s p) (suc i) refl))
    where
      more : {r : Seen} → Closed (seen_other s p) ps r → Closed s (p ∷ ps) r
      more c = record {
        counts = c.counts;
        many = c.many;
        rules = c.rules ∙ and_assoc s.ruled (empty p) (all (map empty ps));
        sounds = c.sounds;
        stands = c.stands;
        ends = c.ends;
        record_is = c.record_is;
      }

  -- from place i on, all before it being held
  pub record Opened (s : Seen) (i : ℕ) (ps : List Place) (r : Seen) : Type 0 where
    pub counts : r.count ≡ s.count
    pub many : r.held ≡ i + length (held_of ps)
    pub rules : r.ruled ≡ (s.ruled && (rising s.least (held_of ps) && all (map empty (rest_of ps))))
    pub sounds : r.sound ≡ (s.sound && all (map sound_place (held_of ps)))

  pub opened : (ps : List Place) (s : Seen) (i : ℕ) → s.front ≡ true → s.held ≡ i → Opened s i ps (seen_from ssrc s i ps)
  unfolding seen_from held_of rest_of rising
  opened [] s i o h =
      record { counts = refl; many = omega (arith, h); rules = sym (and_same s.ruled); sounds = sym (and_same s.sound) }
  opened (p ∷ ps) s i o h = go (held p) refl (opened ps (seen_held s i p ssrc) (suc i) o (omega arith))
    where
      with_held : held p ≡ true → {r : Seen} → Opened (seen_held s i p ssrc) (suc i) ps r → Opened s i (p ∷ ps) r
      with_held e c = record {
        counts = c.counts;
        many = omega (arith, c.many, ap length (held_first p ps e));
        rules =
            c.rules ∙ and_four s.ruled (leb s.least p.ssrc) (rising (p.ssrc + 1) (held_of ps)) (all (map empty (rest_of ps)))
            ∙ ap (λ (qs : List Place). s.ruled && (rising s.least qs && all (map empty (rest_of ps)))) (sym (held_first p ps e))
            ∙ ap (λ (qs : List Place). s.ruled && (rising s.least (held_of (p ∷ ps)) && all (map empty qs))) (sym (rest_after p ps e));
        sounds =
            c.sounds ∙ and_assoc s.sound (sound_place p) (all (map sound_place (held_of ps)))
            ∙ ap (λ (qs : List Place). s.sound && all (map sound_place qs)) (sym (held_first p ps e));
      }

      with_other : held p ≡ false → {r : Seen} → Closed (seen_other s p) ps r → Opened s i (p ∷ ps) r
      with_other e c = record {
        counts = c.counts;
        many = omega (arith, c.many, h, ap length (held_none p ps e));
        rules =
            c.rules ∙ and_assoc s.ruled (empty p) (all (map empty ps))
            ∙ ap (λ (qs : List Place). s.ruled && (rising s.least qs && all (map empty (p ∷ ps)))) (sym (held_none p ps e))
            ∙ ap (λ (qs : List Place). s.ruled && (rising s.least (held_of (p ∷ ps)) && all (map empty qs))) (sym (rest_all p ps e));
        sounds = c.sounds ∙ sym (and_same s.sound) ∙ ap (λ (qs : List Place). s.sound && all (map sound_place qs)) (sym (held_none p ps e));
      }

      go : (b : Bool) → held p ≡ b → Opened (seen_held s i p ssrc) (suc i) ps (seen_from ssrc (seen_held s i p ssrc) (suc i) ps) → Opened s i (p ∷ ps) (seen_from ssrc s i (p ∷ ps))
      go true e c = subst (λ (u : Seen). Opened s i (p ∷ ps) (seen_from ssrc u (suc i) ps)) (sym (next_held ssrc s i p o e)) (with_held e c)
      go false e c =
          subst (λ (u : Seen). Opened s i (p ∷ ps) (seen_from ssrc u (suc i) ps)) (sym (next_other ssrc s i p o e)) (with_other e (closed ps (seen_other s p) (suc i) refl))

  -- ---- where the SSRC stands, if the held places rise

  record Same (s r : Seen) : Type 0 where
    stands : r.stand ≡ s.stand
    ends : r.end ≡ s.end
    record_is : r.source ≡ s.source

  same_closed : {s r : Seen} {ps : List Place} → Closed s ps r → Same s r
  same_closed c = record { stands = c.stands; ends = c.ends; record_is = c.record_is }

  -- places above the SSRC
  module _ (s : Seen) (i : ℕ) (p : Place) (above : ssrc < p.ssrc) where
    not_own : eqb p.ssrc ssrc ≡ false
    not_own = ne_eqb p.ssrc ssrc (λ e. omega arith)

    same_above : Same s (seen_held s i p ssrc)
    same_above = record { stands = rw (not_own, le-ltb p.ssrc ssrc (omega arith)); ends = rw not_own; record_is = rw not_own }

  same_both : {s r u : Seen} → Same s u → Same u r → Same s r
  same_both a b = record { stands = b.stands ∙ a.stands; ends = b.ends ∙ a.ends; record_is = b.record_is ∙ a.record_is }

  all_above : (ps : List Place) (s : Seen) (i least : ℕ) → s.front ≡ true → ssrc < least → rising least (held_of ps) ≡ true → Same s (seen_from ssrc s i ps)
  unfolding seen_from
  all_above [] s i least o l r = record { stands = refl; ends = refl; record_is = refl }
  all_above (p ∷ ps) s i least o l r = go (held p) refl (all_above ps (seen_held s i p ssrc) (suc i) (p.ssrc + 1) o)
    where
      go : (b : Bool) → held p ≡ b → (ssrc < p.ssrc + 1 → rising (p.ssrc + 1) (held_of ps) ≡ true → Same (seen_held s i p ssrc) (seen_from ssrc (seen_held s i p ssrc) (suc i) ps))
          → Same s (seen_from ssrc s i (p ∷ ps))
      go true e more =
          let rises : rising least (p ∷ held_of ps) ≡ true = sym (ap (rising least) (held_first p ps e)) ∙ r in
          let low = rising_first least p (held_of ps) rises in
          let above : ssrc < p.ssrc = omega (arith, low, l) in
          subst (λ (u : Seen). Same s (seen_from ssrc u (suc i) ps)) (sym (next_held ssrc s i p o e))
          (same_both (same_above s i p above) (more (omega arith) (rising_rest least p (held_of ps) rises)))
      go false e more =
          subst (λ (u : Seen). Same s (seen_from ssrc u (suc i) ps)) (sym (next_other ssrc s i p o e)) (same_both (record { stands = refl; ends = refl; record_is = refl }) (same_closed (closed ps (seen_other s p) (suc i) refl)))

  pub record Stood (i count : ℕ) (qs : List Place) (r : Seen) : Type 0 where
    pub stands : r.stand ≡ record { at = i + stands_at ssrc qs; new = is_new (found ssrc qs) }
    pub ends : r.end ≡ cond (is_new (found ssrc qs)) count (i + stands_at ssrc qs + 1)
    pub record_is : r.source ≡ record_in (found ssrc qs)

  -- before place i, the SSRC was not met
  pub record Before (i count : ℕ) (s : Seen) : Type 0 where
    pub open_is : s.front ≡ true
    pub stands : s.stand ≡ record { at = i; new = true }
    pub ends : s.end ≡ count
    pub record_is : s.source ≡ fresh_record

  module _ (i count : ℕ) where
    stood_by_lem : {qs : List Place} {r : Seen} (k : ℕ) (f : Option Source) → stands_at ssrc qs ≡ k → found ssrc qs ≡ f → r.stand ≡ record { at = i + k; new = is_new f }
        → r.end ≡ cond (is_new f) count (i + k + 1) → r.source ≡ record_in f → Stood i count qs r
    stood_by_lem k f ek ef at end its = record {
      stands = at ∙ (λ j. record { at = i + sym ek j; new = is_new (sym ef j) });
      ends = end ∙ (λ j. cond (is_new (sym ef j)) count (i + sym ek j + 1));
      record_is = its ∙ ap record_in (sym ef);
    }

    -- no place is held, or all are above it
    unmet : {qs : List Place} {s r : Seen} → stands_at ssrc qs ≡ 0 → found ssrc qs ≡ None → Before i count s → Same s r → Stood i count qs r
    unmet ek ef b a =
        let z : i ≡ i + 0 = omega arith in
        stood_by_lem 0 None ek ef (a.stands ∙ b.stands ∙ (λ j. record { at = z j; new = true })) (a.ends ∙ b.ends) (a.record_is ∙ b.record_is)

    module _ (s : Seen) (p : Place) (qs : List Place) where
      met_own : p.ssrc ≡ ssrc → {r : Seen} → Same (seen_held s i p ssrc) r → Stood i count (p ∷ qs) r
      unfolding stands_at found
      met_own e a =
          let own = eq-eqb p.ssrc ssrc e in
          let high = le-ltb p.ssrc ssrc (omega arith) in
          let z : i ≡ i + 0 = omega arith in
          let y : i + 1 ≡ i + 0 + 1 = omega arith in
          stood_by_lem 0 (Some p.source) (ap (λ (b : Bool). cond b (suc (stands_at ssrc qs)) 0) high) (ap (λ (b : Bool). cond b (Some p.source) (found ssrc qs)) own)
          (a.stands ∙ ap (λ (b : Bool). cond b (record { at = i; new = false }) (cond (ltb p.ssrc ssrc) (record { at = i + 1; new = true }) s.stand)) own ∙ (λ j. record { at = z j; new = false }))
          (a.ends ∙ ap (λ (b : Bool). cond b (i + 1) s.end) own ∙ y)
          (a.record_is ∙ ap (λ (b : Bool). cond b p.source s.source) own)

      below : Before i count s → p.ssrc < ssrc → Before (suc i) count (seen_held s i p ssrc)
      below b l =
          let own = ne_eqb p.ssrc ssrc (λ e. omega arith) in
          let low = lt-ltb p.ssrc ssrc l in
          let z : i + 1 ≡ suc i = omega arith in
          record {
            open_is = b.open_is;
            stands = rw (own, low) (λ j. record { at = z j; new = true });
            ends = ap (λ (b : Bool). cond b (i + 1) s.end) own ∙ b.ends;
            record_is = ap (λ (b : Bool). cond b p.source s.source) own ∙ b.record_is;
          }

    passed_by : (p : Place) (qs : List Place) → p.ssrc < ssrc → {r : Seen} → Stood (suc i) count qs r → Stood i count (p ∷ qs) r
    unfolding stands_at found
    passed_by p qs l a =
        let own = ne_eqb p.ssrc ssrc (λ e. omega arith) in
        let low = lt-ltb p.ssrc ssrc l in
        let z : suc i + stands_at ssrc qs ≡ i + suc (stands_at ssrc qs) = omega arith in
        stood_by_lem (suc (stands_at ssrc qs)) (found ssrc qs) (ap (λ (b : Bool). cond b (suc (stands_at ssrc qs)) 0) low) (ap (λ (b : Bool). cond b (Some p.source) (found ssrc qs)) own)
        (a.stands ∙ (λ j. record { at = z j; new = is_new (found ssrc qs) }))
        (a.ends ∙ ap (λ (k : ℕ). cond (is_new (found ssrc qs)) count (k + 1)) z)
        a.record_is

  pub stood : (ps : List Place) (s : Seen) (i least count : ℕ) → Before i count s → rising least (held_of ps) ≡ true → Stood i count (held_of ps) (seen_from ssrc s i ps)
  unfolding seen_from held_of stands_at found
  stood [] s i least count b r = unmet i count refl refl b (record { stands = refl; ends = refl; record_is = refl })
  stood (p ∷ ps) s i least count b r = go (held p) refl (stood ps (seen_held s i p ssrc) (suc i) (p.ssrc + 1) count)
    where
      More : Type 0
      More = Before (suc i) count (seen_held s i p ssrc) → rising (p.ssrc + 1) (held_of ps) ≡ true → Stood (suc i) count (held_of ps) (seen_from ssrc (seen_held s i p ssrc) (suc i) ps)

      after_held : rising (p.ssrc + 1) (held_of ps) ≡ true → More → Stood i count (p ∷ held_of ps) (seen_from ssrc (seen_held s i p ssrc) (suc i) ps)
      after_held rises more = by (eqb p.ssrc ssrc) refl (ltb p.ssrc ssrc) refl
        where
          by : (e : Bool) → eqb p.ssrc ssrc ≡ e → (l : Bool) → ltb p.ssrc ssrc ≡ l → Stood i count (p ∷ held_of ps) (seen_from ssrc (seen_held s i p ssrc) (suc i) ps)
          by true he l hl =
              let own = eqb-true p.ssrc ssrc he in
              met_own i count s p (held_of ps) own (all_above ps (seen_held s i p ssrc) (suc i) (p.ssrc + 1) b.open_is (omega arith) rises)
          by false he true hl = let l = ltb-true p.ssrc ssrc hl in passed_by i count p (held_of ps) l (more (below i count s p (held_of ps) b l) rises)
          by false he false hl =
              let h = ltb-false p.ssrc ssrc hl in
              let other = eqb-false p.ssrc ssrc he in
              let above : ssrc < p.ssrc = least_above h other in
              unmet i count (none_low above) (none_own above) b
              (same_both (same_above s i p above) (all_above ps (seen_held s i p ssrc) (suc i) (p.ssrc + 1) b.open_is (omega arith) rises))
            where
              least_above : ssrc ≤ p.ssrc → (p.ssrc ≡ ssrc → ⊥) → ssrc < p.ssrc
              least_above h other = go (ltb ssrc p.ssrc) refl
                where
                  go : (t : Bool) → ltb ssrc p.ssrc ≡ t → ssrc < p.ssrc
                  go true e = ltb-true ssrc p.ssrc e
                  go false e = let g = ltb-false ssrc p.ssrc e in absurd (other (omega arith))

              none_low : ssrc < p.ssrc → stands_at ssrc (p ∷ held_of ps) ≡ 0
              none_low above = ap (λ (t : Bool). cond t (suc (stands_at ssrc (held_of ps))) 0) (le-ltb p.ssrc ssrc (omega arith))

              none_own : ssrc < p.ssrc → found ssrc (p ∷ held_of ps) ≡ None
              none_own above =
                  ap (λ (t : Bool). cond t (Some p.source) (found ssrc (held_of ps))) (ne_eqb p.ssrc ssrc (λ e. omega arith))
                  ∙ below_none ssrc (p.ssrc + 1) (held_of ps) (omega arith) rises

      go : (t : Bool) → held p ≡ t → More → Stood i count (held_of (p ∷ ps)) (seen_from ssrc s i (p ∷ ps))
      go true e more =
          let rises : rising least (p ∷ held_of ps) ≡ true = sym (ap (rising least) (held_first p ps e)) ∙ r in
          subst (λ (u : Seen). Stood i count (held_of (p ∷ ps)) (seen_from ssrc u (suc i) ps)) (sym (next_held ssrc s i p b.open_is e))
          (subst (λ (qs : List Place). Stood i count qs (seen_from ssrc (seen_held s i p ssrc) (suc i) ps)) (sym (held_first p ps e))
          (after_held (rising_rest least p (held_of ps) rises) more))
      go false e more =
          subst (λ (u : Seen). Stood i count (held_of (p ∷ ps)) (seen_from ssrc u (suc i) ps)) (sym (next_other ssrc s i p b.open_is e))
          (unmet i count (ap (stands_at ssrc) (held_none p ps e)) (ap (found ssrc) (held_none p ps e)) b
          (same_both (record { stands = refl; ends = refl; record_is = refl }) (same_closed (closed ps (seen_other s p) (suc i) refl))))
