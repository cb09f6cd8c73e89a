-- A place put among the held ones, by the place where its SSRC stands. Assumes nothing.
use Rattle.std.specs.Prelude.{Option, Some, None}
use mathlib.Core.Path.{◌≡◌, refl, sym, ap, ◌∙◌}
use mathlib.Core.Bool.{Bool, true, false, cond, false≢true}
use mathlib.Core.List.{List, [], ◌∷◌, ◌++◌, map, append_assoc}
use Prim.Native.Nat.{ℕ, suc, ◌+◌, ◌-◌, ◌≤◌, ◌<◌}
use native.Mathlib.Omega.{arith}
use borrow.Author.Tests.{ltb-true, ltb-false, eqb-true}
use lib.Dec.{ltb, eqb}
use lib.ListN.{length, get_or, set, take, drop, length-take, length-set, take-append-drop}
use lib.Seq.{take_all, take-append-le, drop-append-le, set-append_left, length-take-le}
use Rattle.answers.specs.Conditions.{all}
use Rattle.answers.proofs.Conditions.{and_left, and_right}
use Rattle.source.specs.declared.Source.{Source}
use Rattle.source.specs.Record.{sound}
use Rattle.source.proofs.Facts.{fresh_sound}
use Rattle.sources.specs.declared.Place.{Place}
use Rattle.sources.specs.declared.Table.{Table}
use Rattle.sources.specs.Places.{empty_place, sound_place, held_of, rest_of}
use Rattle.sources.specs.Rules.{rising}
use Rattle.sources.specs.Stands.{stands_at, found, is_new, record_in, put, with_place}
use Rattle.sources.specs.Seats.{pushed}
use Rattle.sources.specs.Tables.{lent}
use Rattle.sources.specs.Changes.{changed}
use Rattle.sources.proofs.Fronts.{front_rest}
use Rattle.sources.proofs.Found.{rising_rest, below_none}
use Rattle.sources.proofs.Pushes.{pushed_append, pushed_all}
use Rattle.sources.proofs.Checking.{Passed}

-- ---- what is found

-- the record of an SSRC that is found stands at its place
pub record FoundAt (ssrc : ℕ) (ps : List Place) (s : Source) : Type 0 where
  pub inside : stands_at ssrc ps < length ps
  pub is : (get_or ps (stands_at ssrc ps) empty_place).source ≡ s

pub found_stands : (ssrc least : ℕ) (ps : List Place) (s : Source) → rising least ps ≡ true → found ssrc ps ≡ Some s → FoundAt ssrc ps s
unfolding found stands_at
found_stands ssrc least [] s r f = let z : ◌≡◌ {A = ℕ} 0 1 = cc in absurd (omega arith)
found_stands ssrc least (p ∷ ps) s r f =
    go (found_stands ssrc (p.ssrc + 1) ps s (rising_rest least p ps r)) (eqb p.ssrc ssrc) refl (ltb p.ssrc ssrc) refl f
  where
    absent : found ssrc ps ≡ None → found ssrc ps ≡ Some s → ⊥
    absent a b = let z : ◌≡◌ {A = ℕ} 0 1 = cc in omega arith

    inner : (a b : Source) → ◌≡◌ {A = Option Source} (Some a) (Some b) → a ≡ b
    inner a b e = cc

    go : (found ssrc ps ≡ Some s → FoundAt ssrc ps s) → (e : Bool) → eqb p.ssrc ssrc ≡ e → (l : Bool) → ltb p.ssrc ssrc ≡ l
        → cond e (Some p.source) (found ssrc ps) ≡ Some s → FoundAt ssrc (p ∷ ps) s
    go more true he true hl f = absurd (let z = eqb-true p.ssrc ssrc he in let y = ltb-true p.ssrc ssrc hl in omega arith)
    go more true he false hl f = record { inside = rw hl (omega arith); is = rw hl (inner p.source s f) }
    go more false he true hl f =
        let m = more f in
        let h = m.inside in
        record { inside = rw hl (omega arith); is = rw hl m.is }
    go more false he false hl f =
        let h = ltb-false p.ssrc ssrc hl in
        absurd (absent (below_none ssrc (p.ssrc + 1) ps (omega arith) (rising_rest least p ps r)) f)

-- a found record is one of the places'
pub found_sound : (ssrc : ℕ) (ps : List Place) → all (map sound_place ps) ≡ true → sound (record_in (found ssrc ps)) ≡ true
unfolding found
found_sound ssrc [] e = fresh_sound
found_sound ssrc (p ∷ ps) e =
    go (eqb p.ssrc ssrc) (and_left (sound_place p) (all (map sound_place ps)) e) (found_sound ssrc ps (and_right (sound_place p) (all (map sound_place ps)) e))
  where
    go : (b : Bool) → sound p.source ≡ true → sound (record_in (found ssrc ps)) ≡ true → sound (record_in (cond b (Some p.source) (found ssrc ps))) ≡ true
    go true a b = a
    go false a b = b

-- ---- what is put

stands_le : (ssrc : ℕ) (ps : List Place) → stands_at ssrc ps ≤ length ps
unfolding stands_at
stands_le ssrc [] = omega arith
stands_le ssrc (p ∷ ps) = go (ltb p.ssrc ssrc) (stands_le ssrc ps)
  where
    go : (b : Bool) → stands_at ssrc ps ≤ length ps → cond b (suc (stands_at ssrc ps)) 0 ≤ suc (length ps)
    go true h = omega arith
    go false h = omega arith

module _ (p : Place) where
  -- one found is replaced, a new one put in
  abbrev placed : Bool → ℕ → List Place → List Place
  placed new at ps = cond new (take at ps ++ p ∷ drop at ps) (set ps at p)

  pub put_is : (least : ℕ) (ps : List Place) → rising least ps ≡ true → put p ps ≡ placed (is_new (found p.ssrc ps)) (stands_at p.ssrc ps) ps
  unfolding put found stands_at
  put_is least [] r = refl
  put_is least (q ∷ qs) r = go (put_is (q.ssrc + 1) qs (rising_rest least q qs r)) (ltb q.ssrc p.ssrc) refl (eqb q.ssrc p.ssrc) refl
    where
      behind : (b : Bool) → q ∷ placed b (stands_at p.ssrc qs) qs ≡ placed b (suc (stands_at p.ssrc qs)) (q ∷ qs)
      behind true = refl
      behind false = refl

      go : put p qs ≡ placed (is_new (found p.ssrc qs)) (stands_at p.ssrc qs) qs → (l : Bool) → ltb q.ssrc p.ssrc ≡ l → (e : Bool) → eqb q.ssrc p.ssrc ≡ e
          → cond l (q ∷ put p qs) (p ∷ cond e qs (q ∷ qs)) ≡ placed (is_new (cond e (Some q.source) (found p.ssrc qs))) (cond l (suc (stands_at p.ssrc qs)) 0) (q ∷ qs)
      go more true hl true he = absurd (let z = eqb-true q.ssrc p.ssrc he in let y = ltb-true q.ssrc p.ssrc hl in omega arith)
      go more true hl false he = ap (λ (rs : List Place). q ∷ rs) more ∙ behind (is_new (found p.ssrc qs))
      go more false hl true he = refl
      go more false hl false he =
          let h = ltb-false q.ssrc p.ssrc hl in
          rw (below_none p.ssrc (q.ssrc + 1) qs (omega arith) (rising_rest least q qs r))

-- ---- in a table of which n places are held

module _ (t : Table) (n : ℕ) (k : Passed t n) (long : t.count ≤ length t.places) where
  abbrev front : List Place
  front = take n t.places

  pub known_inside : (ssrc : ℕ) → is_new (found ssrc front) ≡ false → stands_at ssrc front < n
  known_inside ssrc e = go (found ssrc front) refl e
    where
      go : (f : Option Source) → found ssrc front ≡ f → is_new f ≡ false → stands_at ssrc front < n
      go None g e = absurd (false≢true (sym e))
      go (Some s) g e = let h = (found_stands ssrc 0 front s k.rises g).inside in omega (arith, length-take n t.places)

  module _ (p : Place) where
    abbrev at : ℕ
    at = stands_at p.ssrc front

    abbrev others : List Place
    others = rest_of (lent t)

    abbrev beyond : List Place
    beyond = drop t.count t.places

    joined : front ++ others ≡ lent t
    joined = ap (λ (ps : List Place). ps ++ others) (sym k.first) ∙ front_rest (lent t)

    lent_long : length (lent t) ≡ t.count
    lent_long = length-take-le t.count t.places long

    at_front : at ≤ length front
    at_front = stands_le p.ssrc front

    at_most : at ≤ t.count
    at_most = let h = k.most in omega (arith, at_front, length-take n t.places)

    whole : lent t ++ beyond ≡ t.places
    whole = take-append-drop t.count t.places

    new_places : (take at front ++ p ∷ drop at front) ++ others ≡ take at (lent t) ++ p ∷ drop at (lent t)
    new_places =
        append_assoc (take at front) (p ∷ drop at front) others
        ∙ ap (λ (ps : List Place). ps ++ p ∷ (drop at front ++ others)) (sym (take-append-le at front others at_front))
        ∙ ap (λ (ps : List Place). take at (front ++ others) ++ p ∷ ps) (sym (drop-append-le at front others at_front))
        ∙ ap (λ (ps : List Place). take at ps ++ p ∷ drop at ps) joined

    places : (b : Bool) → (b ≡ false → at < n)
        → cond b (pushed at (t.count - at) p t.places) (set t.places at p) ≡ take (length (lent t)) (placed p b at front ++ others) ++ beyond
    places true h =
        let sum : at + (t.count - at) ≡ length (lent t) = let l = at_most in omega (arith, lent_long) in
        ap (pushed at (t.count - at) p) (sym whole)
        ∙ pushed_append at (t.count - at) p (lent t) beyond (omega arith)
        ∙ ap (λ (ps : List Place). ps ++ beyond) (pushed_all at (t.count - at) p (lent t) sum ∙ ap (take (length (lent t))) (sym new_places))
    places false h =
        let l = h refl in
        let m = k.most in
        let inside : at < length (lent t) = omega (arith, lent_long) in
        let within : at < length front = omega (arith, long, length-take n t.places) in
        let same : set front at p ++ others ≡ set (lent t) at p = sym (set-append_left front others at p within) ∙ ap (λ (ps : List Place). set ps at p) joined in
        ap (λ (ps : List Place). set ps at p) (sym whole)
        ∙ set-append_left (lent t) beyond at p inside
        ∙ ap (λ (ps : List Place). ps ++ beyond) (sym (ap (take (length (lent t))) same ∙ take_all (length (lent t)) (set (lent t) at p) (rw (length-set (lent t) at p) (omega arith))))

    -- the places that the record moves: its own, or all from its stand on
    moves : (b : Bool) → changed (record { from = at; end = cond b t.count (at + 1); place = p }) t.places ≡ cond b (pushed at (t.count - at) p t.places) (set t.places at p)
    unfolding changed pushed
    moves true = refl
    moves false = let e : at + 1 - at ≡ 1 = omega arith in ap (λ (k : ℕ). pushed at k p t.places) e

    pub put_places : changed (record { from = at; end = cond (is_new (found p.ssrc front)) t.count (at + 1); place = p }) t.places ≡ with_place p (lent t) ++ beyond
    unfolding with_place
    put_places =
        let b = is_new (found p.ssrc front) in
        let same : put p (held_of (lent t)) ≡ placed p b at front = ap (put p) k.first ∙ put_is p 0 front k.rises in
        moves b ∙ places b (known_inside p.ssrc) ∙ ap (λ (ps : List Place). take (length (lent t)) (ps ++ others) ++ beyond) (sym same)
