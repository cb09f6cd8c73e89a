-- A table and its words: taking out and putting back are inverse. Assumes nothing.
use Rattle.std.specs.Prelude.{Ok}
use mathlib.Core.Path.{◌≡◌, refl, sym, ap, ap₂, ◌∙◌}
use mathlib.Core.Bool.{Bool, true, false, cond, ◌&&◌}
use mathlib.Core.List.{List, [], ◌∷◌, ◌++◌, map}
use Prim.Native.Nat.{ℕ, zero, suc, ◌+◌, ◌*◌, ◌%◌, ◌^◌, ◌≤◌, ◌<◌}
use native.Mathlib.Omega.{arith}
use borrow.Author.Tests.{lt-ltb, eq-eqb, le-leb, leb-true}
use lib.Dec.{eqb, ltb}
use lib.ListN.{length, get_or, take, drop, length-drop, take-append-drop}
use lib.Seq.{get_or-drop}
use Rattle.answers.specs.Conditions.{all}
use Rattle.answers.proofs.Conditions.{and_left, and_right, all_true}
use Rattle.source.specs.Record.{fresh, sound, wire_number}
use Rattle.sources.specs.declared.Place.{Place}
use Rattle.sources.specs.Places.{held, empty, sound_place, held_of, rest_of}
use Rattle.sources.specs.Rules.{most_places, rules, all_sound}
use Rattle.sources.specs.Tables as table
use Rattle.sources.proofs.Checking.{kept, kept_empties}
use Rattle.sources.proofs.Loaded.{few_lent}
use Rattle.lent.specs.SourceWords.{remembered_word, source_with, source_words}
use Rattle.lent.specs.TableWords.{place_words, table_words, place_of, places_by, whole_places, places_in, each_below, are_places, are_wires, words_fault, unfit, loaded, typed_place, TableBack, TableWordsBack}
use Rattle.lent.proofs.SourceLaws.{remembered_back, held as held-source, words_front, sound_back}
use Rattle.lent.proofs.PlaceRuns.{length-table}
use Rattle.lent.proofs.Taking.{taken}

-- ---- words, and the places in them

-- 11 words are those of their place
place_back : (words : List ℕ) → 11 ≤ length words → ((i : ℕ) → get_or words i 0 < 2 ^ 64) → place_words (place_of words) ≡ take 11 words
place_back [] long bits = absurd (omega arith)
place_back (w ∷ words) long bits = ap (λ (l : List ℕ). w ∷ l) (words_front words (omega arith) (bits 1) (bits 2))

places_back : (n : ℕ) (words : List ℕ) → length words ≡ 11 * n → ((i : ℕ) → get_or words i 0 < 2 ^ 64) → table_words (places_by place_of n words) ≡ words
unfolding places_by table_words
places_back zero [] long bits = refl
places_back zero (w ∷ words) long bits = absurd (omega arith)
places_back (suc n) words long bits =
    let rest = drop 11 words in
    let behind : (i : ℕ) → get_or rest i 0 < 2 ^ 64 = λ i. rw (get_or-drop 11 words i 0) (bits (11 + i)) in
    ap₂ (λ (x y : List ℕ). x ++ y) (place_back words (omega arith) bits) (places_back n rest (length-drop 11 words ∙ omega arith) behind) ∙ take-append-drop 11 words

pub table_words_back : TableWordsBack
table_words_back words t bits e =
    let f = taken words e in
    let n : length words ≡ 11 * whole_places words = omega (arith, f.long) in
    ap table_words (ap table.lent f.table ∙ few_lent (places_in words) f.short) ∙ places_back (whole_places words) words n bits

-- ---- places, and their words

-- a table that is not refused has sound records only
sound_empty : (p : Place) → empty p ≡ true → sound_place p ≡ true
unfolding sound
sound_empty p e = rw (and_right (eqb p.ssrc 0) (fresh p.source) e)

empty_sound : (ps : List Place) → all (map empty ps) ≡ true → all (map sound_place ps) ≡ true
empty_sound [] e = refl
empty_sound (p ∷ ps) e = rw (sound_empty p (and_left (empty p) (all (map empty ps)) e)) (empty_sound ps (and_right (empty p) (all (map empty ps)) e))

all_sound_lem : (ps : List Place) → all_sound ps ≡ true → all (map empty (rest_of ps)) ≡ true → all (map sound_place ps) ≡ true
unfolding held_of rest_of
all_sound_lem [] s e = refl
all_sound_lem (p ∷ ps) s e = go (held p) s e (all_sound_lem ps)
  where
    go : (b : Bool) → all (map sound_place (cond b (p ∷ held_of ps) [])) ≡ true → all (map empty (cond b (rest_of ps) (p ∷ ps))) ≡ true
        → (all_sound ps ≡ true → all (map empty (rest_of ps)) ≡ true → all (map sound_place ps) ≡ true) → (sound_place p && all (map sound_place ps)) ≡ true
    go true s e more = rw (and_left (sound_place p) (all_sound ps) s) (more (and_right (sound_place p) (all_sound ps) s) e)
    go false s e more = empty_sound (p ∷ ps) e

module _ (p : Place) (s : sound_place p ≡ true) (t : typed_place p ≡ true) where
  wire : wire_number p.source.remembered ≡ true
  wire = and_right (ltb p.ssrc (2 ^ 32)) (wire_number p.source.remembered) t

  -- the place of its words, whatever is behind them
  place_of_lem : (rest : List ℕ) → place_of (place_words p ++ rest) ≡ p
  unfolding source_with source_words
  place_of_lem rest =
      let e = sym (held-source (source_words p.source) (sound_back p.source s wire)).2 in
      λ i. record { ssrc = p.ssrc; source = e i }

places_of : (ps : List Place) → all (map sound_place ps) ≡ true → all (map typed_place ps) ≡ true → places_by place_of (length ps) (table_words ps) ≡ ps
unfolding places_by table_words source_words
places_of [] s t = refl
places_of (p ∷ ps) s t =
    ap₂ (λ (q : Place) (qs : List Place). q ∷ qs) (place_of_lem p (and_left (sound_place p) (all (map sound_place ps)) s) (and_left (typed_place p) (all (map typed_place ps)) t) (table_words ps))
    (places_of ps (and_right (sound_place p) (all (map sound_place ps)) s) (and_right (typed_place p) (all (map typed_place ps)) t))

-- their SSRCs and remembered words fit
ssrcs_fit_lem : (ps : List Place) → all (map typed_place ps) ≡ true → each_below (2 ^ 32) 0 (length ps) (table_words ps) ≡ true
unfolding each_below table_words source_words
ssrcs_fit_lem [] t = refl
ssrcs_fit_lem (p ∷ ps) t =
    rw (and_left (ltb p.ssrc (2 ^ 32)) (wire_number p.source.remembered) (and_left (typed_place p) (all (map typed_place ps)) t))
    (ssrcs_fit_lem ps (and_right (typed_place p) (all (map typed_place ps)) t))

wires_fit : (ps : List Place) → all (map typed_place ps) ≡ true → each_below 65537 10 (length ps) (table_words ps) ≡ true
unfolding each_below table_words source_words
wires_fit [] t = refl
wires_fit (p ∷ ps) t =
    let r = p.source.remembered in
    let most = (remembered_back r (and_right (ltb p.ssrc (2 ^ 32)) (wire_number r) (and_left (typed_place p) (all (map typed_place ps)) t))).1 in
    rw (lt-ltb (remembered_word r) 65537 (omega (arith, most))) (wires_fit ps (and_right (typed_place p) (all (map typed_place ps)) t))

pub table_back : TableBack
unfolding loaded unfit words_fault
table_back ps f t =
    let k = kept ps f in
    let words = table_words ps in
    let long = length-table ps in
    let n : whole_places words ≡ length ps = omega (arith, long) in
    let most = leb-true (length ps) most_places (all_true (rules ps) 0 k.ruled) in
    let whole = eq-eqb (length words % 11) 0 (omega (arith, long)) in
    let places : all (are_places words) ≡ true = rw (whole, n, le-leb (length ps) most_places most, ssrcs_fit_lem ps t) in
    let wires : are_wires words ≡ true = rw (n, wires_fit ps t) in
    let same : places_in words ≡ ps = ap (λ (j : ℕ). places_by place_of j words) n ∙ places_of ps (all_sound_lem ps k.sounds (kept_empties ps k.ruled)) t in
    (rw (places, wires) (λ i. Ok (table.loaded (same i))), rw (places, wires, same, k.ruled, k.sounds))
