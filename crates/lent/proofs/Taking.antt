-- Which words a table is taken from, and what is then left for its calls to refuse. Assumes nothing.
use Rattle.std.specs.Prelude.{Option, Some, None, Ok, Err}
use mathlib.Core.Path.{◌≡◌, refl, sym, ap, ap₂, ◌∙◌}
use mathlib.Core.Bool.{Bool, true, false, cond, not, ◌&&◌}
use mathlib.Core.List.{List, ◌∷◌}
use Prim.Native.Nat.{ℕ, zero, suc, ◌*◌, ◌%◌, ◌^◌, ◌≤◌, ◌<◌, min}
use native.Mathlib.Nat.{mod-eq_of_lt}
use native.Mathlib.Omega.{arith}
use borrow.Author.Tests.{eqb-true, leb-true, ltb-true, le-ltb, ne_eqb}
use lib.Dec.{ltb}
use lib.ListN.{length, get_or, drop}
use lib.Seq.{get_or-drop}
use Rattle.answers.specs.Conditions.{all}
use Rattle.answers.specs.declared.Refusal.{Refusal}
use Rattle.answers.specs.declared.Refusal.TheVariants.{Malformed, Rules}
use Rattle.answers.proofs.Conditions.{and_left, and_right, all_true}
use Rattle.source.specs.Record.{nothing, fresh}
use Rattle.sources.specs.declared.Place.{Place}
use Rattle.sources.specs.declared.Table.{Table}
use Rattle.sources.specs.Rules.{most_places, rules, all_sound, fault}
use Rattle.sources.specs.Checks.{checked_in}
use Rattle.sources.specs.Tables as table
use Rattle.sources.proofs.Checking.{kept, told_held, told_refused}
use Rattle.sources.proofs.Loaded.{few_fault}
use Rattle.lent.specs.SourceWords.{remembered_in, source_with}
use Rattle.lent.specs.TableWords.{place_of, places_by, whole_places, places_in, each_below, are_places, are_wires, words_fault, unfit, loaded_by, loaded}
use Rattle.lent.specs.TableReads.{place_near, places_near}
use Rattle.lent.proofs.PlaceRuns.{length-places_by}
use Rattle.lent.proofs.Alike.{Alike, AllAlike, rules_alike}

-- ---- a place as it is read, and as its words say

nothing_near : (x : ℕ) → nothing (remembered_in (min x 65536)) ≡ nothing (remembered_in x)
nothing_near zero = refl
nothing_near (suc x) = rw (ne_eqb (min (suc x) 65536) 0 (λ z. omega arith), ne_eqb (suc x) 0 (λ z. omega arith))

-- an SSRC of 32 bits is the same
near_alike : (words : List ℕ) → get_or words 0 0 < 2 ^ 32 → Alike (place_near words) (place_of words)
unfolding source_with fresh
near_alike words h =
    let s = mod-eq_of_lt h in
    record { ssrcs = s; helds = refl; empties = rw (s, nothing_near (get_or (drop 1 words) 9 0)) }

near_all : (n : ℕ) (words : List ℕ) → each_below (2 ^ 32) 0 n words ≡ true → AllAlike (places_near n words) (places_by place_of n words)
unfolding places_by each_below AllAlike
near_all zero words e = tt
near_all (suc n) words e =
    let first = ltb (get_or words 0 0) (2 ^ 32) in
    let rest = each_below (2 ^ 32) 0 n (drop 11 words) in
    (near_alike words (ltb-true (get_or words 0 0) (2 ^ 32) (and_left first rest e)), near_all n (drop 11 words) (and_right first rest e))

-- where the remembered words fit too, the whole place is
near_is : (n : ℕ) (words : List ℕ) → each_below (2 ^ 32) 0 n words ≡ true → each_below 65537 10 n words ≡ true → places_near n words ≡ places_by place_of n words
unfolding places_by each_below
near_is zero words e f = refl
near_is (suc n) words e f =
    let rest = drop 11 words in
    let s = ltb-true (get_or words 0 0) (2 ^ 32) (and_left (ltb (get_or words 0 0) (2 ^ 32)) (each_below (2 ^ 32) 0 n rest) e) in
    let r = ltb-true (get_or words 10 0) 65537 (and_left (ltb (get_or words 10 0) 65537) (each_below 65537 10 n rest) f) in
    let last : min (get_or (drop 1 words) 9 0) 65536 ≡ get_or (drop 1 words) 9 0 = omega (arith, r, get_or-drop 1 words 9 0) in
    let here : place_near words ≡ place_of words = λ i. record { ssrc = mod-eq_of_lt s i; source = source_with (drop 1 words) (remembered_in (last i)) } in
    ap₂ (λ (p : Place) (ps : List Place). p ∷ ps) here (near_is n rest (and_right (ltb (get_or words 0 0) (2 ^ 32)) (each_below (2 ^ 32) 0 n rest) e) (and_right (ltb (get_or words 10 0) 65537) (each_below 65537 10 n rest) f))

-- ---- what is given

module _ (words : List ℕ) where
  abbrev near : List Place
  near = places_near (whole_places words) words

  pub outside : all (are_places words) ≡ false → Err Rules ≡ loaded words
  unfolding loaded unfit words_fault
  outside e = rw e

  module _ (e : all (are_places words) ≡ true) where
    pub whole : length words ≡ 11 * whole_places words
    whole = omega (arith, eqb-true (length words % 11) 0 (all_true (are_places words) 0 e))

    pub few : whole_places words ≤ 16
    few = leb-true (whole_places words) most_places (all_true (are_places words) 1 e)

    ssrcs : each_below (2 ^ 32) 0 (whole_places words) words ≡ true
    ssrcs = all_true (are_places words) 2 e

    near_few : ltb most_places (length near) ≡ false
    near_few = le-ltb most_places (length near) (omega (arith, few, length-places_by place_near (whole_places words) words))

    near_rules : all (rules near) ≡ all (rules (places_in words))
    near_rules = rules_alike near (places_in words) (near_all (whole_places words) words ssrcs)

    pub fitting : {t : Table} → are_wires words ≡ true → t ≡ table.loaded near → Ok t ≡ loaded words
    unfolding loaded unfit
    fitting w h = rw (e, w) (λ i. Ok ((h ∙ ap table.loaded (near_is (whole_places words) words ssrcs w)) i))

    module _ (w : are_wires words ≡ false) where
      too_large : {r : Refusal} → words_fault words ≡ Some r → Err r ≡ loaded words
      unfolding loaded unfit
      too_large h = rw (e, w, h)

      pub large_held : {u : Table} {n : ℕ} → u ≡ table.loaded near → Ok n ≡ checked_in u → Err Malformed ≡ loaded words
      unfolding words_fault
      large_held {u} h c =
          let good = (told_held u c).kept in
          let k = kept near (sym (few_fault near near_few) ∙ ap (λ (x : Table). table.fault_in x) (sym h) ∙ good) in
          too_large (rw (e, sym near_rules ∙ k.ruled, w))

      pub large_refused : {u : Table} {r : Refusal} → u ≡ table.loaded near → Err r ≡ checked_in u → Err r ≡ loaded words
      unfolding words_fault fault
      large_refused {u} {r} h c = too_large (rw (e, w) (go (all (rules near)) refl (all_sound near) refl))
        where
          given : fault near ≡ Some r
          given = sym (few_fault near near_few) ∙ ap (λ (x : Table). table.fault_in x) (sym h) ∙ told_refused u c

          go : (a : Bool) → all (rules near) ≡ a → (b : Bool) → all_sound near ≡ b → cond (not (all (rules (places_in words)))) (Some Rules) (Some Malformed) ≡ Some r
          go true ra true rb = let g = rw (ra, rb) at given in let z : ◌≡◌ {A = ℕ} 0 1 = cc in absurd (omega arith)
          go true ra false rb = rw (sym near_rules ∙ ra) (rw (ra, rb) at given)
          go false ra b rb = rw (sym near_rules ∙ ra) (rw ra at given)

-- ---- what is known of words by what was given

pub record Fit (words : List ℕ) (t : Table) : Type 0 where
  pub long : length words ≡ 11 * length (places_in words)
  pub short : ltb most_places (length (places_in words)) ≡ false
  pub table : t ≡ table.loaded (places_in words)
  pub faults : words_fault words ≡ fault (places_in words)

module _ (words : List ℕ) where
  fits_all : {t : Table} → all (are_places words) ≡ true → are_wires words ≡ true → t ≡ table.loaded (places_in words) → Fit words t
  unfolding words_fault fault
  fits_all e w h =
      let n = length-places_by place_of (whole_places words) words in
      record {
        long = omega (arith, whole words e, n);
        short = le-ltb most_places (length (places_in words)) (omega (arith, few words e, n));
        table = h;
        faults = rw (e, w);
      }

  pub taken : {t : Table} → loaded words ≡ Ok t → Fit words t
  unfolding loaded unfit words_fault
  taken {t} h = go (all (are_places words)) refl (are_wires words) refl (all (rules (places_in words))) refl h
    where
      go : (a : Bool) → all (are_places words) ≡ a → (b : Bool) → are_wires words ≡ b → (c : Bool) → all (rules (places_in words)) ≡ c
          → loaded_by (cond (a && b) None (cond (not a) (Some Rules) (cond (not c) (Some Rules) (cond (not (b && all_sound (places_in words))) (Some Malformed) None)))) (table.loaded (places_in words)) ≡ Ok t
          → Fit words t
      go true ra true rb c rc h = fits_all ra rb (cc)
      go true ra false rb true rc h = let z : ◌≡◌ {A = ℕ} 0 1 = cc in absurd (omega arith)
      go true ra false rb false rc h = let z : ◌≡◌ {A = ℕ} 0 1 = cc in absurd (omega arith)
      go false ra b rb c rc h = let z : ◌≡◌ {A = ℕ} 0 1 = cc in absurd (omega arith)

  pub not_taken : {r : Refusal} → loaded words ≡ Err r → words_fault words ≡ Some r
  unfolding loaded unfit
  not_taken {r} h = go (all (are_places words) && are_wires words) (words_fault words) h
    where
      go : (b : Bool) (f : Option Refusal) → loaded_by (cond b None f) (table.loaded (places_in words)) ≡ Err r → f ≡ Some r
      go true f h = let z : ◌≡◌ {A = ℕ} 0 1 = cc in absurd (omega arith)
      go false (Some q) h = cc
      go false None h = let z : ◌≡◌ {A = ℕ} 0 1 = cc in absurd (omega arith)
