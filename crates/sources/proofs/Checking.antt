-- What the check of a table decides, and what a table that passes it has. Assumes nothing.
use Rattle.std.specs.Prelude.{Option, Some, None, Ok, Err}
use mathlib.Core.Path.{◌≡◌, refl, sym, ap, ◌∙◌}
use mathlib.Core.Bool.{Bool, true, false, cond, not}
use mathlib.Core.List.{List, map}
use Prim.Native.Nat.{ℕ, ◌≤◌}
use native.Mathlib.Omega.{arith}
use borrow.Author.Tests.{ltb-false}
use lib.ListN.{length, get_or, take}
use Rattle.answers.specs.Conditions.{all}
use Rattle.answers.specs.declared.Refusal.{Refusal}
use Rattle.answers.specs.declared.Refusal.TheVariants.{Malformed, Rules}
use Rattle.answers.proofs.Conditions.{all_false, all_true}
use Rattle.sources.specs.declared.Place.{Place}
use Rattle.sources.specs.declared.Table.{Table}
use Rattle.sources.specs.Places.{empty, sound_place, held_of, rest_of}
use Rattle.sources.specs.Rules.{most_places, rising, rules, all_sound, fault}
use Rattle.sources.specs.Tables.{lent, over, fault_in}
use Rattle.sources.specs.Checks.{checked_by, checked_in, Good}
use Rattle.sources.proofs.Fronts.{few_held, held_first}

-- ---- a list of places

module _ (ps : List Place) where
  -- a rule that fails is 16
  pub fault_rule : (i : ℕ) → get_or (rules ps) i true ≡ false → fault ps ≡ Some Rules
  unfolding fault
  fault_rule i e = rw (sym (all_false (rules ps) i e))

  pub fault_none : all (rules ps) ≡ true → all_sound ps ≡ true → fault ps ≡ None
  unfolding fault
  fault_none r e = rw (r, e)

  -- a table that neither 16 nor 9 refuses
  pub record Kept : Type 0 where
    pub ruled : all (rules ps) ≡ true
    pub sounds : all_sound ps ≡ true

  pub kept : fault ps ≡ None → Kept
  unfolding fault
  kept e = go (all (rules ps)) refl (all_sound ps) refl e
    where
      go : (a : Bool) → all (rules ps) ≡ a → (b : Bool) → all_sound ps ≡ b
          → cond (not a) (Some Rules) (cond (not b) (Some Malformed) None) ≡ None → Kept
      go true ra true rb e = record { ruled = ra; sounds = rb }
      go true ra false rb e = let z : ◌≡◌ {A = ℕ} 0 1 = cc in absurd (omega arith)
      go false ra b rb e = let z : ◌≡◌ {A = ℕ} 0 1 = cc in absurd (omega arith)

  module _ (k : all (rules ps) ≡ true) where
    pub kept_rises : rising 0 (held_of ps) ≡ true
    kept_rises = all_true (rules ps) 1 k

    pub kept_empties : all (map empty (rest_of ps)) ≡ true
    kept_empties = all_true (rules ps) 2 k

-- ---- what a check tells

pub by_refused : {refusal : Refusal} (f : Option Refusal) (n : ℕ) → Err refusal ≡ checked_by f n → f ≡ Some refusal
by_refused (Some r) n e = cc
by_refused None n e = let z : ◌≡◌ {A = ℕ} 0 1 = cc in absurd (omega arith)

pub by_held : {m : ℕ} (f : Option Refusal) (n : ℕ) → Ok m ≡ checked_by f n → f ≡ None
by_held (Some r) n e = let z : ◌≡◌ {A = ℕ} 0 1 = cc in absurd (omega arith)
by_held None n e = refl

-- ---- a table by value

module _ (t : Table) where
  -- what the check tells
  pub told_refused : {refusal : Refusal} → Err refusal ≡ checked_in t → fault_in t ≡ Some refusal
  unfolding checked_in
  told_refused e = by_refused (fault_in t) (length (held_of (lent t))) e

  pub told_held : {n : ℕ} → Ok n ≡ checked_in t → Good t n
  unfolding checked_in
  told_held {n} e = go (fault_in t) refl e
    where
      go : (f : Option Refusal) → fault_in t ≡ f → Ok n ≡ checked_by f (length (held_of (lent t))) → Good t n
      go (Some r) g e = let z : ◌≡◌ {A = ℕ} 0 1 = cc in absurd (omega arith)
      go None g e = record { kept = g; count = cc }

-- ---- what a good table has

pub record Passed (t : Table) (n : ℕ) : Type 0 where
  pub few : t.count ≤ most_places
  pub kept : fault (lent t) ≡ None
  pub most : n ≤ t.count
  pub first : held_of (lent t) ≡ take n t.places
  pub rises : rising 0 (take n t.places) ≡ true
  pub sounds : all (map sound_place (take n t.places)) ≡ true

pub passed : (t : Table) (n : ℕ) → Good t n → Passed t n
unfolding fault_in
passed t n good = go (over t) refl good.kept
  where
    go : (b : Bool) → over t ≡ b → cond b (Some Rules) (fault (lent t)) ≡ None → Passed t n
    go true o e = let z : ◌≡◌ {A = ℕ} 0 1 = cc in absurd (omega arith)
    go false o e =
        let k = kept (lent t) e in
        let first = held_first t.places t.count n good.count in
        record {
          few = ltb-false most_places t.count o;
          kept = e;
          most = few_held t.places t.count n good.count;
          first = first;
          rises = sym (ap (rising 0) first) ∙ kept_rises (lent t) k.ruled;
          sounds = sym (ap (λ (qs : List Place). all (map sound_place qs)) first) ∙ k.sounds;
        }
