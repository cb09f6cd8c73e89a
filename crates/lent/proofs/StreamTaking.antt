-- Which words a run of ecnstreams is taken from. Assumes nothing.
use Rattle.std.specs.Prelude.{Option, Some, None, Ok, Err}
use mathlib.Core.Path.{◌≡◌, refl}
use mathlib.Core.Bool.{Bool, true, false, cond, not}
use mathlib.Core.List.{List}
use Prim.Native.Nat.{ℕ, ◌*◌, ◌≤◌}
use native.Mathlib.Omega.{arith}
use borrow.Author.Tests.{eqb-true, leb-true}
use lib.ListN.{length}
use Rattle.answers.specs.Conditions.{all}
use Rattle.answers.specs.declared.Refusal.{Refusal}
use Rattle.answers.specs.declared.Refusal.TheVariants.{Malformed, Rules}
use Rattle.answers.proofs.Conditions.{all_true}
use Rattle.sources.specs.declared.runs.Run.{Run}
use Rattle.sources.specs.Rules.{most_places}
use Rattle.lent.specs.StreamWords.{held_in, run_of, are_words, are_ruled, are_fit, words_fault, loaded_by, loaded}

-- ---- what is given

module _ (words ws : List ℕ) where
  pub outside : all (are_words words ws) ≡ false → Err Malformed ≡ loaded words ws
  unfolding loaded words_fault
  outside e = rw e

  module _ (e : all (are_words words ws) ≡ true) where
    pub three : length words ≡ 3
    three = eqb-true (length words) 3 (all_true (are_words words ws) 0 e)

    pub long : 208 ≤ length ws
    long = leb-true 208 (length ws) (all_true (are_words words ws) 1 e)

    pub few : held_in words ≤ 16
    few = leb-true (held_in words) most_places (all_true (are_words words ws) 2 e)

    pub enough : 13 * held_in words ≤ length ws
    enough = omega (arith, long, few)

    pub unruled : all (are_ruled (held_in words) ws) ≡ false → Err Rules ≡ loaded words ws
    unfolding loaded words_fault
    unruled r = rw (e, r)

    pub unfit : all (are_ruled (held_in words) ws) ≡ true → all (are_fit words ws) ≡ false → Err Malformed ≡ loaded words ws
    unfolding loaded words_fault
    unfit r f = rw (e, r, f)

    pub fitting : {run : Run} → all (are_ruled (held_in words) ws) ≡ true → all (are_fit words ws) ≡ true → run ≡ run_of words ws → Ok run ≡ loaded words ws
    unfolding loaded words_fault
    fitting r f h = rw (e, r, f) (λ i. Ok (h i))

-- ---- what is known of words by what was given

pub record Sound (words ws : List ℕ) : Type 0 where
  pub whole : all (are_words words ws) ≡ true
  pub ruled : all (are_ruled (held_in words) ws) ≡ true
  pub fit : all (are_fit words ws) ≡ true

module _ (words ws : List ℕ) where
  pub none_sound : words_fault words ws ≡ None → Sound words ws
  unfolding words_fault
  none_sound h = go (all (are_words words ws)) refl (all (are_ruled (held_in words) ws)) refl (all (are_fit words ws)) refl h
    where
      go : (a : Bool) → all (are_words words ws) ≡ a → (b : Bool) → all (are_ruled (held_in words) ws) ≡ b → (c : Bool) → all (are_fit words ws) ≡ c
          → cond (not a) (Some Malformed) (cond (not b) (Some Rules) (cond (not c) (Some Malformed) None)) ≡ None → Sound words ws
      go true ra true rb true rc h = record { whole = ra; ruled = rb; fit = rc }
      go true ra true rb false rc h = let z : ◌≡◌ {A = ℕ} 0 1 = cc in absurd (omega arith)
      go true ra false rb c rc h = let z : ◌≡◌ {A = ℕ} 0 1 = cc in absurd (omega arith)
      go false ra b rb c rc h = let z : ◌≡◌ {A = ℕ} 0 1 = cc in absurd (omega arith)

  pub taken : {run : Run} → loaded words ws ≡ Ok run → (words_fault words ws ≡ None) × (run ≡ run_of words ws)
  unfolding loaded
  taken {run} h = go (words_fault words ws) refl h
    where
      go : (f : Option Refusal) → words_fault words ws ≡ f → loaded_by f (run_of words ws) ≡ Ok run → (f ≡ None) × (run ≡ run_of words ws)
      go None e h = (refl, cc)
      go (Some r) e h = let z : ◌≡◌ {A = ℕ} 0 1 = cc in absurd (omega arith)

  pub not_taken : {r : Refusal} → loaded words ws ≡ Err r → words_fault words ws ≡ Some r
  unfolding loaded
  not_taken {r} h = go (words_fault words ws) h
    where
      go : (f : Option Refusal) → loaded_by f (run_of words ws) ≡ Err r → f ≡ Some r
      go (Some q) h = cc
      go None h = let z : ◌≡◌ {A = ℕ} 0 1 = cc in absurd (omega arith)
