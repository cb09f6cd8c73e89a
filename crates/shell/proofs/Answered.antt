-- What a call answered, from the bits of its numbers, and what it leaves. Assumes nothing.
use mathlib.Core.Path.{◌≡◌, refl, sym, ◌∙◌}
use mathlib.Core.Bool.{Bool, true, false, cond}
use Prim.Native.Nat.{ℕ, zero, suc, ◌-◌, ◌^◌, ◌<◌, ◌≤◌, min}
use native.Mathlib.Omega.{arith}
use borrow.Author.Tests.{eq-eqb, ne_eqb, ltb-true}
use lib.Dec.{T, eqb}
use lib.IntN.{ℤ, pos, negsuc, nat_abs}
use lib.Signed.{lt_z, non_neg}
use mir.Syntax.{w32, w64}
use mir.Val.{Fits, SFits, of_z, to_z}
use mir.ValLaws.{to_z-of_z}
use Rattle.answers.proofs.Conditions.{or_ends, or_goes}
use Rattle.numbers.specs.Integers.{eq_z}
use Rattle.shell.specs.Tries.{is_passing, tries_after, retried_of, judged_of}
use Rattle.shell.specs.declared.retries.Outcome.{Outcome}
use Rattle.shell.specs.declared.retries.Outcome.TheVariants.{Bytes, Nothing, Again, Failed}

-- ---- numbers from their bits

-- a signed number is k if its bits are
pub bits_are : (z : ℤ) (k : ℕ) → k < 2147483648 → SFits w32 z → eqb (of_z w32 z) k ≡ eq_z z (pos k)
bits_are (pos n) k h f = refl
bits_are (negsuc n) k h f = ne_eqb (2 ^ 32 - suc n) k (λ e. omega (arith, f.sfits))

pub above : (n : ℕ) → eqb n 0 ≡ false → 0 < n
above zero e = let z : ◌≡◌ {A = ℕ} 0 1 = cc in absurd (omega arith)
above (suc n) e = omega arith

-- ---- the tries left

pub tries_none : (left : ℕ) (error : ℤ) → left < 2 → 0 ≡ tries_after left error
unfolding tries_after
tries_none left error h = go (is_passing error)
  where
    go : (t : Bool) → 0 ≡ cond t (left - 1) 0
    go true = omega arith
    go false = refl

pub tries_one : (left : ℕ) (error : ℤ) → is_passing error ≡ true → left - 1 ≡ tries_after left error
unfolding tries_after
tries_one left error e = rw e

pub tries_ended : (left : ℕ) (error : ℤ) → is_passing error ≡ false → 0 ≡ tries_after left error
unfolding tries_after
tries_ended left error e = rw e

tries_fewer : (left : ℕ) (error : ℤ) → tries_after left error ≤ left - 1
unfolding tries_after
tries_fewer left error = go (is_passing error)
  where
    go : (t : Bool) → cond t (left - 1) 0 ≤ left - 1
    go true = omega arith
    go false = omega arith

module _ (error : ℤ) (fits : SFits w32 error) where
  pub passes_interrupted : of_z w32 error ≡ 4 → is_passing error ≡ true
  unfolding is_passing
  passes_interrupted e = sym (or_ends (eq_z error (pos 4)) (eq_z error (pos 11)) (sym (bits_are error 4 (omega arith) fits) ∙ eq-eqb (of_z w32 error) 4 e))

  is_not : (k : ℕ) → k < 2147483648 → (of_z w32 error ≡ k → ⊥) → eq_z error (pos k) ≡ false
  is_not k h n = sym (bits_are error k h fits) ∙ ne_eqb (of_z w32 error) k n

  pub passes_unready : (of_z w32 error ≡ 4 → ⊥) → of_z w32 error ≡ 11 → is_passing error ≡ true
  unfolding is_passing
  passes_unready n e =
      let is : eq_z error (pos 11) ≡ true = sym (bits_are error 11 (omega arith) fits) ∙ eq-eqb (of_z w32 error) 11 e in
      sym (or_goes (eq_z error (pos 4)) (eq_z error (pos 11)) true (is_not 4 (omega arith) n) (sym is))

  pub passes_not : (of_z w32 error ≡ 4 → ⊥) → (of_z w32 error ≡ 11 → ⊥) → is_passing error ≡ false
  unfolding is_passing
  passes_not n m =
      sym (or_goes (eq_z error (pos 4)) (eq_z error (pos 11)) false (is_not 4 (omega arith) n) (sym (is_not 11 (omega arith) m)))

-- ---- what a call did

pub judged_error : (answer error : ℤ) (left n : ℕ) → SFits w64 answer → lt_z (to_z w64 (of_z w64 answer)) (pos 0) ≡ true
    → retried_of (tries_after left error) ≡ judged_of answer error left n
unfolding judged_of
judged_error (pos k) error left n f h = let no = ltb-true k 0 (rw (to_z-of_z w64 (pos k) f) at h) in absurd (omega arith)
judged_error (negsuc k) error left n f h = refl

pub judged_nothing : (answer error : ℤ) (left n : ℕ) → SFits w64 answer → of_z w64 answer ≡ 0 → Nothing ≡ judged_of answer error left n
unfolding judged_of
judged_nothing (pos k) error left n f e = rw (eq-eqb k 0 e)
judged_nothing (negsuc k) error left n f e = absurd (omega (arith, f.sfits))

pub judged_bytes : (answer error : ℤ) (left n k : ℕ) → SFits w64 answer → lt_z (to_z w64 (of_z w64 answer)) (pos 0) ≡ false → (of_z w64 answer ≡ 0 → ⊥)
    → k ≡ min (nat_abs (to_z w64 (of_z w64 answer))) n → Bytes k ≡ judged_of answer error left n
unfolding judged_of
judged_bytes (pos a) error left n k f h m e = rw (ne_eqb a 0 m, e, to_z-of_z w64 (pos a) f)
judged_bytes (negsuc a) error left n k f h m e = let no : ◌≡◌ {A = ℕ} 0 1 = cc (rw (to_z-of_z w64 (negsuc a) f) at h) in absurd (omega arith)

pub counts : (answer : ℤ) → SFits w64 answer → lt_z (to_z w64 (of_z w64 answer)) (pos 0) ≡ false
    → T (non_neg (to_z w64 (of_z w64 answer))) × Fits w64 (nat_abs (to_z w64 (of_z w64 answer)))
counts (pos k) f h = rw (to_z-of_z w64 (pos k) f) (tt, record { fits = omega (arith, f.sfits) })
counts (negsuc k) f h = let no : ◌≡◌ {A = ℕ} 0 1 = cc (rw (to_z-of_z w64 (negsuc k) f) at h) in absurd (omega arith)

-- a call that was to move n bytes moved one at least and n at most, or none; or a try at least is left, and fewer than before
abbrev pub Fair : ℕ → ℕ → Outcome → Type 0
Fair n left (Bytes k) = (0 < k) × (k ≤ n)
Fair n left Nothing = Unit {0}
Fair n left (Again k) = (0 < k) × (k < left)
Fair n left Failed = Unit {0}

retried_fair : (n left k : ℕ) → k ≤ left - 1 → Fair n left (retried_of k)
unfolding retried_of
retried_fair n left k h = go (eqb k 0) refl
  where
    go : (t : Bool) → eqb k 0 ≡ t → Fair n left (cond t Failed (Again k))
    go true e = tt
    go false e = let some = above k e in (omega arith, omega arith)

pub judged_fair : (answer error : ℤ) (left n : ℕ) → 0 < n → Fair n left (judged_of answer error left n)
unfolding judged_of
judged_fair (pos k) error left n h = go (eqb k 0) refl
  where
    go : (t : Bool) → eqb k 0 ≡ t → Fair n left (cond t Nothing (Bytes (min k n)))
    go true e = tt
    go false e = let some = above k e in (omega arith, omega arith)
judged_fair (negsuc k) error left n h = retried_fair n left (tries_after left error) (tries_fewer left error)

pub given_fair : {o : Outcome} (answer error : ℤ) (left n : ℕ) → 0 < n → o ≡ judged_of answer error left n → Fair n left o
given_fair answer error left n h e = rw e (judged_fair answer error left n h)
