-- How the chain of a call's answers is decided at the stop, and a list of conditions by two of them. Assumes nothing.
use mathlib.Core.Path.{◌≡◌, refl, sym, ◌∙◌, ap, subst⁻¹}
use mathlib.Core.Bool.{Bool, true, false, ◌&&◌, ◌||◌, not, cond, true≢false}
use mathlib.Core.List.{List}
use Prim.Native.Nat.{ℕ}
use lib.ListN.{get_or}
use Rattle.answers.specs.Conditions.{all}
use Rattle.answers.specs.declared.Refusal.TheVariants.{Malformed}
use Rattle.answers.proofs.Conditions.{cond_ends, cond_goes, all_false}
use Rattle.breaker.specs.declared.Reason.{Reason}
use Rattle.breaker.specs.declared.State.{State}
use Rattle.breaker.specs.declared.State.TheVariants.{Running, Stopped}
use Rattle.breaker.specs.declared.Answer.TheVariants.{Stop, Refused}
use Rattle.breaker.specs.declared.Breaker.{Breaker}
use Rattle.breaker.specs.declared.Step.{Step}
use Rattle.breaker.specs.Answers.{answers}
use Rattle.breaker.specs.Calls.{unless_stopped, opened}
use Rattle.breaker.specs.Soundness.{sound}

-- what holds of both outcomes of a test holds of the choice
pub by_test : (Good : Step → Type 0) (t : Bool) (x y : Step) → (t ≡ true → Good x) → (t ≡ false → Good y) → Good (cond t x y)
by_test Good true x y f g = f refl
by_test Good false x y f g = g refl

-- the opening of a call: 9; the stop, given again; or a record that is sound and runs
module _ (b : Breaker) (next : Step) where
  pub malformed_ends : sound b ≡ false → answers (Refused Malformed) b ≡ opened b next
  malformed_ends e = cond_ends _ _ _ _ (ap not e) refl

  pub stop_ends : (reason : Reason) → sound b ≡ true → b.state ≡ Stopped reason → answers (Stop reason) b ≡ opened b next
  stop_ends reason e h = cond_goes _ _ _ _ (ap not e) (subst⁻¹ (λ (s : State). answers (Stop reason) b ≡ unless_stopped s b next) h refl)

  pub open_goes : {z : Step} → (sound b ≡ true) × (b.state ≡ Running) → z ≡ next → z ≡ opened b next
  open_goes {z} o e = cond_goes _ _ _ _ (ap not o.0) (subst⁻¹ (λ (s : State). z ≡ unless_stopped s b next) o.1 e)

-- neither of two conditions holds
pub or_right : (a b : Bool) → (a || b) ≡ false → b ≡ false
or_right true b e = absurd (true≢false e)
or_right false b e = e

-- one of two conditions fails
pub either_false : (bs : List Bool) (i j : ℕ) → (get_or bs i true && get_or bs j true) ≡ false → false ≡ all bs
either_false bs i j e = go (get_or bs i true) refl
  where
    go : (t : Bool) → get_or bs i true ≡ t → false ≡ all bs
    go true q = all_false bs j (sym (ap (λ (t : Bool). t && get_or bs j true) q) ∙ e)
    go false q = all_false bs i q
