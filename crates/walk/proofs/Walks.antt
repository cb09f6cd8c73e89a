-- The walk over the blocks, in parts. Assumes nothing.
use Rattle.std.specs.Prelude.{Option, Some, None}
use mathlib.Core.Path.{◌≡◌, refl, sym, ap, ◌∙◌}
use mathlib.Core.List.{[], ◌∷◌, append_assoc}
use Prim.Native.Nat.{ℕ, suc, ◌+◌}
use native.Mathlib.Nat.{add-zero, add-suc, suc-add}
use lib.ListN.{length}
use Rattle.walk.specs.Programs.{Printed, both, Ending, Program, Run, more, onward, turned, walk, closed}
use Rattle.walk.specs.Theorems.{WalkInParts, NothingFollows}

both_assoc : (p q r : Printed) → both (both p q) r ≡ both p (both q r)
both_assoc p q r = λ i. record { out = append_assoc p.out q.out r.out i; err = append_assoc p.err q.err r.err i }

module _ {S : Type 0} where
  pub onward_ended : (r : Run S) (rest : S → Run S) (ending : Ending) → r.ended ≡ Some ending → onward r rest ≡ r
  unfolding onward
  onward_ended r rest ending e = ap (more r rest) e

  -- one rest after another is one rest
  pub onward_assoc : (r : Run S) (f g : S → Run S) → onward (onward r f) g ≡ onward r (λ s. onward (f s) g)
  unfolding onward
  onward_assoc r f g = go r.ended refl
    where
      after : (u : Run S) (e : Option Ending)
          → more (record { state = u.state; printed = both r.printed u.printed; ended = u.ended }) g e
          ≡ more r (λ s. more u g e) None
      after u None = λ i. record {
        state = (g u.state).state;
        printed = both_assoc r.printed u.printed (g u.state).printed i;
        ended = (g u.state).ended;
      }
      after u (Some ending) = refl

      go : (e : Option Ending) → r.ended ≡ e → more (more r f e) g (more r f e).ended ≡ more r (λ s. more (f s) g (f s).ended) e
      go None q = after (f r.state) (f r.state).ended
      go (Some ending) q = ap (more r g) q

  -- the end of a run that goes on is that of its rest, and the end of one that does not is its own
  module _ (p : Program S) (r : Run S) (rest : S → Run S) where
    pub closed_goes : r.ended ≡ None → closed p (onward r rest) ≡ both r.printed (closed p (rest r.state))
    unfolding closed onward
    closed_goes e =
        let s = rest r.state in
        ap (λ (e : Option Ending). both (more r rest e).printed (p.close (more r rest e).state (more r rest e).ended)) e
        ∙ both_assoc r.printed s.printed (p.close s.state s.ended)

    pub closed_ends : (ending : Ending) → r.ended ≡ Some ending → closed p (onward r rest) ≡ closed p r
    closed_ends ending e = ap (closed p) (onward_ended r rest ending e)

pub walk_in_parts : WalkInParts
unfolding walk onward
walk_in_parts S p i s [] back = ap (λ (n : ℕ). walk p n back s) (sym (add-zero i))
walk_in_parts S p i s (b ∷ front) back =
    ap (onward (turned i (p.step i s b))) (λ j t. walk_in_parts S p (suc i) t front back j)
    ∙ sym (onward_assoc (turned i (p.step i s b)) (walk p (suc i) front) (walk p (suc i + length front) back))
    ∙ ap (λ (n : ℕ). onward (walk p i (b ∷ front) s) (walk p n back)) (suc-add i (length front) ∙ sym (add-suc i (length front)))

pub nothing_follows : NothingFollows
nothing_follows S p i s front back ending e = walk_in_parts S p i s front back ∙ onward_ended (walk p i front s) (walk p (i + length front) back) ending e
