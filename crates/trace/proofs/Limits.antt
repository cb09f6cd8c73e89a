-- A list whose every element passes a test against a limit. Assumes nothing.
use Rattle.std.proofs.Common.{◌≡◌, ℕ, zero, suc, ◌<◌, true, ltb, List, [], ◌∷◌, ltb-true}
use Rattle.answers.proofs.Conditions.{and_left, and_right}
use Rattle.trace.specs.Contents.{every}
use Rattle.trace.specs.Theorems.{Below}

pub below : (limit : ℕ) (s : List ℕ) → 0 < limit → every (λ c. ltb c limit) s ≡ true → Below limit s
unfolding every
below limit [] h e i = h
below limit (c ∷ s) h e zero = ltb-true c limit (and_left (ltb c limit) (every (λ c. ltb c limit) s) e)
below limit (c ∷ s) h e (suc i) = below limit s h (and_right (ltb c limit) (every (λ c. ltb c limit) s) e) i
