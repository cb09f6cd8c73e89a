-- Calls in turn on words and on a record. Assumes nothing.
use mathlib.Core.Path.{refl, ap₂}
use mathlib.Core.List.{List, [], ◌∷◌}
use Rattle.callers.specs.InTurn.{left_by, answers_of, InTurn}

pub in_turn : InTurn
unfolding left_by answers_of
in_turn W S C R Reads Fits answer left told next one w s [] r f = (refl, r)
in_turn W S C R Reads Fits answer left told next one w s (c ∷ cs) r f =
    let rest = in_turn W S C R Reads Fits answer left told next one (left w c) (next s c) cs (one.on w s c r f.0) f.1 in
    (ap₂ (λ (a : R) (l : List R). a ∷ l) (one.same w s c r f.0) rest.0, rest.1)
