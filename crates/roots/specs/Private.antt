-- What the private functions promise. No public call and no theorem cites this file.
use Rattle.std.specs.Prelude.{◌≡◌, Bool, true, ◌&&◌, List, [], ◌∷◌, ℕ, suc, ◌+◌, ◌*◌, ◌^◌, min, leb, ltb}
use Rattle.roots.specs.Fractions.{Fraction}
use Rattle.roots.specs.Roots.{scaled_root}

-- the rule over squares, computed
abbrev pub is_floor : Fraction → ℕ → Bool
is_floor x r = leb (r * r * x.bottom) (2 ^ 40 * x.top) && ltb (2 ^ 40 * x.top) ((r + 1) * (r + 1) * x.bottom)

-- the same at each entry of a table of the scaled roots of top · n / bottom, n counted up
abbrev pub keeps_rule : ℕ → ℕ → ℕ → List ℕ → Bool
keeps_rule top bottom n [] = true
keeps_rule top bottom n (r ∷ rest) = is_floor (record { top = top * n; bottom = bottom }) r && keeps_rule top bottom (suc n) rest

-- what a table gives for n, if it keeps the rule from 1 on: the scaled root
abbrev pub GivesRoot : List ℕ → ℕ → ℕ → Type 0
GivesRoot table n r =
    (top bottom : ℕ) → keeps_rule top bottom 1 table ≡ true → r ≡ scaled_root (record { top = top * min n 1024; bottom = bottom })
