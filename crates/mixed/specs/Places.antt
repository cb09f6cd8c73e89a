-- Lines in rising order of SSRC, each line something that has one (document 02, L1: "in rising order of SSRC with no SSRC twice").
use Rattle.std.specs.Prelude.{ℕ, suc, cond, List, [], ◌∷◌, eqb, ltb, Option, Some, None}

-- the line of an SSRC, if there is one
unfoldable pub found_by : {A : Type 0} → (A → ℕ) → ℕ → List A → Option A
found_by ssrc_of ssrc [] = None
found_by ssrc_of ssrc (l ∷ ls) = cond (eqb (ssrc_of l) ssrc) (Some l) (found_by ssrc_of ssrc ls)

-- a line in the place of the one that has its SSRC
unfoldable pub renewed_by : {A : Type 0} → (A → ℕ) → A → List A → List A
renewed_by ssrc_of new [] = []
renewed_by ssrc_of new (l ∷ ls) = cond (eqb (ssrc_of l) (ssrc_of new)) (new ∷ ls) (l ∷ renewed_by ssrc_of new ls)

-- a new line behind those of a lower SSRC
unfoldable pub added_by : {A : Type 0} → (A → ℕ) → A → List A → List A
added_by ssrc_of new [] = new ∷ []
added_by ssrc_of new (l ∷ ls) = cond (ltb (ssrc_of l) (ssrc_of new)) (l ∷ added_by ssrc_of new ls) (new ∷ l ∷ ls)

-- ---- as the loops look for them

-- the place of the first line that has an SSRC; behind all where none has
unfoldable pub place_by : {A : Type 0} → (A → ℕ) → ℕ → List A → ℕ
place_by ssrc_of ssrc [] = 0
place_by ssrc_of ssrc (l ∷ ls) = cond (eqb (ssrc_of l) ssrc) 0 (suc (place_by ssrc_of ssrc ls))

-- how many lines in front have a lower SSRC
unfoldable pub lower_by : {A : Type 0} → (A → ℕ) → ℕ → List A → ℕ
lower_by ssrc_of ssrc [] = 0
lower_by ssrc_of ssrc (l ∷ ls) = cond (ltb (ssrc_of l) ssrc) (suc (lower_by ssrc_of ssrc ls)) 0
