-- Calls on lent words, each on the words that the call before left. One law serves them: the words that a call leaves are read by the next as the record that the
-- same call hands back.
use Rattle.std.specs.Prelude.{◌≡◌, List, [], ◌∷◌}

-- what is left after a list of calls, and their answers
unfoldable pub left_by : {W C : Type 0} → (W → C → W) → W → List C → W
left_by next w [] = w
left_by next w (c ∷ cs) = left_by next (next w c) cs

unfoldable pub answers_of : {W C R : Type 0} → (W → C → R) → (W → C → W) → W → List C → List R
answers_of answer next w [] = []
answers_of answer next w (c ∷ cs) = answer w c ∷ answers_of answer next (next w c) cs

-- each call of a list
abbrev pub Every : {C : Type 0} → (C → Type 0) → List C → Type 0
Every P [] = Unit {0}
Every P (c ∷ cs) = P c × Every P cs

-- one call, on words (`answer`, `left`) that are read as a record, and on that record (`told`, `next`), for arguments that fit their types: both answer the same,
-- and the words left are read as the record handed back
pub record ReadOn {W S C R : Type 0} (Reads : W → S → Type 0) (Fits : C → Type 0) (answer : W → C → R) (left : W → C → W) (told : S → C → R) (next : S → C → S) : Type 0 where
  pub same : (w : W) (s : S) (c : C) → Reads w s → Fits c → answer w c ≡ told s c
  pub on : (w : W) (s : S) (c : C) → Reads w s → Fits c → Reads (left w c) (next s c)

-- any list of them
abbrev pub InTurn : Type 1
InTurn =
    (W S C R : Type 0) (Reads : W → S → Type 0) (Fits : C → Type 0) (answer : W → C → R) (left : W → C → W) (told : S → C → R) (next : S → C → S)
    → ReadOn Reads Fits answer left told next → (w : W) (s : S) (cs : List C) → Reads w s → Every Fits cs
    → (answers_of answer left w cs ≡ answers_of told next s cs) × Reads (left_by left w cs) (left_by next s cs)
