-- A text in parts that follow each other, with the places where they end: how the code keeps the meanings. No public call cites this file.
use Rattle.std.specs.Prelude.{Bool, true, ◌&&◌, List, [], ◌∷◌, ℕ, suc, ◌-◌, leb, take, drop, get_or}

-- part n
unfoldable pub part_of : List ℕ → List ℕ → ℕ → List ℕ
part_of ends text n = take (get_or ends (suc n) 0 - get_or ends n 0) (drop (get_or ends n 0) text)

-- each part ends where it begins or after it, and inside the text
unfoldable pub parts_fit : List ℕ → ℕ → Bool
parts_fit [] size = true
parts_fit (a ∷ []) size = true
parts_fit (a ∷ b ∷ ends) size = leb a b && (leb b size && parts_fit (b ∷ ends) size)

-- the parts in order
unfoldable pub parts_of : List ℕ → List ℕ → List (List ℕ)
parts_of [] text = []
parts_of (a ∷ []) text = []
parts_of (a ∷ b ∷ ends) text = take (b - a) (drop a text) ∷ parts_of (b ∷ ends) text
