-- The parts of a row as the code stores them, for the contracts of private functions alone.
use Rattle.std.specs.Prelude.{ℕ, Bool, true, false, List, [], ◌∷◌, ◌++◌}
use Rattle.table.specs.Decimal.{decimal}
use Rattle.table.specs.Field.{as_field}

-- numbers, each behind a comma
unfoldable pub behind_commas : List ℕ → List ℕ
behind_commas [] = []
behind_commas (n ∷ ns) = (44 ∷ decimal n) ++ behind_commas ns

-- a number by its sign and size
unfoldable pub minus : Bool → ℕ → List ℕ
minus true size = 45 ∷ decimal size
minus false size = decimal size

-- from the comma before lost on
unfoldable pub tail : Bool → ℕ → List ℕ → List ℕ
tail below size back = (44 ∷ minus below size) ++ (behind_commas back ++ (13 ∷ 10 ∷ []))

-- a row
unfoldable pub whole : List ℕ → List ℕ → Bool → ℕ → List ℕ → List ℕ
whole label front below size back = as_field label ++ (behind_commas front ++ tail below size back)
