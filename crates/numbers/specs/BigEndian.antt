-- Big-endian numbers (document 01, "Packets"), over the width in bytes.
use Rattle.std.specs.Prelude.{ℕ, zero, suc, ◌+◌, ◌*◌, ◌/◌, ◌%◌, List, [], ◌∷◌, ◌++◌, slice_index}

-- the number in the `width` bytes of s from `at` on; a byte past the end counts as 0
unfoldable pub word : ℕ → List ℕ → ℕ → ℕ
word zero s at = 0
word (suc width) s at = word width s at * 256 + slice_index s (at + width)

-- the `width` bytes of n, or of its low digits where it has more
unfoldable pub bytes : ℕ → ℕ → List ℕ
bytes zero n = []
bytes (suc width) n = bytes width (n / 256) ++ (n % 256 ∷ [])
