-- A trace that comes in pieces: the blocks of a stretch of it.
use Rattle.std.specs.Prelude.{◌≡◌, List, ◌++◌, ℕ, ◌*◌, ◌/◌, ◌≤◌, ◌<◌, length, get_or}
use Rattle.format.specs.Blocks.{block_bytes}
use Rattle.walk.specs.Blocks.{cut, blocks_of}

-- the blocks of a stretch, the last of which may be short
unfoldable pub blocks_in : List ℕ → List (List ℕ)
blocks_in s = cut (length s) s

-- how many whole blocks a piece has, and these blocks: a rest under 512 bytes is left
unfoldable pub wholes : List ℕ → ℕ
wholes s = length s / block_bytes

unfoldable pub whole_in : List ℕ → List (List ℕ)
whole_in s = cut (wholes s) s

-- a stretch of whole blocks alone
abbrev pub IsWhole : List ℕ → Type 0
IsWhole s = length s ≡ block_bytes * wholes s

-- every number is a byte
abbrev pub Octets : List ℕ → Type 0
Octets s = (i : ℕ) → get_or s i 0 < 256

-- the blocks behind whole blocks
abbrev pub BlocksInPieces : Type 0
BlocksInPieces = (s t : List ℕ) → IsWhole s → blocks_in (s ++ t) ≡ blocks_in s ++ blocks_in t

-- the same of a whole trace: block 0 is that of the first piece, unless the piece is empty
abbrev pub TraceInPieces : Type 0
TraceInPieces =
    (s t : List ℕ) → IsWhole s → 1 ≤ length s
    → ((blocks_of (s ++ t)).zeroth ≡ (blocks_of s).zeroth) × ((blocks_of (s ++ t)).others ≡ (blocks_of s).others ++ blocks_in t)
