-- What holds of every trace and every program.
use Rattle.std.specs.Prelude.{◌≡◌, ◌⊎◌, List, [], ◌∷◌, ◌++◌, ℕ, ◌+◌, ◌≤◌, length, Some}
use Rattle.format.specs.Blocks.{block_bytes}
use Rattle.walk.specs.Blocks.{blocks_of, joined}
use Rattle.walk.specs.Programs.{Ending, Program, onward, walk}

-- each block but the last has 512 bytes, and the last has 1 to 512
abbrev pub Whole : List (List ℕ) → Type 0
Whole [] = Unit {0}
Whole (b ∷ []) = (1 ≤ length b) × (length b ≤ block_bytes)
Whole (b ∷ c ∷ bs) = (length b ≡ block_bytes) × Whole (c ∷ bs)

-- joining a trace's blocks gives the trace back; block 0 is short only where it is all of it
pub record Cut (trace : List ℕ) : Type 0 where
  pub back : (blocks_of trace).zeroth ++ joined (blocks_of trace).others ≡ trace
  pub zeroth : (length (blocks_of trace).zeroth ≡ block_bytes) ⊎ ((blocks_of trace).others ≡ [])
  pub others : Whole (blocks_of trace).others

abbrev pub BlocksJoin : Type 0
BlocksJoin = (trace : List ℕ) → Cut trace

-- the walk over two lists of blocks is the second after the first
abbrev pub WalkInParts : Type 1
WalkInParts =
    (S : Type 0) (p : Program S) (i : ℕ) (s : S) (front back : List (List ℕ))
    → walk p i (front ++ back) s ≡ onward (walk p i front s) (walk p (i + length front) back)

-- nothing follows an end
abbrev pub NothingFollows : Type 1
NothingFollows =
    (S : Type 0) (p : Program S) (i : ℕ) (s : S) (front back : List (List ℕ)) (ending : Ending)
    → (walk p i front s).ended ≡ Some ending → walk p i (front ++ back) s ≡ walk p i front s
