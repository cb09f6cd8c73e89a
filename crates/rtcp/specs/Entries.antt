-- Entries of one size, each with the SSRC it is about in its first word: report blocks and summary entries.
use Rattle.std.specs.Prelude.{ℕ, zero, suc, ◌+◌, cond, List, eqb, Option, Some, None}
use Rattle.numbers.specs.BigEndian.{word}

-- where the first of `count` entries of `size` bytes from `at` on stands that is about `media`
unfoldable pub entry_for : ℕ → ℕ → List ℕ → ℕ → ℕ → Option ℕ
entry_for size zero b at media = None
entry_for size (suc count) b at media = cond (eqb (word 4 b at) media) (Some at) (entry_for size count b (at + size) media)
