-- Request L1: the run of ecnstreams over a table, and the one over lines in lent words, print the same.
use Rattle.std.specs.Prelude.{◌≡◌, List, ℕ}
use Rattle.trace.specs.Theorems.{Below}
use Rattle.sources.specs.Streams as table
use Rattle.mixed.specs.Tables as lines

-- for every trace of bytes, refused or not: so what is said of the one program holds of the other
abbrev pub SameRun : Type 0
SameRun = (trace : List ℕ) → Below 256 trace → table.printed trace ≡ lines.printed trace
