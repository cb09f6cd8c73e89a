-- Jumped and restarts of the sources of a run (document 02, L1; they are counted as document 01, "Table", says), in table order beside its places.
use Rattle.std.specs.Prelude.{ℕ, zero, suc, ◌+◌, ◌-◌, min, Bool, cond, ◌&&◌, List, leb, get_or, set}
use Rattle.source.specs.Totals.{most_told}
use Rattle.sources.specs.declared.Stand.{Stand}
use Rattle.sources.specs.declared.runs.Tally.{Tally}
use Rattle.sources.specs.Rules.{most_places}

-- of a source that is new
abbrev pub no_tally : Tally
no_tally = record { jumped = 0; restarts = 0 }

-- with those of a block
abbrev pub raised : Tally → ℕ → ℕ → Tally
raised t jumps restarts = record { jumped = min (t.jumped + jumps) most_told; restarts = min (t.restarts + restarts) most_told }

abbrev pub sound_tally : Tally → Bool
sound_tally t = leb t.jumped most_told && leb t.restarts most_told

-- from place i on, k tallies each take what stood in the one before, the first t
unfoldable pub shifted : ℕ → ℕ → Tally → List Tally → List Tally
shifted i zero t ts = ts
shifted i (suc k) t ts = shifted (suc i) k (get_or ts i no_tally) (set ts i t)

-- moved by the stand that the answer to a block tells: a new source's is put in, and those from there on move by one; one that was there is raised
unfoldable pub tallied : Stand → ℕ → ℕ → List Tally → List Tally
tallied stand jumps restarts ts =
    cond stand.new (shifted stand.at (most_places - stand.at) (raised no_tally jumps restarts) ts)
    (set ts stand.at (raised (get_or ts stand.at no_tally) jumps restarts))
