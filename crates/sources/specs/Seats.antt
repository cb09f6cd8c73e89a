-- Where an SSRC stands, and how a record is put there, place by place: what the loops do.
use Rattle.std.specs.Prelude.{ℕ, zero, suc, List, get_or, set}
use Rattle.sources.specs.declared.Place.{Place}
use Rattle.sources.specs.declared.Stand.{Stand}
use Rattle.sources.specs.Places.{empty_place}
use Rattle.sources.specs.Stands.{stands_at, found, is_new}

-- where an SSRC stands among held places
abbrev pub stand_of : ℕ → List Place → Stand
stand_of ssrc ps = record { at = stands_at ssrc ps; new = is_new (found ssrc ps) }

-- from place i on, k places each take what stood in the one before, the first p
unfoldable pub pushed : ℕ → ℕ → Place → List Place → List Place
pushed i zero p ps = ps
pushed i (suc k) p ps = pushed (suc i) k (get_or ps i empty_place) (set ps i p)
