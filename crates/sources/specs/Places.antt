-- The places of a table (document 02, L1): each has an SSRC and a source's record.
use Rattle.std.specs.Prelude.{Bool, cond, ◌&&◌, List, [], ◌∷◌, eqb, leb}
use Rattle.source.specs.Record.{arrivals, fresh_record, fresh, sound}
use Rattle.sources.specs.declared.Place.{Place}

-- a held place has at least one arrival counted
abbrev pub held : Place → Bool
held p = leb 1 (arrivals p.source)

-- the empty place: SSRC 0, the fresh record
abbrev pub empty_place : Place
empty_place = record { ssrc = 0; source = fresh_record }

-- zero in every field, and no number remembered
abbrev pub empty : Place → Bool
empty p = eqb p.ssrc 0 && fresh p.source

abbrev pub sound_place : Place → Bool
sound_place p = sound p.source

-- the held places in front
unfoldable pub held_of : List Place → List Place
held_of [] = []
held_of (p ∷ ps) = cond (held p) (p ∷ held_of ps) []

-- from the first on that is not held
unfoldable pub rest_of : List Place → List Place
rest_of [] = []
rest_of (p ∷ ps) = cond (held p) (rest_of ps) (p ∷ ps)
