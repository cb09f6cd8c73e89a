-- Where an SSRC stands among the held places of a table, and how a record is put there (document 02, L1: "a new one is put in its place and the others
-- keep their contents").
use Rattle.std.specs.Prelude.{ℕ, suc, Bool, true, false, cond, List, [], ◌∷◌, ◌++◌, eqb, ltb, length, take, Option, Some, None}
use Rattle.source.specs.declared.Source.{Source}
use Rattle.source.specs.Record.{fresh_record}
use Rattle.sources.specs.declared.Place.{Place}
use Rattle.sources.specs.Places.{held_of, rest_of}

-- how many of the places in front have a lower SSRC
unfoldable pub stands_at : ℕ → List Place → ℕ
stands_at ssrc [] = 0
stands_at ssrc (p ∷ ps) = cond (ltb p.ssrc ssrc) (suc (stands_at ssrc ps)) 0

-- the record of an SSRC, if a place has it
unfoldable pub found : ℕ → List Place → Option Source
found ssrc [] = None
found ssrc (p ∷ ps) = cond (eqb p.ssrc ssrc) (Some p.source) (found ssrc ps)

abbrev pub is_new : Option Source → Bool
is_new None = true
is_new (Some s) = false

-- that of a new SSRC is fresh
abbrev pub record_in : Option Source → Source
record_in None = fresh_record
record_in (Some s) = s

-- the places with one put among them by its SSRC: in place of the one that has it, or as a new one
unfoldable pub put : Place → List Place → List Place
put p [] = p ∷ []
put p (q ∷ qs) = cond (ltb q.ssrc p.ssrc) (q ∷ put p qs) (p ∷ cond (eqb q.ssrc p.ssrc) qs (q ∷ qs))

-- ---- in a table

-- the record of an SSRC in a table, and whether the SSRC is new to it
abbrev pub record_of : ℕ → List Place → Source
record_of ssrc ps = record_in (found ssrc (held_of ps))

abbrev pub new_to : ℕ → List Place → Bool
new_to ssrc ps = is_new (found ssrc (held_of ps))

-- the table, of as many places as before, with a place put among its held ones
unfoldable pub with_place : Place → List Place → List Place
with_place p ps = take (length ps) (put p (held_of ps) ++ rest_of ps)
