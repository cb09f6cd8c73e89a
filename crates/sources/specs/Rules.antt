-- The rules of a table, and the refusals that come before a call's own (document 02, L1): 16, table against these rules or over 16 places; 9, some held
-- record is malformed.
use Rattle.std.specs.Prelude.{ℕ, ◌+◌, Bool, true, cond, not, ◌&&◌, List, [], ◌∷◌, map, leb, length, Option, Some, None}
use Rattle.answers.specs.Conditions.{all}
use Rattle.answers.specs.declared.Refusal.{Refusal}
use Rattle.answers.specs.declared.Refusal.TheVariants.{Malformed, Rules}
use Rattle.sources.specs.declared.Place.{Place}
use Rattle.sources.specs.Places.{empty, sound_place, held_of, rest_of}

-- the most places of a table
abbrev pub most_places : ℕ
most_places = 16

-- rising order of SSRC, none twice: the first is at least `least`, and each other above the one before
unfoldable pub rising : ℕ → List Place → Bool
rising least [] = true
rising least (p ∷ ps) = leb least p.ssrc && rising (p.ssrc + 1) ps

-- at most 16 places; the held ones first, in rising order of SSRC; the unused ones empty and last
abbrev pub rules : List Place → List Bool
rules ps =
    leb (length ps) most_places
    ∷ rising 0 (held_of ps)
    ∷ all (map empty (rest_of ps))
    ∷ []

-- every held record is sound
abbrev pub all_sound : List Place → Bool
all_sound ps = all (map sound_place (held_of ps))

-- 16, then 9
unfoldable pub fault : List Place → Option Refusal
fault ps =
    cond (not (all (rules ps))) (Some Rules)
    (cond (not (all_sound ps)) (Some Malformed)
    None)
