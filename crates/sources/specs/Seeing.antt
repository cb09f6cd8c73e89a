-- What a walk over the places of a table sees for one SSRC, place by place, and which places a call then changes: what the loops do.
use Rattle.std.specs.Prelude.{ℕ, suc, ◌+◌, Bool, true, false, cond, not, ◌&&◌, ◌||◌, List, [], ◌∷◌, eqb, leb, ltb, take, Option, Some, None, Result}
use Rattle.answers.specs.declared.Refusal.{Refusal}
use Rattle.answers.specs.declared.Refusal.TheVariants.{Malformed, Rules}
use Rattle.source.specs.declared.Source.{Source}
use Rattle.source.specs.Record.{fresh_record}
use Rattle.sources.specs.declared.Place.{Place}
use Rattle.sources.specs.declared.Stand.{Stand}
use Rattle.sources.specs.declared.finding.Seen.{Seen}
use Rattle.sources.specs.Places.{held, empty, sound_place}
use Rattle.sources.specs.Rules.{most_places}
use Rattle.sources.specs.Checks.{checked_by}
use Rattle.sources.specs.Lending.{in_use}

-- ---- one place

abbrev pub seen_first : ℕ → Seen
seen_first count = record {
  count = count;
  held = 0;
  least = 0;
  front = true;
  ruled = leb count most_places;
  sound = true;
  stand = record { at = 0; new = true };
  end = count;
  source = fresh_record;
}

-- where the SSRC stands once place i, which is held, is seen
abbrev pub stand_seen : Seen → ℕ → Place → ℕ → Stand
stand_seen s i p ssrc =
    cond (eqb p.ssrc ssrc) (record { at = i; new = false })
    (cond (ltb p.ssrc ssrc) (record { at = i + 1; new = true })
    s.stand)

-- its record alone moves, or all places from its stand on
abbrev pub end_seen : Seen → ℕ → Place → ℕ → ℕ
end_seen s i p ssrc = cond (eqb p.ssrc ssrc) (i + 1) s.end

abbrev pub source_seen : Seen → Place → ℕ → Source
source_seen s p ssrc = cond (eqb p.ssrc ssrc) p.source s.source

abbrev pub seen_held : Seen → ℕ → Place → ℕ → Seen
seen_held s i p ssrc = record {
  count = s.count;
  held = i + 1;
  least = p.ssrc + 1;
  front = s.front;
  ruled = s.ruled && leb s.least p.ssrc;
  sound = s.sound && sound_place p;
  stand = stand_seen s i p ssrc;
  end = end_seen s i p ssrc;
  source = source_seen s p ssrc;
}

-- from the first place on that is not held, all are empty
abbrev pub seen_other : Seen → Place → Seen
seen_other s p = record {
  count = s.count;
  held = s.held;
  least = s.least;
  front = false;
  ruled = s.ruled && empty p;
  sound = s.sound;
  stand = s.stand;
  end = s.end;
  source = s.source;
}

unfoldable pub seen_next : Seen → ℕ → Place → ℕ → Seen
seen_next s i p ssrc = cond (s.front && held p) (seen_held s i p ssrc) (seen_other s p)

-- ---- all places in use

-- places from i on
unfoldable pub seen_from : ℕ → Seen → ℕ → List Place → Seen
seen_from ssrc s i [] = s
seen_from ssrc s i (p ∷ ps) = seen_from ssrc (seen_next s i p ssrc) (suc i) ps

-- the first `count` places; none where there are over 16
unfoldable pub seen_in : ℕ → ℕ → List Place → Seen
seen_in ssrc count ps = seen_from ssrc (seen_first count) 0 (take (in_use count) ps)

-- ---- what it tells

-- 16, then 9
abbrev pub fault_seen : Seen → Option Refusal
fault_seen s =
    cond (not s.ruled) (Some Rules)
    (cond (not s.sound) (Some Malformed)
    None)

abbrev pub checked_seen : Seen → Result ℕ Refusal
checked_seen s = checked_by (fault_seen s) s.held

-- a place for the SSRC
abbrev pub roomy : Seen → Bool
roomy s = not s.stand.new || ltb s.held s.count
