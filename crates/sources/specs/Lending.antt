-- What the functions between a table and a lent slice do, place by place.
use Rattle.std.specs.Prelude.{ℕ, cond, ltb, set}
use Rattle.sources.specs.declared.Place.{Place}
use Rattle.sources.specs.declared.Table.{Table}
use Rattle.sources.specs.Rules.{most_places}

-- how many places are in use: none where there are over 16
unfoldable pub in_use : ℕ → ℕ
in_use count = cond (ltb most_places count) 0 count

abbrev pub placed_in : Table → ℕ → Place → Table
placed_in t i p = record { places = set t.places i p; count = t.count }
