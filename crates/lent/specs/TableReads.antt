-- What the reader of a table's words does before it is known whether they fit: of an SSRC it takes the low 32 bits, and a remembered word above 65,536 as 65,536.
use Rattle.std.specs.Prelude.{List, ℕ, ◌%◌, ◌^◌, get_or, drop}
use Rattle.sources.specs.declared.Place.{Place}
use Rattle.lent.specs.SourceWords.{source_near}
use Rattle.lent.specs.TableWords.{places_by}

abbrev pub place_near : List ℕ → Place
place_near words = record { ssrc = get_or words 0 0 % 2 ^ 32; source = source_near (drop 1 words) }

abbrev pub places_near : ℕ → List ℕ → List Place
places_near = places_by place_near
