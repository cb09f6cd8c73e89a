-- A table by value: 16 places, of which the first `count` are in use. A call answers as on a lent slice of those, and leaves the others alone.
use Rattle.std.specs.Prelude.{ℕ, Bool, cond, List, ◌++◌, ltb, length, take, drop, replicate, Option, Some}
use Rattle.answers.specs.declared.Refusal.{Refusal}
use Rattle.answers.specs.declared.Refusal.TheVariants.{Rules}
use Rattle.format.specs.declared.Wire.{Wire}
use Rattle.sources.specs.declared.Place.{Place}
use Rattle.sources.specs.declared.Table.{Table}
use Rattle.sources.specs.declared.Arrived.TheVariants as arrived
use Rattle.sources.specs.declared.Counted.TheVariants as counted
use Rattle.sources.specs.declared.TableArrived.{TableArrived}
use Rattle.sources.specs.declared.TableCounted.{TableCounted}
use Rattle.sources.specs.Places.{empty_place}
use Rattle.sources.specs.Rules.{most_places, fault}
use Rattle.sources.specs.Answers.{arrive_answer, arrive_places, count_answer, count_places}

abbrev pub empty_table : ℕ → Table
empty_table n = record { places = replicate 16 empty_place; count = n }

-- the places in use
abbrev pub lent : Table → List Place
lent t = take t.count t.places

-- the table with other places in use
abbrev pub with_lent : Table → List Place → Table
with_lent t ps = record { places = ps ++ drop t.count t.places; count = t.count }

-- a count above 16
abbrev pub over : Table → Bool
over t = ltb most_places t.count

-- such a count is 16, first of all; else the refusals of the places in use
unfoldable pub fault_in : Table → Option Refusal
fault_in t = cond (over t) (Some Rules) (fault (lent t))

-- 16 for such a count, and the table as it was; else as on the places in use
unfoldable pub arrived_in : Table → ℕ → Wire → ℕ → TableArrived
arrived_in t ssrc wire mark =
    cond (over t) (record { table = t; answer = arrived.Refused Rules })
    (record { table = with_lent t (arrive_places (lent t) ssrc wire mark); answer = arrive_answer (lent t) ssrc wire mark })

-- 16 for such a count, and the table as it was; else as on the places in use
unfoldable pub counted_in : Table → ℕ → ℕ → List ℕ → TableCounted
counted_in t ssrc width bytes =
    cond (over t) (record { table = t; answer = counted.Refused Rules })
    (record { table = with_lent t (count_places (lent t) ssrc width bytes); answer = count_answer (lent t) ssrc width bytes })

-- ---- the table of a lent slice

-- the table that a slice holds; over 16 places none is taken
unfoldable pub loaded : List Place → Table
loaded ps = cond (ltb most_places (length ps)) (empty_table (length ps)) (with_lent (empty_table (length ps)) ps)
