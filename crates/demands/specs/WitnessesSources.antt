-- The hypotheses of the theorems on a table of several sources can be met: two tables, and calls of both kinds on two sources.
use Rattle.std.specs.Prelude.{◌≡◌, true, List, [], ◌∷◌, ◌++◌, ℕ, ◌^◌, ◌≤◌, ◌<◌, length, None}
use Rattle.sources.specs.declared.Place.{Place}
use Rattle.sources.specs.Places.{empty_place, held_of}
use Rattle.sources.specs.Rules.{fault}
use Rattle.sources.specs.Stands.{new_to}
use Rattle.sources.specs.Witnesses.{some_table, calling, some_bytes}
use Rattle.demands.specs.Calls.{arrivals}
use Rattle.demands.specs.EachSource.{ssrcs_fit, Call, arrives, counts, Brings}
use Rattle.demands.specs.Witnesses.{wrapped, reordered}

-- a record of form 1 at the time 0: the two bytes of its wire number, and the mark
abbrev pub one_record : ℕ → ℕ → ℕ → List ℕ
one_record high low mark = 0 ∷ 0 ∷ 0 ∷ 0 ∷ high ∷ low ∷ mark ∷ 0 ∷ []

-- `wrapped` of source 3: arrivals, one of them with a mark above 3, a block of no records, which 10 refuses, and a block of two; between them a block of source 7,
-- which stands in the table, and a jump of it
abbrev pub mixed_calls : List Call
mixed_calls =
    arrives (calling 3 65530 2) ∷ counts 7 8 some_bytes ∷ arrives (calling 3 4 1) ∷ arrives (calling 7 30000 2) ∷ arrives (calling 3 5 7) ∷ counts 3 8 []
    ∷ counts 3 8 (one_record 255 161 0 ++ one_record 0 4 3)
    ∷ []

-- `reordered` of it in one block, on a table of one place
abbrev pub one_place : List Place
one_place = empty_place ∷ []

abbrev pub one_block : List Call
one_block = counts 3 8 (one_record 255 250 2 ++ one_record 255 161 0 ++ one_record 0 4 3 ++ one_record 0 4 1) ∷ []

pub record MetSources : Type 0 where
  -- CompoundReadsBack, with a held place and an SSRC that none holds
  pub good : fault some_table ≡ None
  pub ssrcs : ssrcs_fit (held_of some_table) ≡ true
  pub sender : 9 < 2 ^ 32
  pub some_held : 0 < length (held_of some_table)
  pub other : new_to 3 some_table ≡ true
  -- EachSource, its part on the compound, and that on the order
  pub brings : Brings some_table mixed_calls 3 wrapped
  pub some_arrive : 1 ≤ length (arrivals wrapped)
  pub again : Brings one_place one_block 3 reordered
