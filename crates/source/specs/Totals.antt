-- A source's record with its jumps and restarts (document 01, "Table": "jumped counts those with 7, and stays at 2^48"; document 02, L5: "restarts,
-- counted like jumped").
use Rattle.std.specs.Prelude.{ℕ, ◌+◌, ◌^◌, min}
use Rattle.source.specs.declared.BlockCount.{BlockCount}
use Rattle.source.specs.declared.BlockCount.TheVariants.{Counted, Refused}
use Rattle.source.specs.declared.Totals.{Totals}
use Rattle.source.specs.Record.{fresh_record}

-- the most jumps, and the most restarts, that are told
abbrev pub most_told : ℕ
most_told = 2 ^ 48

-- before any arrival
abbrev pub fresh_totals : Totals
fresh_totals = record { source = fresh_record; jumped = 0; restarts = 0 }

-- with the count of a block; a refused one changes nothing
abbrev pub with_block : Totals → BlockCount → Totals
with_block t (Counted s jumps restarts) = record { source = s; jumped = min (t.jumped + jumps) most_told; restarts = min (t.restarts + restarts) most_told }
with_block t (Refused refusal s) = t
