-- What came between two reports (document 01, "Counting arrivals"): "the later counter minus the earlier one, modulo its width; it is the true count
-- where that is from 0 to 2^width - 1. Lost can fall: its difference is read as signed, -32,768 to 32,767." Document 02, L5: it holds where no restart
-- lies between.
use Rattle.std.specs.Prelude.{◌≡◌, List, ◌^◌, ◌<◌, ℤ, pos, neg_ℤ, ◌-ℤ◌, ◌≤ℤ◌, ◌<ℤ◌}
use Rattle.numbers.specs.Since.{since, signed}
use Rattle.source.specs.declared.Source.{Source}
use Rattle.source.specs.Blocks.{Packet}
use Rattle.source.specs.Between.{Leads, came, with_mark, arrived_before, is_new, expected}
use Rattle.report.specs.Carried.{counts_of}

-- lost of the calls that came between: the numbers expected since, less the new ones that came
abbrev pub lost_between : Source → List Packet → Source → ℤ
lost_between s ps t = expected t -ℤ expected s -ℤ pos (came is_new s ps)

-- from a report on s and a report on t, the calls `ps` later
pub record Tells (s : Source) (ps : List Packet) (t : Source) : Type 0 where
  pub ect0 : came (with_mark 2) s ps < 2 ^ 32 → since 32 (counts_of t).ect0 (counts_of s).ect0 ≡ came (with_mark 2) s ps
  pub ect1 : came (with_mark 1) s ps < 2 ^ 32 → since 32 (counts_of t).ect1 (counts_of s).ect1 ≡ came (with_mark 1) s ps
  pub ce : came (with_mark 3) s ps < 2 ^ 16 → since 16 (counts_of t).ce (counts_of s).ce ≡ came (with_mark 3) s ps
  pub notect : came (with_mark 0) s ps < 2 ^ 16 → since 16 (counts_of t).notect (counts_of s).notect ≡ came (with_mark 0) s ps
  pub duplicates : came arrived_before s ps < 2 ^ 16 → since 16 (counts_of t).duplicates (counts_of s).duplicates ≡ came arrived_before s ps
  pub lost : neg_ℤ (pos (2 ^ 15)) ≤ℤ lost_between s ps t → lost_between s ps t <ℤ pos (2 ^ 15)
      → signed 16 (since 16 (counts_of t).lost (counts_of s).lost) ≡ lost_between s ps t

abbrev pub TellsBetween : Type 0
TellsBetween = (s t : Source) (ps : List Packet) → Leads s ps t → Tells s ps t
