-- What a report carries of a record (document 01, "Counting arrivals"): highest, ECT(0) and ECT(1) modulo 2^32, and CE, not-ECT, lost and
-- duplicates modulo 65,536.
use Rattle.std.specs.Prelude.{ℕ, ◌%◌, ◌^◌, cond, Result, Ok, Err}
use Rattle.numbers.specs.Integers.{modulo}
use Rattle.source.specs.declared.Source.{Source}
use Rattle.source.specs.Record.{lost, sound}
use Rattle.format.specs.declared.Counts.{Counts}
use Rattle.answers.specs.declared.Refusal.{Refusal}
use Rattle.answers.specs.declared.Refusal.TheVariants.{Malformed}
use Rattle.report.specs.declared.carried.Carried.{Carried}

abbrev pub highest_of : Source → ℕ
highest_of s = modulo (2 ^ 32) s.highest.0

unfoldable pub counts_of : Source → Counts
counts_of s = record {
  ect0 = s.ect0 % 2 ^ 32;
  ect1 = s.ect1 % 2 ^ 32;
  ce = s.ce % 2 ^ 16;
  notect = s.notect % 2 ^ 16;
  lost = modulo (2 ^ 16) (lost s);
  duplicates = s.duplicates % 2 ^ 16;
}

-- both, where the record is sound; else 9
unfoldable pub carried_of : Source → Result Carried Refusal
carried_of s = cond (sound s) (Ok (record { highest = highest_of s; counts = counts_of s })) (Err Malformed)
