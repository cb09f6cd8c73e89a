-- The worked examples, by one computation over the table. Assumes nothing.
use mathlib.Core.Path.{refl}
use lib.Count.{ones, ones_in}
use Rattle.numbers.specs.BigEndian.{bytes}
use Rattle.numbers.specs.Since.{since}
use Rattle.source.specs.Places.{pack, place, marks, places, moved, added}
use Rattle.source.specs.Record.{fresh, has_counted, sound, lost}
use Rattle.source.specs.Distances.{reach_of}
use Rattle.source.specs.Arrivals.{counted, first, ahead, behind, distance, remembering, jumped, arrival}
use Rattle.report.specs.Carried.{counts_of}
use Rattle.report.specs.Reports.{counts_bytes, feedback_of, summary_of}
use Rattle.table.specs.Decimal.{digits_of, decimal, signed}
use Rattle.table.specs.Field.{special, any_special, doubled_byte, doubled, as_field, line}
use Rattle.table.specs.Lines.{row_bytes}
use Rattle.breaker.specs.Limits.{settings_ok, report_ok}
use Rattle.breaker.specs.Windows.{empty_window}
use Rattle.breaker.specs.Soundness as breaker
use Rattle.breaker.specs.Rules.{run_after, window_after, holds, ruled_by, ruled}
use Rattle.breaker.specs.Calls.{start_of, report_of}
use Rattle.breaker.specs.Runs.{called, answers_of}
use Rattle.demands.specs.Examples.{ExamplesHold}

pub examples_hold : ExamplesHold
unfolding ones ones_in bytes since pack place marks places moved added fresh has_counted sound reach_of lost counted first ahead behind distance remembering jumped arrival counts_of counts_bytes feedback_of summary_of digits_of decimal signed special any_special doubled_byte doubled as_field line row_bytes settings_ok report_ok empty_window breaker.sound run_after window_after holds ruled_by ruled start_of report_of called answers_of
examples_hold = refl
