-- A report is judged by the fraction that its losses give. Assumes nothing.
use mathlib.Core.Path.{refl, sym, ◌∙◌, ap}
use mathlib.Core.Bool.{Bool, not, cond}
use mathlib.Core.List.{[], ◌∷◌}
use borrow.Author.Tests.{le-leb}
use lib.Dec.{leb, ltb}
use Rattle.answers.specs.declared.Refusal.TheVariants.{Limits, Time}
use Rattle.answers.specs.Conditions.{all}
use Rattle.numbers.specs.Since.{since}
use Rattle.breaker.specs.Answers.{refuses}
use Rattle.breaker.specs.Limits.{within, settings_ok, time_ok, counts_ok, report_ok}
use Rattle.breaker.specs.FractionLost.{counts_fraction}
use Rattle.breaker.specs.Windows.{empty_window}
use Rattle.breaker.specs.Soundness.{sound}
use Rattle.breaker.specs.Rules.{run_after, window_after, holds, ruled_by, ruled}
use Rattle.breaker.specs.Calls.{opened, start_of, report_of}
use Rattle.breaker.specs.Runs.{called, answers_of}
use Rattle.breaker.specs.Theorems.{JudgedByFraction, PlainFraction, MarksStop}
use Rattle.breaker.proofs.FractionLost.{fraction_in_range}

pub judged_by_fraction : JudgedByFraction
unfolding report_ok run_after window_after holds ruled_by ruled report_of
judged_by_fraction b r h =
    ap
    (λ (t : Bool).
    opened b
    (cond (not (all (time_ok r.time ∷ t ∷ leb r.rtt 60000 ∷ within 1 65535 r.size ∷ leb r.rate 125000000 ∷ []))) (refuses Limits b)
    (cond (leb r.time b.last) (refuses Time b)
    (cond (ltb r.time b.heard) (refuses Time b)
    (ruled b r)))))
    (h ∙ sym (le-leb _ _ (fraction_in_range r.loss h)))

pub plain_fraction : PlainFraction
plain_fraction f = (refl, refl)

pub marks_stop : MarksStop
unfolding since settings_ok counts_ok report_ok counts_fraction empty_window sound run_after window_after holds ruled_by ruled start_of report_of called answers_of
marks_stop = record { unmarked = refl; marked = refl }
