-- The hypotheses of the theorems on the breaker and on the roots are met, and each theorem at these values. Assumes nothing.
use mathlib.Core.Path.{refl}
use mathlib.Core.Bool.{true}
use mathlib.Core.List.{[], ◌∷◌}
use native.Mathlib.Omega.{arith}
use lib.Dec.{leb→le}
use lib.Signed.{le_z_yes}
use Rattle.answers.specs.declared.Refusal.TheVariants.{Time}
use Rattle.numbers.specs.Since.{since}
use Rattle.roots.specs.Fractions.{whole, ◌times◌}
use Rattle.roots.specs.Theorems.{seconds}
use Rattle.roots.proofs.Floors.{one_floor, never_fall}
use Rattle.roots.proofs.Losses.{greater_loss_triggers, loss_is_floor, loss_grows, loss_at_most}
use Rattle.roots.proofs.Sizes.{factors_fit}
use Rattle.roots.proofs.Equation.{squared_throughput}
use Rattle.roots.proofs.Exact.{exact_triggers_too, full_example}
use Rattle.breaker.specs.Calls.{preset, start_of, report_of, timed, tick_of, heard_of}
use Rattle.breaker.specs.Limits.{settings_ok, counts_ok, report_ok}
use Rattle.breaker.specs.Rules.{run_after, window_after, holds, ruled_by, ruled}
use Rattle.breaker.specs.Runs.{tick, called, answers_of, after}
use Rattle.breaker.specs.WithoutHeard.{sound_before}
use Rattle.breaker.specs.Soundness.{sound}
use Rattle.breaker.specs.Windows.{empty_window}
use Rattle.breaker.specs.declared.Loss.TheVariants.{Counts}
use Rattle.breaker.specs.declared.Reason.TheVariants.{Timeout}
use Rattle.breaker.specs.FullEquation.{settings_c10, window_c10, report_c10}
use Rattle.breaker.specs.Theorems.{with_loss}
use Rattle.breaker.proofs.FractionLost.{fraction_in_range, more_is_no_less, all_marked}
use Rattle.breaker.proofs.Judged.{judged_by_fraction}
use Rattle.breaker.proofs.FullEquation.{setting_off, preset_off, setting_on, triggers_exact_too, never_without_loss, reacts_earlier}
use Rattle.breaker.proofs.HeardPackets.{heard_holds, heard_unseen, long_is_cut}
use Rattle.breaker.proofs.AsBefore.{call_as_before, run_as_before}
use Rattle.breaker.proofs.Runs.{sound_start, sound_call, sound_run_lem, typed_call, refused_keeps, stays_stopped}
use Rattle.demands.specs.WitnessesBreaker.{reported, not_later, heard_on, much_later, fewer, more, three_eighths, half, MetBreaker}

pub met_breaker : MetBreaker
unfolding since settings_ok counts_ok report_ok empty_window sound run_after window_after holds ruled_by ruled start_of report_of timed tick_of heard_of called answers_of after sound_before
met_breaker = record {
  starts = refl;
  is_sound_lem = refl;
  typed = record { number = omega arith; places = refl };
  number_fits_lem = refl;
  refuses = refl;
  stops = refl;
  hears = refl;
  untimed_reported = refl;
  untimed_heard = refl;
  unheard = record { is_sound = refl; held = refl; places = refl };
  none_heard = refl;
  long = leb→le _ _ tt;
  short = leb→le _ _ tt;
  counts_fit_lem = refl;
  more_lost = le_z_yes tt;
  floor = record { low = omega arith; next = omega arith };
  root = refl;
}

used : Unit {0}
used =
    let m = met_breaker in
    let start = sound_start preset 0 m.starts in
    let runs = sound_run_lem preset 0 (not_later ∷ []) m.starts in
    let call = sound_call reported not_later m.typed.places m.is_sound_lem in
    let typed = typed_call reported not_later m.typed m.number_fits_lem in
    let keeps = refused_keeps reported not_later Time m.refuses in
    let stops = stays_stopped reported (tick 20001) Timeout (not_later ∷ []) m.stops in
    let holds = heard_holds reported 6000 m.hears in
    let unseen = heard_unseen reported 5001 6000 heard_on m.untimed_reported m.untimed_heard in
    let before = call_as_before reported not_later refl m.unheard in
    let run_before = run_as_before preset 0 (not_later ∷ []) m.starts m.none_heard in
    let long = (long_is_cut reported much_later).long m.long in
    let short = (long_is_cut reported (report_c10 31607)).short m.short in
    let range = fraction_in_range (Counts more) m.counts_fit_lem in
    let judged = judged_by_fraction reported (with_loss (report_c10 31607) (Counts more)) m.counts_fit_lem in
    let no_less = more_is_no_less fewer more refl m.more_lost (omega arith) in
    let all = all_marked 1000 (omega arith) in
    let off = setting_off preset window_c10 (report_c10 31607) preset_off in
    let on = setting_on (settings_c10 true) window_c10 (report_c10 31607) refl in
    let exact = triggers_exact_too (settings_c10 true) window_c10 (report_c10 31607) refl reacts_earlier.triggers in
    let quiet = never_without_loss (settings_c10 true) (record { used = 1; intervals = record { length = 5000; fraction = 0 } ∷ [] }) (report_c10 31607) refl (omega arith) in
    tt

-- C10's loss with the full equation (`full_example`), and the limits of a report
roots_used : Unit {0}
roots_used =
    let m = met_breaker in
    let floor = one_floor (record { top = 512; bottom = 3072 }) 428079 m.floor in
    let fall = never_fall 256 512 (omega arith) in
    let squared = squared_throughput (whole 1000) (seconds 100) (whole 4 times seconds 100) (whole 1) three_eighths half (omega arith) m.root in
    let exact = exact_triggers_too 31607 100 640000 1000 10000 full_example.4 in
    let greater = greater_loss_triggers 31607 100 256 512 1000 (omega arith) full_example.4 in
    let grows = loss_grows 640000 700000 10000 (omega arith) in
    let most = loss_at_most 640000 10000 (omega arith) in
    let whole = loss_is_floor 640000 10000 (omega arith) in
    let fit = factors_fit 125000000 60000 1024 65535 (omega arith) (omega arith) (omega arith) (omega arith) in
    tt
