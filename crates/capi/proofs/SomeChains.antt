-- Lists of calls that meet what the theorems ask, computed, and each theorem used on them. Assumes nothing.
use mathlib.Core.Path.{refl}
use native.Mathlib.Omega.{arith}
use lib.Count.{ones, ones_in}
use Rattle.numbers.specs.Since.{since, signed}
use Rattle.source.specs.Places.{pack, place, marks, places, moved, added}
use Rattle.source.specs.Record as source
use Rattle.source.specs.Distances.{reach_of}
use Rattle.source.specs.Arrivals.{counted, first, ahead, behind, distance, remembering, jumped, arrival}
use Rattle.breaker.specs.Limits.{settings_ok, report_ok}
use Rattle.breaker.specs.Windows.{empty_window}
use Rattle.breaker.specs.Soundness.{sound}
use Rattle.breaker.specs.Rules.{run_after, window_after, holds, ruled_by, ruled}
use Rattle.breaker.specs.Calls.{preset, start_of, report_of, timed, tick_of, heard_of}
use Rattle.breaker.specs.Runs.{called, after}
use Rattle.lent.specs.SourceWords.{source_with, source_words}
use Rattle.lent.specs.BreakerWords.{interval_words, breaker_words, intervals_of, settings_of, window_of, breaker_of, words_fit}
use Rattle.capi.specs.OneSource.{arrive_answer, arrive_words}
use Rattle.capi.specs.BreakerCalls.{call_answer, call_left}
use Rattle.capi.specs.Chains.{arrive_chain, arrive_codes, after_arrivals, some_arrivals, SomeArrivals, breaker_chain}
use Rattle.capi.specs.Chains.{breaker_codes, report_at, some_calls, started, reported, stopped, SomeCalls}
use Rattle.capi.proofs.SourceChains.{arrives_in_turn, arrives_from_zero}
use Rattle.capi.proofs.BreakerChains.{unchanged_leaves, next_is_record, called_in_turn, called_from_start}

pub some_arrivals_lem : SomeArrivals
unfolding ones ones_in pack place marks places moved added source.fresh source.has_counted source.sound reach_of counted first ahead behind distance
    remembering jumped arrival signed source_with source_words arrive_answer arrive_words arrive_chain arrive_codes after_arrivals
some_arrivals_lem = record { fit = refl; answers = refl; left = refl; sound = refl; typed = refl }

pub some_calls_lem : SomeCalls
unfolding since settings_ok report_ok empty_window sound run_after window_after holds ruled_by ruled start_of report_of timed tick_of heard_of called
    interval_words breaker_words intervals_of settings_of window_of breaker_of words_fit call_answer call_left breaker_chain breaker_codes after
some_calls_lem =
    record { begun = refl; fit = refl; answers = refl; left = refl; typed = record { number = omega arith; places = refl }; stop = refl; same = refl }

used : Unit {0}
used =
    let arrives = arrives_in_turn (after_arrivals source.fresh_record some_arrivals) some_arrivals some_arrivals_lem.sound some_arrivals_lem.typed
    some_arrivals_lem.fit in
    let from_zero = arrives_from_zero some_arrivals some_arrivals_lem.fit in
    let unchanged = unchanged_leaves (report_at 16000 7) stopped some_calls_lem.same in
    let next = next_is_record (report_at 1000 7) started some_calls_lem.begun refl in
    let calls = called_in_turn reported some_calls some_calls_lem.typed some_calls_lem.fit in
    let from_start = called_from_start preset 0 some_calls some_calls_lem.fit in
    tt
