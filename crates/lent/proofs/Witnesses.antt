-- The hypotheses are met, and each theorem is used where they are. Assumes nothing.
use mathlib.Core.Path.{◌≡◌, refl}
use mathlib.Core.Bool.{true}
use mathlib.Core.List.{List, [], ◌∷◌, map}
use Prim.Native.Nat.{ℕ, zero, suc, ◌^◌, ◌<◌}
use native.Mathlib.Omega.{arith}
use borrow.Author.Tests.{ltb-true}
use lib.Count.{ones}
use lib.Dec.{ltb}
use lib.ListN.{get_or}
use lib.Signed.{le_z_yes, lt_z_yes}
use Rattle.answers.specs.Conditions.{all}
use Rattle.answers.proofs.Conditions.{and_left, and_right}
use Rattle.source.specs.Places.{marks, place, places}
use Rattle.source.specs.Record.{sound, fresh, has_counted}
use Rattle.sources.specs.Places.{held_of, rest_of}
use Rattle.sources.specs.Rules.{rising, fault}
use Rattle.numbers.specs.Since.{signed}
use Rattle.lent.specs.SourceWords.{source_with, source_of, loaded}
use Rattle.sources.specs.Tables as tables
use Rattle.lent.specs.TableWords as table
use Rattle.lent.specs.TableWords.{places_by, places_in, each_below, words_fault, unfit}
use Rattle.lent.specs.BreakerWords.{breaker_of, words_fit}
use Rattle.lent.specs.RunWords.{run_with, run_of}
use Rattle.lent.specs.RunWords as run
use Rattle.lent.specs.ConversionWords.{conversion_of}
use Rattle.lent.specs.ConversionWords as conversion
use Rattle.lent.specs.Witnesses.{Met, some_source, some_table, some_breaker, some_run, some_conversion}
use Rattle.lent.proofs.SourceLaws.{record_back, words_back}
use Rattle.lent.proofs.TableLaws.{table_back, table_words_back}
use Rattle.lent.proofs.RunLaws.{run_back, run_words_back}
use Rattle.lent.proofs.ConversionLaws.{conversion_back, conversion_words_back}
use Rattle.lent.proofs.Restored.{breaker_restored, read_typed, words_restored}

pub fit_words : (s : List ℕ) → all (map (λ (w : ℕ). ltb w (2 ^ 64)) s) ≡ true → (i : ℕ) → get_or s i 0 < 2 ^ 64
fit_words [] e i = omega arith
fit_words (w ∷ s) e zero = ltb-true w (2 ^ 64) (and_left (ltb w (2 ^ 64)) (all (map (λ (w : ℕ). ltb w (2 ^ 64)) s)) e)
fit_words (w ∷ s) e (suc i) = fit_words s (and_right (ltb w (2 ^ 64)) (all (map (λ (w : ℕ). ltb w (2 ^ 64)) s)) e) i

pub met : Met
unfolding source_with loaded signed words_fit places_by each_below words_fault unfit table.loaded fault rising held_of rest_of sound fresh has_counted marks place places ones run_with run.loaded conversion.loaded
met = record {
  base_fits = record { least = le_z_yes tt; most = lt_z_yes tt };
  highest_fits = record { least = le_z_yes tt; most = lt_z_yes tt };
  remembered_fits = refl;
  source_held = refl;
  base_word = omega arith;
  highest_word = omega arith;
  table_good = refl;
  table_typed = refl;
  table_bits = fit_words some_table refl;
  table_taken = refl;
  breaker_typed = read_typed some_breaker;
  breaker_long = refl;
  breaker_fits = refl;
  run_ssrc = omega arith;
  run_held = refl;
  run_base = omega arith;
  run_highest = omega arith;
  conversion_ssrc = omega arith;
  conversion_held = refl;
}

used : Unit {0}
unfolding run_with source_with
used =
    let source = record_back (source_of some_source) met.base_fits met.highest_fits met.remembered_fits in
    let source-words = words_back some_source (source_of some_source) met.base_word met.highest_word met.source_held in
    let table = table_back (places_in some_table) met.table_good met.table_typed in
    let table-words = table_words_back some_table (tables.loaded (places_in some_table)) met.table_bits met.table_taken in
    let breaker = breaker_restored (breaker_of some_breaker) met.breaker_typed in
    let breaker-words = words_restored some_breaker met.breaker_long met.breaker_fits in
    let run = run_back (run_of some_run) met.run_ssrc met.base_fits met.highest_fits met.remembered_fits in
    let run_words_lem = run_words_back some_run (run_of some_run) met.run_base met.run_highest met.run_held in
    let conversion = conversion_back (conversion_of some_conversion) met.conversion_ssrc in
    let conversion-words = conversion_words_back some_conversion (conversion_of some_conversion) met.conversion_held in
    tt
