-- The hypotheses of the read-back laws of a run of ecnstreams are met, and each law is used where they are. Assumes nothing.
use mathlib.Core.Path.{refl}
use mathlib.Core.List.{List, [], ◌∷◌, ◌++◌}
use Prim.Native.Nat.{ℕ, ◌-◌, ◌^◌}
use native.Mathlib.Omega.{arith}
use lib.Count.{ones}
use lib.ListN.{replicate}
use Rattle.numbers.specs.Since.{signed}
use Rattle.source.specs.Places.{marks, place, places}
use Rattle.source.specs.Record.{sound, fresh, has_counted}
use Rattle.sources.specs.Places.{held_of, rest_of}
use Rattle.sources.specs.Rules.{rising, fault}
use Rattle.sources.specs.Tables.{fault_in}
use Rattle.sources.specs.Runs.{run_fault}
use Rattle.lent.specs.SourceWords.{source_with}
use Rattle.lent.specs.StreamWords.{each_line, run_of, words_fault, loaded}
use Rattle.lent.proofs.Witnesses.{fit_words}
use Rattle.lent.proofs.StreamLaws.{stream_back, stream_words_back, taken_rules}

-- form 2, a label of 13 bytes, 2 lines held
abbrev some_words : List ℕ
some_words = 2 ∷ 13 ∷ 2 ∷ []

-- 65535 of source 7 came, with mark 2, and 2 jumps; 100 of the source with the highest SSRC, with mark 3, after a restart; any words behind them
abbrev some_lines : List ℕ
some_lines =
    (7 ∷ 65535 ∷ 65535 ∷ 0 ∷ 0 ∷ 1 ∷ 0 ∷ 0 ∷ 1 ∷ 0 ∷ 65536 ∷ 2 ∷ 0 ∷ [])
    ++ ((2 ^ 32 - 1) ∷ 100 ∷ 100 ∷ 0 ∷ 0 ∷ 0 ∷ 1 ∷ 0 ∷ 1 ∷ 0 ∷ 0 ∷ 0 ∷ 1 ∷ [])
    ++ replicate 182 5

used : Unit {0}
unfolding source_with signed each_line run_of words_fault loaded run_fault fault_in fault rising held_of rest_of sound fresh has_counted marks place places ones
used =
    let back = stream_back (run_of some_words some_lines) some_lines (omega arith) refl (record { places = refl; fits = refl; tallies = refl; rest = refl }) in
    let words = stream_words_back some_words some_lines (run_of some_words some_lines) (fit_words some_lines refl) refl in
    let rules = taken_rules some_words some_lines refl in
    tt
