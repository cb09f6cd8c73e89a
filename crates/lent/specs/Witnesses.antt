-- The hypotheses of the read-back laws can be met: words of a source's record, a table, a breaker's record, a run and a conversion, and what they meet, by
-- theorem.
use Rattle.std.specs.Prelude.{◌≡◌, true, List, [], ◌∷◌, ◌++◌, map, ℕ, ◌-◌, ◌^◌, ◌<◌, length, get_or, replicate, Some, None, Ok}
use Rattle.answers.specs.Conditions.{all}
use Rattle.breaker.specs.Theorems.{Typed}
use Rattle.source.specs.Record.{wire_number}
use Rattle.lent.specs.SourceWords.{source_of, loaded, FitsWord}
use Rattle.sources.specs.Rules.{fault}
use Rattle.sources.specs.Tables as tables
use Rattle.lent.specs.TableWords as table
use Rattle.lent.specs.TableWords.{places_in, typed_place}
use Rattle.lent.specs.BreakerWords.{breaker_of, words_fit}
use Rattle.lent.specs.RunWords.{run_of}
use Rattle.lent.specs.RunWords as run
use Rattle.lent.specs.ConversionWords.{conversion_of}
use Rattle.lent.specs.ConversionWords as conversion

-- base -1, as its two's complement, highest 65536, and number 65535 remembered
abbrev pub some_source : List ℕ
some_source = (2 ^ 64 - 1) ∷ 65536 ∷ 0 ∷ 0 ∷ 1 ∷ 1 ∷ 0 ∷ 5 ∷ 0 ∷ 65536 ∷ []

-- three places, of which two are held: 65535 of source 7 came, with mark 2, and a jump after it; 100 of the source with the highest SSRC, with mark 3
abbrev pub some_table : List ℕ
some_table =
    (7 ∷ 65535 ∷ 65535 ∷ 0 ∷ 0 ∷ 1 ∷ 0 ∷ 0 ∷ 1 ∷ 0 ∷ 65536 ∷ [])
    ++ ((2 ^ 32 - 1) ∷ 100 ∷ 100 ∷ 0 ∷ 0 ∷ 0 ∷ 1 ∷ 0 ∷ 1 ∷ 0 ∷ 0 ∷ [])
    ++ replicate 11 0

-- with the full equation, stopped by the media rule, in a trial, a packet heard after the last report, with two intervals in its window
abbrev pub some_breaker : List ℕ
some_breaker = (3 ∷ 3 ∷ 15000 ∷ 1 ∷ 1 ∷ 2 ∷ 5000 ∷ 6000 ∷ 1 ∷ (2 ^ 32 - 1) ∷ 2 ∷ 1 ∷ 2 ∷ 2000 ∷ 20 ∷ 1000 ∷ 255 ∷ []) ++ replicate 60 0

-- form 2, a label of 502 bytes and the greatest SSRC, with that record, a jump and a restart
abbrev pub some_run : List ℕ
some_run = (2 ∷ 502 ∷ (2 ^ 32 - 1) ∷ []) ++ (some_source ++ (1 ∷ 1 ∷ []))

-- from form 2, with 61 records held
abbrev pub some_conversion : List ℕ
some_conversion = 2 ∷ (2 ^ 32 - 1) ∷ 61 ∷ []

pub record Met : Type 0 where
  -- RecordBack, WordsBack
  pub base_fits : FitsWord (source_of some_source).base.0
  pub highest_fits : FitsWord (source_of some_source).highest.0
  pub remembered_fits : wire_number (source_of some_source).remembered ≡ true
  pub source_held : loaded some_source ≡ Some (source_of some_source)
  pub base_word : get_or some_source 0 0 < 2 ^ 64
  pub highest_word : get_or some_source 1 0 < 2 ^ 64
  -- TableBack, TableWordsBack
  pub table_good : fault (places_in some_table) ≡ None
  pub table_typed : all (map typed_place (places_in some_table)) ≡ true
  pub table_bits : (i : ℕ) → get_or some_table i 0 < 2 ^ 64
  pub table_taken : table.loaded some_table ≡ Ok (tables.loaded (places_in some_table))
  -- BreakerRestored, WordsRestored
  pub breaker_typed : Typed (breaker_of some_breaker)
  pub breaker_long : length some_breaker ≡ 77
  pub breaker_fits : all (words_fit some_breaker) ≡ true
  -- RunBack, RunWordsBack
  pub run_ssrc : (run_of some_run).ssrc < 2 ^ 32
  pub run_held : run.loaded some_run ≡ Some (run_of some_run)
  pub run_base : get_or some_run 3 0 < 2 ^ 64
  pub run_highest : get_or some_run 4 0 < 2 ^ 64
  -- ConversionBack, ConversionWordsBack
  pub conversion_ssrc : (conversion_of some_conversion).ssrc < 2 ^ 32
  pub conversion_held : conversion.loaded some_conversion ≡ Some (conversion_of some_conversion)
