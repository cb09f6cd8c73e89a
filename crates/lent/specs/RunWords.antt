-- A run of ecntable (document 01, "Table") in 15 words, in the order of include/flasknib.h: its form, the label's length, the SSRC, the 10 words of the
-- source's record, jumped and restarts.
use Rattle.std.specs.Prelude.{◌≡◌, Bool, true, cond, ◌&&◌, List, [], ◌∷◌, ◌++◌, ℕ, ◌^◌, ◌<◌, eqb, ltb, length, get_or, take, drop, Option, Some, None}
use Rattle.source.specs.declared.Source.{Source}
use Rattle.source.specs.Record.{wire_number}
use Rattle.convert.specs.declared.Run.{Run}
use Rattle.lent.specs.FormWords.{form_number, is_form, form_of}
use Rattle.lent.specs.SourceWords.{source_of, is_source, source_words, FitsWord}

-- the words of the source's record
abbrev pub record_in : List ℕ → List ℕ
record_in words = take 10 (drop 3 words)

-- the run in the other words, with a source's record; a word past the end counts as 0
unfoldable pub run_with : List ℕ → Source → Run
run_with words source = record {
  form = form_of (get_or words 0 0);
  length = get_or words 1 0;
  ssrc = get_or words 2 0;
  totals = record { source = source; jumped = get_or words 13 0; restarts = get_or words 14 0 };
}

abbrev pub run_of : List ℕ → Run
run_of words = run_with words (source_of (record_in words))

-- 15 words are a run's with a form, an SSRC of 32 bits and the words of a source's record
abbrev pub is_run : List ℕ → Bool
is_run words = eqb (length words) 15 && (is_form (get_or words 0 0) && (ltb (get_or words 2 0) (2 ^ 32) && is_source (record_in words)))

unfoldable pub loaded : List ℕ → Option Run
loaded words = cond (is_run words) (Some (run_of words)) None

-- the 15 words of a run
unfoldable pub run_words : Run → List ℕ
run_words run =
    (form_number run.form ∷ run.length ∷ run.ssrc ∷ [])
    ++ (source_words run.totals.source ++ (run.totals.jumped ∷ run.totals.restarts ∷ []))

-- ---- both are inverse

-- a run whose SSRC has 32 bits, and whose source's record reads back, reads back
abbrev pub RunBack : Type 0
RunBack =
    (run : Run) → run.ssrc < 2 ^ 32 → FitsWord run.totals.source.base.0 → FitsWord run.totals.source.highest.0
    → wire_number run.totals.source.remembered ≡ true → loaded (run_words run) ≡ Some run

-- words that are a run's, of which the signed ones have 64 bits, are the words of that run
abbrev pub RunWordsBack : Type 0
RunWordsBack = (words : List ℕ) (run : Run) → get_or words 3 0 < 2 ^ 64 → get_or words 4 0 < 2 ^ 64 → loaded words ≡ Some run → run_words run ≡ words
