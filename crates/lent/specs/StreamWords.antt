-- A run of ecnstreams (document 02, request L1) in words of 64 bits, in the order of include/flasknib.h: 3 of the run, its form, the label's length and how many
-- lines are held; and 13 for each line, its SSRC, the 10 words of its source's record, jumped and restarts. `ws` are the words of the lines.
use Rattle.std.specs.Prelude.{◌≡◌, Bool, true, cond, not, ◌&&◌, List, [], ◌∷◌, ◌++◌, map, ℕ, zero, suc, ◌^◌, ◌≤◌, ◌<◌, eqb, leb, ltb, length, get_or, drop, replicate, Option, Some, None, Result, Ok, Err}
use Rattle.std.proofs.lemmas.List.Edits.{sets}
use Rattle.answers.specs.Conditions.{all}
use Rattle.answers.specs.declared.Refusal.{Refusal}
use Rattle.answers.specs.declared.Refusal.TheVariants.{Malformed, Rules}
use Rattle.source.specs.Record.{wire_number}
use Rattle.sources.specs.declared.Place.{Place}
use Rattle.sources.specs.declared.runs.Tally.{Tally}
use Rattle.sources.specs.declared.runs.Run.{Run}
use Rattle.sources.specs.Places.{held, empty_place, sound_place, held_of}
use Rattle.sources.specs.Rules.{most_places, rising}
use Rattle.sources.specs.Tables.{lent, fault_in}
use Rattle.sources.specs.Tallies.{no_tally}
use Rattle.sources.specs.Runs.{run_fault}
use Rattle.sources.specs.Rows.{Line, lines_of}
use Rattle.lent.specs.FormWords.{form_number, is_form, form_of}
use Rattle.lent.specs.SourceWords.{source_words, source_of}

-- ---- the words of a run

abbrev pub run_words : Run → List ℕ
run_words run = form_number run.form ∷ run.length ∷ length (lines_of run) ∷ []

abbrev pub line_words : Line → List ℕ
line_words l = l.ssrc ∷ source_words l.totals.source ++ (l.totals.jumped ∷ l.totals.restarts ∷ [])

unfoldable pub lines_words : List Line → List ℕ
lines_words [] = []
lines_words (l ∷ ls) = line_words l ++ lines_words ls

-- its lines in front; the words behind them are kept
abbrev pub stored_lines : List ℕ → Run → List ℕ
stored_lines ws run = sets ws 0 (lines_words (lines_of run))

-- ---- the lines in words; a word past the end counts as 0

abbrev pub place_in : List ℕ → Place
place_in line = record { ssrc = get_or line 0 0; source = source_of (drop 1 line) }

abbrev pub tally_in : List ℕ → Tally
tally_in line = record { jumped = get_or line 11 0; restarts = get_or line 12 0 }

-- what each of n lines has
unfoldable pub each_line : {A : Type 0} → (List ℕ → A) → ℕ → List ℕ → List A
each_line read zero ws = []
each_line read (suc n) ws = read ws ∷ each_line read n (drop 13 ws)

-- how many are held, as the run's words say
abbrev pub held_in : List ℕ → ℕ
held_in words = get_or words 2 0

-- the run: what is behind the held lines is empty, whatever the words are
unfoldable pub run_of : List ℕ → List ℕ → Run
run_of words ws = record {
  form = form_of (get_or words 0 0);
  length = get_or words 1 0;
  table = record { places = sets (replicate 16 empty_place) 0 (each_line place_in (held_in words) ws); count = most_places };
  tallies = sets (replicate 16 no_tally) 0 (each_line tally_in (held_in words) ws);
}

-- ---- the refusals of words: 9 where no line can be read, 16, and then 9

-- 3 words of a run, at least 208 of lines, and at most 16 lines held
abbrev pub are_words : List ℕ → List ℕ → List Bool
are_words words ws = eqb (length words) 3 ∷ leb 208 (length ws) ∷ leb (held_in words) most_places ∷ []

-- the rules of a table: in rising order of SSRC, none twice, and each has an arrival counted
abbrev pub is_held : List ℕ → Bool
is_held line = held (place_in line)

abbrev pub are_ruled : ℕ → List ℕ → List Bool
are_ruled n ws = rising 0 (each_line place_in n ws) ∷ all (each_line is_held n ws) ∷ []

-- an SSRC of 32 bits, and a remembered word that is at most a wire number + 1
abbrev pub line_fits : List ℕ → Bool
line_fits line = ltb (get_or line 0 0) (2 ^ 32) && leb (get_or line 10 0) 65536

abbrev pub are_fit : List ℕ → List ℕ → List Bool
are_fit words ws = is_form (get_or words 0 0) ∷ all (each_line line_fits (held_in words) ws) ∷ []

-- 9, 16, 9 (the calls of the run give the other 9s)
unfoldable pub words_fault : List ℕ → List ℕ → Option Refusal
words_fault words ws =
    cond (not (all (are_words words ws))) (Some Malformed)
    (cond (not (all (are_ruled (held_in words) ws))) (Some Rules)
    (cond (not (all (are_fit words ws))) (Some Malformed)
    None))

-- ---- the run taken from words

abbrev pub loaded_by : Option Refusal → Run → Result Run Refusal
loaded_by (Some refusal) run = Err refusal
loaded_by None run = Ok run

unfoldable pub loaded : List ℕ → List ℕ → Result Run Refusal
loaded words ws = loaded_by (words_fault words ws) (run_of words ws)

-- ---- both are inverse

-- what the types of a held place's fields say: an SSRC of 32 bits, a remembered number of 16
abbrev pub typed : Place → Bool
typed p = ltb p.ssrc (2 ^ 32) && wire_number p.source.remembered

-- 16 places, and behind the held ones no jump or restart is counted
pub record Lendable (run : Run) : Type 0 where
  pub places : length run.table.places ≡ 16
  pub fits : all (map typed (held_of (lent run.table))) ≡ true
  pub tallies : length run.tallies ≡ 16
  pub rest : drop (length (held_of (lent run.table))) run.tallies ≡ drop (length (held_of (lent run.table))) (replicate 16 no_tally)

-- the words of a run that neither 16 nor 9 refuses, stored over any words, read back to it
abbrev pub StreamBack : Type 0
StreamBack =
    (run : Run) (ws : List ℕ) → 208 ≤ length ws → run_fault run ≡ None → Lendable run
    → loaded (run_words run) (stored_lines ws run) ≡ Ok run

-- words that are taken, of 64 bits each, are the words of their run
abbrev pub StreamWordsBack : Type 0
StreamWordsBack =
    (words ws : List ℕ) (run : Run) → ((i : ℕ) → get_or ws i 0 < 2 ^ 64) → loaded words ws ≡ Ok run
    → (run_words run ≡ words) × (stored_lines ws run ≡ ws)

-- ---- 16 comes before 9

-- of the table in words that are taken only a malformed held record is left to refuse, with 9
abbrev pub TakenRules : Type 0
TakenRules =
    (words ws : List ℕ) → words_fault words ws ≡ None
    → fault_in (run_of words ws).table ≡ cond (not (all (map sound_place (each_line place_in (held_in words) ws)))) (Some Malformed) None
