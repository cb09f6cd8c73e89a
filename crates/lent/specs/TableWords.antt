-- A table of several sources (document 02, L1) in words of 64 bits, in the order of include/flasknib.h: 11 words for each place, its SSRC and the 10 words of
-- its source's record.
use Rattle.std.specs.Prelude.{◌≡◌, Bool, true, cond, not, ◌&&◌, List, [], ◌∷◌, ◌++◌, map, ℕ, zero, suc, ◌/◌, ◌%◌, ◌^◌, ◌<◌, eqb, leb, ltb, length, get_or, drop, Option, Some, None, Result, Ok, Err}
use Rattle.answers.specs.Conditions.{all}
use Rattle.answers.specs.declared.Refusal.{Refusal}
use Rattle.answers.specs.declared.Refusal.TheVariants.{Malformed, Rules}
use Rattle.source.specs.Record.{wire_number}
use Rattle.sources.specs.declared.Place.{Place}
use Rattle.sources.specs.declared.Table.{Table}
use Rattle.sources.specs.Rules.{most_places, rules, all_sound, fault}
use Rattle.sources.specs.Tables as table
use Rattle.lent.specs.SourceWords.{source_words, source_of}

-- ---- the words of a table

abbrev pub place_words : Place → List ℕ
place_words p = p.ssrc ∷ source_words p.source

unfoldable pub table_words : List Place → List ℕ
table_words [] = []
table_words (p ∷ ps) = place_words p ++ table_words ps

-- ---- the places in words; a word past the end counts as 0

abbrev pub place_of : List ℕ → Place
place_of words = record { ssrc = get_or words 0 0; source = source_of (drop 1 words) }

-- n places, each read in the same way
unfoldable pub places_by : (List ℕ → Place) → ℕ → List ℕ → List Place
places_by read zero words = []
places_by read (suc n) words = read words ∷ places_by read n (drop 11 words)

-- as many as are whole
abbrev pub whole_places : List ℕ → ℕ
whole_places words = length words / 11

abbrev pub places_in : List ℕ → List Place
places_in words = places_by place_of (whole_places words) words

-- ---- the refusals of words, 16 and then 9

-- whether word k of each of n places is below a limit
unfoldable pub each_below : ℕ → ℕ → ℕ → List ℕ → Bool
each_below limit k zero words = true
each_below limit k (suc n) words = ltb (get_or words k 0) limit && each_below limit k n (drop 11 words)

-- whole places, at most 16, and every SSRC has 32 bits
abbrev pub are_places : List ℕ → List Bool
are_places words =
    eqb (length words % 11) 0
    ∷ leb (whole_places words) most_places
    ∷ each_below (2 ^ 32) 0 (whole_places words) words
    ∷ []

-- every remembered word is at most a wire number + 1
abbrev pub are_wires : List ℕ → Bool
are_wires words = each_below 65537 10 (whole_places words) words

-- 16 for words that are no places of a table, and for places against the rules; 9 for a remembered word that is too large, and for a record that is malformed
unfoldable pub words_fault : List ℕ → Option Refusal
words_fault words =
    cond (not (all (are_places words))) (Some Rules)
    (cond (not (all (rules (places_in words)))) (Some Rules)
    (cond (not (are_wires words && all_sound (places_in words))) (Some Malformed)
    None))

-- ---- the table taken from words

-- words whose SSRCs and remembered numbers fit a table's fields are taken, and the other refusals left to the calls of the table; all others are refused here
unfoldable pub unfit : List ℕ → Option Refusal
unfit words = cond (all (are_places words) && are_wires words) None (words_fault words)

abbrev pub loaded_by : Option Refusal → Table → Result Table Refusal
loaded_by (Some refusal) t = Err refusal
loaded_by None t = Ok t

unfoldable pub loaded : List ℕ → Result Table Refusal
loaded words = loaded_by (unfit words) (table.loaded (places_in words))

-- ---- both are inverse

-- what the types of a place's fields say: an SSRC of 32 bits, a remembered number of 16
abbrev pub typed_place : Place → Bool
typed_place p = ltb p.ssrc (2 ^ 32) && wire_number p.source.remembered

-- the words of a table that neither 16 nor 9 refuses are not refused either, and read back to it
abbrev pub TableBack : Type 0
TableBack =
    (ps : List Place) → fault ps ≡ None → all (map typed_place ps) ≡ true
    → (loaded (table_words ps) ≡ Ok (table.loaded ps)) × (words_fault (table_words ps) ≡ None)

-- words that are taken, of 64 bits each, are the words of their table
abbrev pub TableWordsBack : Type 0
TableWordsBack =
    (words : List ℕ) (t : Table) → ((i : ℕ) → get_or words i 0 < 2 ^ 64) → loaded words ≡ Ok t → table_words (table.lent t) ≡ words
