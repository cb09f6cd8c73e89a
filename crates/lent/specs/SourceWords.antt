-- The record of one source (document 01, "Counting arrivals"; document 02, L5) in 10 words of 64 bits, in the order of include/flasknib.h: base,
-- highest, not-ECT, ECT(1), ECT(0), CE, duplicates, places 0 to 63 of the history, places 64 to 99, the remembered number. A signed number is its
-- two's complement.
use Rattle.format.specs.declared.Wire.{Wire}
use Rattle.std.specs.Prelude.{◌≡◌, Bool, true, cond, ◌&&◌, List, [], ◌∷◌, ℕ, ◌+◌, ◌-◌, ◌^◌, ◌<◌, min, eqb, leb, ℤ, pos, neg_ℤ, length, get_or, ◌≤ℤ◌, ◌<ℤ◌, Option, Some, None}
use Rattle.numbers.specs.Integers.{modulo}
use Rattle.numbers.specs.Since.{signed}
use Rattle.source.specs.declared.Source.{Source}
use Rattle.source.specs.Record.{wire_number}

-- the last word: 0 for none, the remembered number + 1 otherwise
abbrev pub remembered_word : Option Wire → ℕ
remembered_word None = 0
remembered_word (Some wire) = wire.0 + 1

abbrev pub remembered_in : ℕ → Option Wire
remembered_in n = cond (eqb n 0) None (Some (record { 0 = n - 1 }))

-- the record in the first 9 words, with what it remembers; a word past the end counts as 0
unfoldable pub source_with : List ℕ → Option Wire → Source
source_with words remembered = record {
  base = record { 0 = signed 64 (get_or words 0 0) };
  highest = record { 0 = signed 64 (get_or words 1 0) };
  notect = get_or words 2 0;
  ect1 = get_or words 3 0;
  ect0 = get_or words 4 0;
  ce = get_or words 5 0;
  duplicates = get_or words 6 0;
  history = record { recent = get_or words 7 0; older = get_or words 8 0 };
  remembered = remembered;
}

abbrev pub source_of : List ℕ → Source
source_of words = source_with words (remembered_in (get_or words 9 0))

-- whatever the last word is: one above 65,536 counts as 65,536
abbrev pub source_near : List ℕ → Source
source_near words = source_with words (remembered_in (min (get_or words 9 0) 65536))

-- 10 words, of which the last is at most a wire number + 1, are a record's
abbrev pub is_source : List ℕ → Bool
is_source words = eqb (length words) 10 && leb (get_or words 9 0) 65536

unfoldable pub loaded : List ℕ → Option Source
loaded words = cond (is_source words) (Some (source_of words)) None

-- the 10 words of a record
unfoldable pub source_words : Source → List ℕ
source_words s =
    modulo (2 ^ 64) s.base.0
    ∷ modulo (2 ^ 64) s.highest.0
    ∷ s.notect
    ∷ s.ect1
    ∷ s.ect0
    ∷ s.ce
    ∷ s.duplicates
    ∷ s.history.recent
    ∷ s.history.older
    ∷ remembered_word s.remembered
    ∷ []

-- ---- both are inverse

-- an integer of 64 bits
pub record FitsWord (z : ℤ) : Type 0 where
  pub least : neg_ℤ (pos (2 ^ 63)) ≤ℤ z
  pub most : z <ℤ pos (2 ^ 63)

-- a record whose signed numbers fit their words, and whose remembered number is a wire number, reads back (the others are words as they stand)
abbrev pub RecordBack : Type 0
RecordBack =
    (s : Source) → FitsWord s.base.0 → FitsWord s.highest.0 → wire_number s.remembered ≡ true → loaded (source_words s) ≡ Some s

-- words that are a record's, of which the signed ones have 64 bits, are the words of that record
abbrev pub WordsBack : Type 0
WordsBack = (words : List ℕ) (s : Source) → get_or words 0 0 < 2 ^ 64 → get_or words 1 0 < 2 ^ 64 → loaded words ≡ Some s → source_words s ≡ words
