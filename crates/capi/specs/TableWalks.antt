-- What one walk over the words of a table tells: the place of an SSRC, in a table that neither 16 nor 9 refuses.
use Rattle.std.specs.Prelude.{◌≡◌, true, List, ◌++◌, ℕ, ◌+◌, ◌*◌, ◌^◌, ◌≤◌, ◌<◌, length, get_or, take, drop, None}
use Rattle.source.specs.Places.{places}
use Rattle.source.specs.Record.{has_counted}
use Rattle.sources.specs.declared.Place.{Place}
use Rattle.sources.specs.Places.{empty_place, held_of}
use Rattle.lent.specs.TableWords.{place_words, place_of, places_in, words_fault}

-- ---- the words of one place

-- the four marks
abbrev pub counted_in : List ℕ → ℕ
counted_in words = get_or words 3 0 + get_or words 4 0 + get_or words 5 0 + get_or words 6 0

abbrev pub FewMarked : ℕ → ℕ → ℕ → Type 0
FewMarked recent older most = places (record { recent = recent; older = older }) ≤ most

-- if n arrivals are counted, the record has counted
abbrev pub HasCounted : List ℕ → ℕ → Type 0
HasCounted words n = n ≡ counted_in words → has_counted (place_of words).source ≡ true

-- a held place of a table, whose SSRC is at least `least`
pub record Fine (least : ℕ) (words : List ℕ) : Type 0 where
  pub above : least ≤ get_or words 0 0
  pub ssrc : get_or words 0 0 < 2 ^ 32
  pub wire : get_or words 10 0 < 65537
  pub counts : has_counted (place_of words).source ≡ true

abbrev pub AllZero : List ℕ → Type 0
AllZero words = (i : ℕ) → get_or words i 0 ≡ 0

-- ---- the words of a table

-- the place `at` is held and has the SSRC, and the table is not refused; the words have 64 bits
pub record Told (words : List ℕ) (ssrc at : ℕ) : Type 0 where
  pub bits : (i : ℕ) → get_or words i 0 < 2 ^ 64
  pub taken : words_fault words ≡ None
  pub inside : at < length (held_of (places_in words))
  pub named : (get_or (places_in words) at empty_place).ssrc ≡ ssrc

-- the words with those of another place at `at`
abbrev pub put_at : List ℕ → ℕ → Place → List ℕ
put_at words at p = take (11 * at) words ++ (place_words p ++ drop 11 (drop (11 * at) words))
