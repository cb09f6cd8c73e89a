-- A line by value, and in the words that a caller lends: 13 to a line, the SSRC, the 10 of the source's record, jumped and restarts.
use Rattle.std.specs.Prelude.{ℕ, zero, suc, Bool, cond, List, [], ◌∷◌, ◌++◌, leb, take, drop, get_or, Option, Some, None}
use Rattle.answers.specs.Conditions.{all}
use Rattle.source.specs.declared.Totals.{Totals}
use Rattle.source.specs.Record.{sound}
use Rattle.source.specs.Totals.{most_told}
use Rattle.lent.specs.SourceWords.{is_source, source_of, source_words}
use Rattle.mixed.specs.declared.Line.{Line}

-- how a line is held: its SSRC, its totals unless it is malformed, and the line of given ones
pub record Holding (A : Type 0) : Type 0 where
  pub ssrc_of : A → ℕ
  pub totals : A → Option Totals
  pub line : ℕ → Totals → A

-- ---- by value

abbrev pub by_value : Holding Line
by_value = record { ssrc_of = λ l. l.ssrc; totals = λ l. Some l.totals; line = λ ssrc t. record { ssrc = ssrc; totals = t } }

-- ---- in words

-- the words of the first n lines
unfoldable pub lines_in : ℕ → List ℕ → List (List ℕ)
lines_in zero ws = []
lines_in (suc n) ws = take 13 ws ∷ lines_in n (drop 13 ws)

abbrev pub ssrc_in : List ℕ → ℕ
ssrc_in line = get_or line 0 0

abbrev pub record_in : List ℕ → List ℕ
record_in line = take 10 (drop 1 line)

-- a record, sound, and at most 2^48 jumps and restarts
abbrev pub line_conditions : List ℕ → List Bool
line_conditions line =
    is_source (record_in line)
    ∷ sound (source_of (record_in line))
    ∷ leb (get_or line 11 0) most_told
    ∷ leb (get_or line 12 0) most_told
    ∷ []

unfoldable pub totals_in : List ℕ → Option Totals
totals_in line =
    cond (all (line_conditions line)) (Some (record { source = source_of (record_in line); jumped = get_or line 11 0; restarts = get_or line 12 0 }))
    None

unfoldable pub line_words : ℕ → Totals → List ℕ
line_words ssrc t = ssrc ∷ source_words t.source ++ (t.jumped ∷ t.restarts ∷ [])

abbrev pub in_words : Holding (List ℕ)
in_words = record { ssrc_of = ssrc_in; totals = totals_in; line = line_words }
