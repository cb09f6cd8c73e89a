-- A conversion of ecnforms (document 02, request L10) in 3 words, in the order of include/flasknib.h: the trace's own form, its SSRC, and how many
-- records are held.
use Rattle.std.specs.Prelude.{◌≡◌, Bool, cond, ◌&&◌, List, [], ◌∷◌, ℕ, ◌^◌, ◌<◌, eqb, ltb, length, get_or, Option, Some, None}
use Rattle.forms.specs.declared.Conversion.{Conversion}
use Rattle.lent.specs.FormWords.{form_number, is_form, form_of}

-- a word past the end counts as 0
abbrev pub conversion_of : List ℕ → Conversion
conversion_of words = record { form = form_of (get_or words 0 0); ssrc = get_or words 1 0; held = get_or words 2 0 }

-- 3 words are a conversion's with a form and an SSRC of 32 bits
abbrev pub is_conversion : List ℕ → Bool
is_conversion words = eqb (length words) 3 && (is_form (get_or words 0 0) && ltb (get_or words 1 0) (2 ^ 32))

unfoldable pub loaded : List ℕ → Option Conversion
loaded words = cond (is_conversion words) (Some (conversion_of words)) None

-- the 3 words of a conversion
abbrev pub conversion_words : Conversion → List ℕ
conversion_words c = form_number c.form ∷ c.ssrc ∷ c.held ∷ []

-- ---- both are inverse

-- a conversion whose SSRC has 32 bits reads back
abbrev pub ConversionBack : Type 0
ConversionBack = (c : Conversion) → c.ssrc < 2 ^ 32 → loaded (conversion_words c) ≡ Some c

-- words that are a conversion's are the words of that conversion
abbrev pub ConversionWordsBack : Type 0
ConversionWordsBack = (words : List ℕ) (c : Conversion) → loaded words ≡ Some c → conversion_words c ≡ words
