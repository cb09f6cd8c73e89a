-- An upload of a trace (document 02, request L7) in 18 words, in the order of include/flasknib.h: the 15 of its run (specs/RunWords), the whole blocks taken, the
-- bytes kept, and the number of the kept refusal, 0 for none. While no block is taken the form's word is 0, which stands for the form of `no_run`: 18 zeros are a
-- fresh upload.
use Rattle.answers.specs.declared.Refusal.{Refusal}
use Rattle.std.specs.Prelude.{◌≡◌, Bool, true, cond, ◌&&◌, ◌||◌, List, [], ◌∷◌, ◌++◌, ℕ, ◌^◌, ◌<◌, eqb, ltb, length, get_or, replicate, Option, Some, None}
use Rattle.answers.specs.Refusals.{number_of}
use Rattle.answers.specs.declared.Refusal.TheVariants.{Incomplete, Checksum, Contents}
use Rattle.format.specs.declared.Form.{Form}
use Rattle.source.specs.declared.Source.{Source}
use Rattle.source.specs.Record.{wire_number}
use Rattle.convert.specs.declared.feeds.Upload.{Upload}
use Rattle.convert.specs.Tables.{no_run}
use Rattle.convert.specs.Feeds.{fresh_upload, keepable}
use Rattle.lent.specs.FormWords.{form_number, is_form}
use Rattle.lent.specs.SourceWords.{source_of, is_source, source_words, FitsWord}
use Rattle.lent.specs.RunWords.{record_in, run_with}

-- the form's word: 0 while no block is taken, and then a form's number
abbrev pub is_form_word : ℕ → ℕ → Bool
is_form_word blocks word = cond (eqb blocks 0) (eqb word 0) (is_form word)

abbrev pub form_word : ℕ → Form → ℕ
form_word blocks form = cond (eqb blocks 0) 0 (form_number form)

-- the last word: no refusal, or 1, 13 or 14; no other is kept
abbrev pub is_end : ℕ → Bool
is_end number = eqb number 0 || (eqb number 1 || (eqb number 13 || eqb number 14))

-- 1, 13, and 14 for any other
abbrev pub ended_of : ℕ → Option Refusal
ended_of number = cond (eqb number 0) None (cond (eqb number 1) (Some Incomplete) (cond (eqb number 13) (Some Checksum) (Some Contents)))

abbrev pub end_word : Option Refusal → ℕ
end_word None = 0
end_word (Some refusal) = number_of refusal

-- the upload in the words around the source's record, with such a record; a word past the end counts as 0
unfoldable pub upload_with : List ℕ → Source → Upload
upload_with words source = record { run = run_with words source; blocks = get_or words 15 0; kept = get_or words 16 0; ended = ended_of (get_or words 17 0) }

abbrev pub upload_of : List ℕ → Upload
upload_of words = upload_with words (source_of (record_in words))

-- 18 words are an upload's with the form's word, an SSRC of 32 bits, a refusal that is kept or none, and the words of a source's record
abbrev pub is_upload : List ℕ → Bool
is_upload words =
    eqb (length words) 18
    && (is_form_word (get_or words 15 0) (get_or words 0 0) && (ltb (get_or words 2 0) (2 ^ 32) && (is_end (get_or words 17 0) && is_source (record_in words))))

unfoldable pub loaded : List ℕ → Option Upload
loaded words = cond (is_upload words) (Some (upload_of words)) None

-- the 18 words of an upload
unfoldable pub feed_words : Upload → List ℕ
feed_words u =
    (form_word u.blocks u.run.form ∷ u.run.length ∷ u.run.ssrc ∷ [])
    ++ (source_words u.run.totals.source ++ (u.run.totals.jumped ∷ u.run.totals.restarts ∷ u.blocks ∷ u.kept ∷ end_word u.ended ∷ []))

-- ---- both are inverse

-- an upload reads back whose SSRC has 32 bits, whose source's record reads back, that keeps a trace's refusal or none, and whose form is that of `no_run` while no
-- block is taken
abbrev pub FeedBack : Type 0
FeedBack =
    (u : Upload) → u.run.ssrc < 2 ^ 32 → FitsWord u.run.totals.source.base.0 → FitsWord u.run.totals.source.highest.0
    → wire_number u.run.totals.source.remembered ≡ true → keepable u.ended ≡ true → (u.blocks ≡ 0 → u.run.form ≡ no_run.form) → loaded (feed_words u) ≡ Some u

-- words that are an upload's, of which the signed ones have 64 bits, are the words of that upload
abbrev pub FeedWordsBack : Type 0
FeedWordsBack = (words : List ℕ) (u : Upload) → get_or words 3 0 < 2 ^ 64 → get_or words 4 0 < 2 ^ 64 → loaded words ≡ Some u → feed_words u ≡ words

-- all zero is fresh
abbrev pub FreshIsZeros : Type 0
FreshIsZeros = feed_words fresh_upload ≡ replicate 18 0
