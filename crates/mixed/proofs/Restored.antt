-- A sound line and its 13 words, and lines behind one another in lent words. Assumes nothing.
use Rattle.std.specs.Prelude.{Some}
use mathlib.Core.Path.{◌≡◌, refl, ap, ap₂, ◌∙◌}
use mathlib.Core.Bool.{true}
use mathlib.Core.List.{List, [], ◌∷◌, ◌++◌, map, append_assoc}
use Prim.Native.Nat.{ℕ, ◌*◌, ◌≤◌}
use native.Mathlib.Omega.{arith}
use borrow.Author.Tests.{le-leb}
use lib.ListN.{length, take, drop, get_or, length-append}
use lib.Seq.{take_at, drop_at, sets}
use Rattle.answers.proofs.Stores.{sets-front}
use Rattle.source.specs.declared.Totals.{Totals}
use Rattle.source.specs.Record.{wire_number}
use Rattle.source.specs.Totals.{most_told}
use Rattle.source.proofs.Totalled.{SoundTotals}
use Rattle.lent.specs.SourceWords.{source_words}
use Rattle.lent.proofs.SourceLaws.{held, sound_back}
use Rattle.walk.specs.Blocks.{joined}
use Rattle.mixed.specs.declared.Line.{Line}
use Rattle.mixed.specs.Lines.{lines_in, record_in, totals_in, line_words}
use Rattle.mixed.proofs.Stored.{length-line}

-- totals that fit their words: sound, and what they remember is a wire number
pub record Good (t : Totals) : Type 0 where
  pub sound : SoundTotals t
  pub number : wire_number t.source.remembered ≡ true

-- ---- one line

module _ (ssrc : ℕ) (t : Totals) where
  record_of_lem : record_in (line_words ssrc t) ≡ source_words t.source
  unfolding line_words source_words
  record_of_lem = refl

  jumped_of : get_or (line_words ssrc t) 11 0 ≡ t.jumped
  unfolding line_words source_words
  jumped_of = refl

  restarts_of : get_or (line_words ssrc t) 12 0 ≡ t.restarts
  unfolding line_words source_words
  restarts_of = refl

  pub totals_back : Good t → totals_in (line_words ssrc t) ≡ Some t
  unfolding totals_in
  totals_back g =
      let back = held (source_words t.source) (sound_back t.source g.sound.good g.number) in
      rw (
        record_of_lem,
        jumped_of,
        restarts_of,
        back.1,
        ← back.2,
        g.sound.good,
        le-leb t.jumped most_told g.sound.jumped,
        le-leb t.restarts most_told g.sound.restarts,
      )

-- ---- lines behind one another

abbrev pub words_of : Line → List ℕ
words_of l = line_words l.ssrc l.totals

length-lines : (ls : List Line) → length (joined (map words_of ls)) ≡ 13 * length ls
length-lines [] = refl
length-lines (l ∷ ls) = omega (arith, length-append (words_of l) (joined (map words_of ls)), length-line l.ssrc l.totals, length-lines ls)

lines_back : (ls : List Line) (behind : List ℕ) → lines_in (length ls) (joined (map words_of ls) ++ behind) ≡ map words_of ls
unfolding lines_in
lines_back [] behind = refl
lines_back (l ∷ ls) behind =
    let more = joined (map words_of ls) ++ behind in
    let long = length-line l.ssrc l.totals in
    ap (λ (s : List ℕ). take 13 s ∷ lines_in (length ls) (drop 13 s)) (append_assoc (words_of l) (joined (map words_of ls)) behind)
    ∙ ap₂ (λ (first : List ℕ) (rest : List (List ℕ)). first ∷ rest) (take_at (words_of l) more 13 long)
    (ap (lines_in (length ls)) (drop_at (words_of l) more 13 long) ∙ lines_back ls behind)

-- what was stored reads back
pub stored_back : (ls : List Line) (ws : List ℕ) → 13 * length ls ≤ length ws → lines_in (length ls) (sets ws 0 (joined (map words_of ls))) ≡ map words_of ls
stored_back ls ws room =
    let vs = joined (map words_of ls) in
    ap (lines_in (length ls)) (sets-front ws vs (omega (arith, length-lines ls))) ∙ lines_back ls (drop (length vs) ws)
