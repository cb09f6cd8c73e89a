-- What a block does to lines in words is what it does to the lines by value. Assumes nothing.
use Rattle.std.specs.Prelude.{Option, Some, None, Result, Ok, Err}
use Rattle.answers.specs.declared.Refusal.{Refusal}
use mathlib.Core.Path.{◌≡◌, refl, ap, ◌∙◌}
use mathlib.Core.Bool.{Bool, true, false, cond}
use mathlib.Core.List.{List, map}
use Prim.Native.Nat.{ℕ}
use lib.Dec.{ltb}
use lib.ListN.{length, length-map}
use Rattle.answers.specs.declared.Refusal.TheVariants.{Contents, Places}
use Rattle.format.specs.Forms.{same_form}
use Rattle.format.specs.declared.Form.{Form}
use Rattle.source.specs.declared.Totals.{Totals}
use Rattle.source.specs.Totals.{fresh_totals}
use Rattle.trace.specs.Reading.{block_of}
use Rattle.trace.specs.declared.Block.{Block}
use Rattle.trace.specs.declared.Block.TheVariants as read
use Rattle.walk.specs.Steps.{Next, goes, refuses}
use Rattle.mixed.specs.declared.Line.{Line}
use Rattle.mixed.specs.Places.{found_by, added_by}
use Rattle.mixed.specs.Lines.{by_value, ssrc_in, line_words, in_words}
use Rattle.mixed.specs.Blocks.{counted, held_line, settled_by, settled, next_by, next_of}
use Rattle.mixed.proofs.Alike.{mapped, found_alike, renewed_alike, added_alike}
use Rattle.mixed.proofs.Restored.{totals_back, words_of}
use Rattle.mixed.proofs.Kept.{Each, found_each, GoodLine}

abbrev pub next_words : Next (List Line) → Next (List (List ℕ))
next_words (goes ls) = goes (map words_of ls)
next_words (refuses refusal) = refuses refusal

pub ssrc_of_lem : (l : Line) → ssrc_in (words_of l) ≡ l.ssrc
unfolding line_words
ssrc_of_lem l = refl

module _ (count : Totals → Totals) (ssrc : ℕ) (ls : List Line) (g : Each GoodLine ls) where
  settled_alike : settled in_words count ssrc (map words_of ls) ≡ next_words (settled by_value count ssrc ls)
  unfolding settled
  settled_alike =
      ap (settled_by in_words count ssrc (map words_of ls)) (found_alike words_of (λ l. l.ssrc) ssrc_in ssrc_of_lem ssrc ls)
      ∙ go (found_by (λ l. l.ssrc) ssrc ls) refl
    where
      with_room : (t : Bool) (new : Line)
          → cond t (goes (added_by ssrc_in (words_of new) (map words_of ls))) (refuses Places) ≡ next_words (cond t (goes (added_by (λ l. l.ssrc) new ls)) (refuses Places))
      with_room true new = ap goes (added_alike words_of (λ l. l.ssrc) ssrc_in ssrc_of_lem new ls)
      with_room false new = refl

      go : (found : Option Line) → found_by (λ l. l.ssrc) ssrc ls ≡ found
          → settled_by in_words count ssrc (map words_of ls) (mapped words_of found) ≡ next_words (settled_by by_value count ssrc ls found)
      go None e = rw (length-map ls words_of) (with_room (ltb (length ls) 16) (record { ssrc = ssrc; totals = count fresh_totals }))
      go (Some l) e =
          ap (held_line in_words count ssrc (map words_of ls)) (totals_back l.ssrc l.totals (found_each GoodLine (λ l. l.ssrc) ssrc ls g e).totals)
          ∙ ap goes (renewed_alike words_of (λ l. l.ssrc) ssrc_in ssrc_of_lem (record { ssrc = ssrc; totals = count l.totals }) ls)

pub next_alike : (form : Form) (b : List ℕ) (ls : List Line) → Each GoodLine ls → next_of in_words form b (map words_of ls) ≡ next_words (next_of by_value form b ls)
unfolding next_of
next_alike own b ls g = go (block_of b)
  where
    chosen : (t : Bool) (n ssrc : ℕ)
        → cond t (settled in_words (counted own n b) ssrc (map words_of ls)) (refuses Contents) ≡ next_words (cond t (settled by_value (counted own n b) ssrc ls) (refuses Contents))
    chosen true n ssrc = settled_alike (counted own n b) ssrc ls g
    chosen false n ssrc = refl

    go : (r : Result Block Refusal) → next_by in_words own b (map words_of ls) r ≡ next_words (next_by by_value own b ls r)
    go (Ok (read.Arrivals form n ssrc)) = chosen (same_form form own) n ssrc
    go (Ok (read.Label form n ssrc)) = refl
    go (Err refusal) = refl
