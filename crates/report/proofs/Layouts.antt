-- The reports as words and their lengths. Assumes nothing.
use mathlib.Core.Path.{◌≡◌, refl, sym, ap, ap₂, ◌∙◌}
use mathlib.Core.List.{List, [], ◌∷◌, ◌++◌}
use Prim.Native.Nat.{ℕ, ◌+◌, ◌*◌, ◌≤◌, ◌<◌}
use native.Mathlib.Numerals.{add-one}
use native.Mathlib.Omega.{arith}
use lib.Arith.{digits_div, digits_mod}
use lib.ListN.{length, get_or, drop, drop_of_length-le}
use lib.Seq.{sets, drop-cons}
use Rattle.numbers.specs.BigEndian.{bytes}
use Rattle.numbers.proofs.BigEndian.{bytes_add, bytes_mod, length-bytes}
use Rattle.answers.proofs.Stores.{sets-step}
use Rattle.format.specs.declared.Counts.{Counts}
use Rattle.report.specs.Reports.{counts_bytes, feedback_of, summary_of, words_bytes}

-- two 16-bit fields in one word
pub bytes_pair : (high low : ℕ) → low < 65536 → bytes 4 (high * 65536 + low) ≡ bytes 2 high ++ bytes 2 low
bytes_pair high low h =
    bytes_add 2 2 (high * 65536 + low)
    ∙ ap₂ (λ (a b : List ℕ). a ++ b) (ap (bytes 2) (digits_div high h)) (sym (bytes_mod 2 (high * 65536 + low)) ∙ ap (bytes 2) (digits_mod high h))

module _ (c : Counts) (n : c.notect < 65536) (d : c.duplicates < 65536) where
  -- the counters in four words
  counts_words : counts_bytes c ≡ words_bytes (c.ect0 ∷ c.ect1 ∷ (c.ce * 65536 + c.notect) ∷ (c.lost * 65536 + c.duplicates) ∷ [])
  unfolding counts_bytes words_bytes bytes
  counts_words =
      ap₂ (λ (marked missed : List ℕ). bytes 4 c.ect0 ++ (bytes 4 c.ect1 ++ (marked ++ (missed ++ []))))
      (sym (bytes_pair c.ce c.notect n)) (sym (bytes_pair c.lost c.duplicates d))

  pub feedback_words_lem : (sender media highest : ℕ)
      → feedback_of sender media highest c
      ≡ words_bytes (0x88CD0007 ∷ sender ∷ media ∷ highest ∷ c.ect0 ∷ c.ect1 ∷ (c.ce * 65536 + c.notect) ∷ (c.lost * 65536 + c.duplicates) ∷ [])
  unfolding feedback_of words_bytes bytes
  feedback_words_lem sender media highest = ap (λ (l : List ℕ). bytes 4 0x88CD0007 ++ bytes 4 sender ++ bytes 4 media ++ bytes 4 highest ++ l) counts_words

  pub summary_words_lem : (media : ℕ)
      → summary_of media c ≡ words_bytes (0x0D000005 ∷ media ∷ c.ect0 ∷ c.ect1 ∷ (c.ce * 65536 + c.notect) ∷ (c.lost * 65536 + c.duplicates) ∷ [])
  unfolding summary_of words_bytes bytes
  summary_words_lem media = ap (λ (l : List ℕ). bytes 4 0x0D000005 ++ bytes 4 media ++ l) counts_words

pub length-feedback : (sender media highest : ℕ) (c : Counts) → length (feedback_of sender media highest c) ≡ 32
unfolding feedback_of counts_bytes bytes
length-feedback sender media highest c = refl

pub length-summary : (media : ℕ) (c : Counts) → length (summary_of media c) ≡ 24
unfolding summary_of counts_bytes bytes
length-summary media c = refl

-- ---- storing words one after the other

module _ (words : List ℕ) (i : ℕ) where
  -- a turn: what is left to store loses its first word
  pub words_turn : (out : List ℕ) {out' : List ℕ} → i < length words → out' ≡ sets out (4 * i) (bytes 4 (get_or words i 0))
      → sets out' (4 * (i + 1)) (words_bytes (drop (i + 1) words)) ≡ sets out (4 * i) (words_bytes (drop i words))
  unfolding words_bytes
  words_turn out h e =
      let w = get_or words i 0 in
      let next : 4 * (i + 1) ≡ 4 * i + length (bytes 4 w) = rw (length-bytes 4 w) (omega arith) in
      sets-step out (4 * i) (bytes 4 w) (words_bytes (drop (i + 1) words)) (ap words_bytes (drop-cons words i 0 h ∙ ap (λ (j : ℕ). w ∷ drop j words) (sym (add-one i)))) e next

  -- after the last nothing is left
  pub words_end : (out : List ℕ) → length words ≤ i → out ≡ sets out (4 * i) (words_bytes (drop i words))
  unfolding words_bytes
  words_end out h = rw (drop_of_length-le words h)
