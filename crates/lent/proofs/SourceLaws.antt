-- A source's record and its 10 words: taking out and putting back are inverse. Assumes nothing.
use Rattle.std.specs.Prelude.{Option, Some, None}
use Rattle.format.specs.declared.Wire.{Wire}
use mathlib.Core.Path.{◌≡◌, refl, sym, ap, ap₂, ◌∙◌}
use mathlib.Core.Bool.{Bool, true, false, cond}
use mathlib.Core.List.{List, [], ◌∷◌, ◌++◌}
use Prim.Native.Nat.{ℕ, zero, suc, ◌+◌, ◌-◌, ◌^◌, ◌≤◌, ◌<◌}
use native.Mathlib.Nat.{mod-eq_of_lt}
use native.Mathlib.Decide.{dec_le}
use native.Mathlib.Omega.{arith}
use borrow.Author.Tests.{eqb-true, ltb-true, ne_eqb, le-leb}
use lib.Dec.{eqb, leb, leb→le, ltb→lt, lt→ltb}
use lib.IntN.{ℤ, pos, negsuc}
use lib.ListN.{length, get_or, take, drop}
use lib.Seq.{take_all, drop-cons}
use Rattle.numbers.specs.Integers.{modulo}
use Rattle.numbers.specs.Since.{signed}
use Rattle.numbers.proofs.Integers.{eq_z_eq, minus_neg}
use Rattle.numbers.proofs.Differences.{signed_low, signed_high}
use Rattle.answers.proofs.Conditions.{and_left, all_true, true_is}
use Rattle.source.specs.declared.Source.{Source}
use Rattle.source.specs.Record.{arrivals, distinct, zeros, fresh, sound, wire_number}
use Rattle.source.proofs.Facts.{facts, sound_has_counted}
use Rattle.lent.specs.SourceWords.{remembered_word, remembered_in, source_with, source_of, is_source, loaded, source_words, FitsWord, RecordBack, WordsBack}

-- ---- two's complement

-- a number that fits reads back from its word
number_back : (z : ℤ) → FitsWord z → signed 64 (modulo (2 ^ 64) z) ≡ z
number_back (pos n) f =
    let h : n < 2 ^ 63 = ltb→lt n (2 ^ 63) f.most.lt in
    ap (signed 64) (mod-eq_of_lt (omega arith)) ∙ signed_low 63 n h
number_back (negsuc n) f =
    let h : n ≤ 2 ^ 63 - 1 = leb→le n (2 ^ 63 - 1) f.least.le in
    ap (λ (i : ℕ). signed 64 (2 ^ 64 - suc i)) (mod-eq_of_lt (omega arith))
    ∙ signed_high 63 (2 ^ 64 - suc n) (omega arith) ∙ minus_neg (2 ^ 64 - suc n) (2 ^ 64) (omega arith) ∙ ap negsuc (omega arith)

-- and a word from its number
word_back : (w : ℕ) → w < 2 ^ 64 → modulo (2 ^ 64) (signed 64 w) ≡ w
word_back w h = go (dec_le (2 ^ 63) w)
  where
    go : Dec (2 ^ 63 ≤ w) → modulo (2 ^ 64) (signed 64 w) ≡ w
    go (no g) = ap (modulo (2 ^ 64)) (signed_low 63 w (omega arith)) ∙ mod-eq_of_lt h
    go (yes l) =
        ap (modulo (2 ^ 64)) (signed_high 63 w l ∙ minus_neg w (2 ^ 64) h)
        ∙ ap (λ (i : ℕ). 2 ^ 64 - suc i) (mod-eq_of_lt (omega arith)) ∙ omega arith

-- ---- what is remembered

pub remembered_back : (r : Option Wire) → wire_number r ≡ true → (remembered_in (remembered_word r) ≡ r) × (remembered_word r ≤ 65536)
remembered_back None e = (refl, omega arith)
remembered_back (Some wire) e =
    let same : wire.0 + 1 - 1 ≡ wire.0 = omega arith in
    let less : wire.0 < 65536 = ltb-true wire.0 65536 e in
    (rw (ne_eqb (wire.0 + 1) 0 (λ z. omega arith)) (λ i. Some (record { 0 = same i })), omega arith)

remembered_word_lem : (n : ℕ) → remembered_word (remembered_in n) ≡ n
remembered_word_lem zero = refl
remembered_word_lem (suc n) = rw (ne_eqb (suc n) 0 (λ z. omega arith)) (omega arith)

-- ---- records

pub record_back : RecordBack
unfolding source_with loaded source_words
record_back s base highest number =
    let r = remembered_back s.remembered number in
    rw (le-leb (remembered_word s.remembered) 65536 r.1) (ap Some (λ i. record {
      base = record { 0 = number_back s.base.0 base i };
      highest = record { 0 = number_back s.highest.0 highest i };
      notect = s.notect;
      ect1 = s.ect1;
      ect0 = s.ect0;
      ce = s.ce;
      duplicates = s.duplicates;
      history = s.history;
      remembered = r.0 i;
    }))

-- the words that are a record's are 10
pub held : (words : List ℕ) {s : Source} → loaded words ≡ Some s → (length words ≡ 10) × (is_source words ≡ true) × (s ≡ source_of words)
unfolding loaded
held words {s} e = go (is_source words) refl e
  where
    go : (b : Bool) → is_source words ≡ b → cond b (Some (source_of words)) None ≡ Some s → (length words ≡ 10) × (is_source words ≡ true) × (s ≡ source_of words)
    go true f e = (eqb-true (length words) 10 (and_left (eqb (length words) 10) (leb (get_or words 9 0) 65536) f), f, cc)
    go false f e = let z : ◌≡◌ {A = ℕ} 0 1 = cc in absurd (omega arith)

-- and those that are none's are not
pub other : (words : List ℕ) → loaded words ≡ None → is_source words ≡ false
unfolding loaded
other words e = go (is_source words) e
  where
    go : (b : Bool) → cond b (Some (source_of words)) None ≡ None → b ≡ false
    go true e = let z : ◌≡◌ {A = ℕ} 0 1 = cc in absurd (omega arith)
    go false e = refl

-- n elements from i on, one by one
unfoldable pub elements : List ℕ → ℕ → ℕ → List ℕ
elements l i zero = []
elements l i (suc n) = get_or l i 0 ∷ elements l (suc i) n

pub elements_are : (l : List ℕ) (i n : ℕ) → i + n ≤ length l → take n (drop i l) ≡ elements l i n
unfolding elements
elements_are l i zero h = refl
elements_are l i (suc n) h =
    let k : i < length l = omega arith in
    ap (take (suc n)) (drop-cons l i 0 k) ∙ ap (λ (t : List ℕ). get_or l i 0 ∷ t) (elements_are l (suc i) n (omega arith))

-- the words of the record in the first 10 of some words
pub words_front : (words : List ℕ) → 10 ≤ length words → get_or words 0 0 < 2 ^ 64 → get_or words 1 0 < 2 ^ 64 → source_words (source_of words) ≡ take 10 words
unfolding source_with source_words elements
words_front words long base highest =
    ap₂ (λ (x y : ℕ). x ∷ y ∷ (elements words 2 7 ++ (remembered_word (remembered_in (get_or words 9 0)) ∷ []))) (word_back (get_or words 0 0) base) (word_back (get_or words 1 0) highest)
    ∙ ap (λ (z : ℕ). get_or words 0 0 ∷ get_or words 1 0 ∷ (elements words 2 7 ++ (z ∷ []))) (remembered_word_lem (get_or words 9 0))
    ∙ sym (elements_are words 0 10 long)

pub words_back : WordsBack
words_back words s base highest e =
    let h = held words e in
    ap source_words h.2 ∙ words_front words (omega (arith, h.0)) base highest ∙ take_all 10 words (omega (arith, h.0))

-- ---- a sound record's words read back

fits : (n : ℕ) {z : ℤ} → z ≡ pos n → n < 2 ^ 63 → FitsWord z
fits n e h = rw e (record { least = record { le = tt }; most = record { lt = lt→ltb n (2 ^ 63) h } })

pub sound_back : (s : Source) → sound s ≡ true → wire_number s.remembered ≡ true → loaded (source_words s) ≡ Some s
unfolding fresh
sound_back s e n = go (fresh s) refl
  where
    go : (b : Bool) → fresh s ≡ b → loaded (source_words s) ≡ Some s
    go true f =
        record_back s (fits 0 (eq_z_eq s.base.0 (pos 0) (true_is _ (all_true (zeros s) 0 f))) (omega arith))
        (fits 0 (eq_z_eq s.highest.0 (pos 0) (true_is _ (all_true (zeros s) 1 f))) (omega arith)) n
    go false f =
        let k = facts s (sound_has_counted s e f) in
        let d : distinct s ≤ arrivals s = omega arith in
        record_back s (fits k.low k.base (omega (arith, k.wire))) (fits k.high k.highest (omega (arith, k.spread, k.most, k.wire))) n
