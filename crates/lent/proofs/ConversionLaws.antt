-- A conversion and its 3 words: taking out and putting back are inverse. Assumes nothing.
use Rattle.std.specs.Prelude.{Some, None}
use mathlib.Core.Path.{◌≡◌, refl, sym, ap, ◌∙◌}
use mathlib.Core.Bool.{Bool, true, false, cond, ◌&&◌}
use mathlib.Core.List.{List, [], ◌∷◌}
use Prim.Native.Nat.{ℕ, ◌^◌}
use native.Mathlib.Omega.{arith}
use borrow.Author.Tests.{eqb-true, lt-ltb}
use lib.Dec.{eqb, ltb}
use lib.ListN.{length, get_or}
use lib.Seq.{take_all}
use Rattle.answers.proofs.Conditions.{and_left, and_right}
use Rattle.forms.specs.declared.Conversion.{Conversion}
use Rattle.lent.specs.FormWords.{is_form}
use Rattle.lent.specs.ConversionWords.{conversion_of, is_conversion, loaded, conversion_words, ConversionBack, ConversionWordsBack}
use Rattle.lent.proofs.SourceLaws.{elements, elements_are}
use Rattle.lent.proofs.RunLaws.{form_fits, form_back, form_word_lem}

-- the words that are a conversion's are 3
pub held : (words : List ℕ) {c : Conversion} → loaded words ≡ Some c → (length words ≡ 3) × (is_conversion words ≡ true) × (c ≡ conversion_of words)
unfolding loaded
held words {c} e = go (is_conversion words) refl e
  where
    go : (b : Bool) → is_conversion words ≡ b → cond b (Some (conversion_of words)) None ≡ Some c → (length words ≡ 3) × (is_conversion words ≡ true) × (c ≡ conversion_of words)
    go true f e = (eqb-true (length words) 3 (and_left (eqb (length words) 3) (is_form (get_or words 0 0) && ltb (get_or words 1 0) (2 ^ 32)) f), f, cc)
    go false f e = let z : ◌≡◌ {A = ℕ} 0 1 = cc in absurd (omega arith)

-- and those that are none's are not
pub other : (words : List ℕ) → loaded words ≡ None → is_conversion words ≡ false
unfolding loaded
other words e = go (is_conversion words) e
  where
    go : (b : Bool) → cond b (Some (conversion_of words)) None ≡ None → b ≡ false
    go true e = let z : ◌≡◌ {A = ℕ} 0 1 = cc in absurd (omega arith)
    go false e = refl

pub conversion_back : ConversionBack
unfolding loaded
conversion_back c ssrc =
    rw (form_fits c.form, lt-ltb c.ssrc (2 ^ 32) ssrc) (ap Some (λ i. record { form = form_back c.form i; ssrc = c.ssrc; held = c.held }))

pub conversion_words_back : ConversionWordsBack
unfolding elements
conversion_words_back words c e =
    let h = held words e in
    let form = form_word_lem (get_or words 0 0) (and_left (is_form (get_or words 0 0)) _ (and_right (eqb (length words) 3) _ h.1)) in
    ap conversion_words h.2 ∙ ap (λ (n : ℕ). n ∷ get_or words 1 0 ∷ get_or words 2 0 ∷ []) form ∙ sym (elements_are words 0 3 (omega (arith, h.0))) ∙ take_all 3 words (omega (arith, h.0))
