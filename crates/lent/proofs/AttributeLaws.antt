-- An attribute's record and its 11 words: taking out and putting back are inverse. Assumes nothing.
use Rattle.std.specs.Prelude.{Option, Some, None}
use Rattle.sdp.specs.declared.Mode.{Mode}
use Rattle.sdp.specs.declared.Ect.{Ect}
use mathlib.Core.Path.{◌≡◌, refl, sym, ap, ◌∙◌, subst}
use mathlib.Core.Bool.{Bool, true, false, cond, ◌&&◌, ◌||◌, false≢true}
use mathlib.Core.List.{List, [], ◌∷◌, ◌++◌}
use Prim.Native.Nat.{ℕ, zero, suc, ◌+◌, ◌-◌, ◌≤◌, ◌<◌}
use native.Mathlib.Omega.{arith}
use borrow.Author.Tests.{leb-true, lt-leb, le-leb, ltb-true, ltb-false}
use lib.Dec.{eqb, leb, ltb}
use lib.ListN.{length, get_or, take, drop, replicate}
use lib.Seq.{drop-cons}
use Rattle.answers.specs.Conditions.{all}
use Rattle.answers.proofs.Conditions.{cond_ends, all_true, all_false, and_left, and_right}
use Rattle.sdp.specs.declared.Method.{Method}
use Rattle.sdp.specs.declared.Method.TheVariants.{Rtp, Ice, Leap}
use Rattle.sdp.specs.declared.Mode.TheVariants as mode
use Rattle.sdp.specs.declared.Ect.TheVariants as ect
use Rattle.sdp.specs.declared.Attribute.{Attribute}
use Rattle.sdp.specs.Reading.{attribute_of}
use Rattle.sdp.specs.Writing.{methods_in}
use Rattle.lent.specs.AttributeWords.{method_number, mode_number, ect_number, is_method, method_of, mode_of, ect_of, attribute_in, place_fits, places_fit, is_attribute, loaded}
use Rattle.lent.specs.AttributeWords.{place_word, attribute_words, kept, AttributeBack, AttributeWordsBack, some_attribute, SomeAttribute}

-- ---- the places one by one

place_is : (words : List ℕ) (i : ℕ) → i < 8 → get_or (places_fit words) i true ≡ place_fits words i
place_is words zero h = refl
place_is words (suc zero) h = refl
place_is words (suc (suc zero)) h = refl
place_is words (suc (suc (suc zero))) h = refl
place_is words (suc (suc (suc (suc zero)))) h = refl
place_is words (suc (suc (suc (suc (suc zero))))) h = refl
place_is words (suc (suc (suc (suc (suc (suc zero)))))) h = refl
place_is words (suc (suc (suc (suc (suc (suc (suc zero))))))) h = refl
place_is words (suc (suc (suc (suc (suc (suc (suc (suc i)))))))) h = absurd (omega arith)

-- one that does not fit decides
pub place_ends : (words : List ℕ) (i : ℕ) → i < 8 → place_fits words i ≡ false → false ≡ all (places_fit words)
place_ends words i h e = all_false (places_fit words) i (place_is words i h ∙ e)

pub place_goes : (words : List ℕ) (i : ℕ) → i < 8 → place_fits words i ≡ true → all (drop i (places_fit words)) ≡ all (drop (i + 1) (places_fit words))
place_goes words i h e =
    let next : suc i ≡ i + 1 = omega arith in
    ap all (drop-cons (places_fit words) i true h)
    ∙ ap (λ (b : Bool). b && all (drop (suc i) (places_fit words))) (place_is words i h ∙ e)
    ∙ ap (λ (n : ℕ). all (drop n (places_fit words))) next

pub places_done : (words : List ℕ) (i : ℕ) → i ≡ 8 → true ≡ all (drop i (places_fit words))
places_done words i e = ap (λ (n : ℕ). all (drop n (places_fit words))) (sym e)

-- ---- numbers

method_back : (m : Method) → method_of (method_number m) ≡ m
method_back Rtp = refl
method_back Ice = refl
method_back Leap = refl

method_fits : (m : Method) → is_method (method_number m) ≡ true
method_fits Rtp = refl
method_fits Ice = refl
method_fits Leap = refl

mode_back : (m : Option Mode) → (mode_of (mode_number m) ≡ m) × (ltb (mode_number m) 4 ≡ true)
mode_back None = (refl, refl)
mode_back (Some mode.SetOnly) = (refl, refl)
mode_back (Some mode.ReadOnly) = (refl, refl)
mode_back (Some mode.SetRead) = (refl, refl)

ect_back : (e : Option Ect) → (ect_of (ect_number e) ≡ e) × (ltb (ect_number e) 4 ≡ true)
ect_back None = (refl, refl)
ect_back (Some ect.One) = (refl, refl)
ect_back (Some ect.Zero) = (refl, refl)
ect_back (Some ect.Random) = (refl, refl)

method_word : (n : ℕ) → is_method n ≡ true → method_number (method_of n) ≡ n
method_word zero e = absurd (false≢true e)
method_word (suc zero) e = refl
method_word (suc (suc zero)) e = refl
method_word (suc (suc (suc zero))) e = refl
method_word (suc (suc (suc (suc n)))) e =
    let most = leb-true (suc (suc (suc (suc n)))) 3 (and_right (leb 1 (suc (suc (suc (suc n))))) _ e) in
    absurd (omega (arith, most))

mode_word_lem : (n : ℕ) → n < 4 → mode_number (mode_of n) ≡ n
mode_word_lem zero h = refl
mode_word_lem (suc zero) h = refl
mode_word_lem (suc (suc zero)) h = refl
mode_word_lem (suc (suc (suc zero))) h = refl
mode_word_lem (suc (suc (suc (suc n)))) h = absurd (omega (arith, h))

ect_word_lem : (n : ℕ) → n < 4 → ect_number (ect_of n) ≡ n
ect_word_lem zero h = refl
ect_word_lem (suc zero) h = refl
ect_word_lem (suc (suc zero)) h = refl
ect_word_lem (suc (suc (suc zero))) h = refl
ect_word_lem (suc (suc (suc (suc n)))) h = absurd (omega (arith, h))

-- ---- a record's words are a record's

or-true : (b : Bool) → (b || true) ≡ true
or-true true = refl
or-true false = refl

word_fits : (used i : ℕ) (m : Method) → (leb used i || is_method (cond (ltb i used) (method_number m) 0)) ≡ true
word_fits used i m = go (ltb i used) refl
  where
    go : (b : Bool) → ltb i used ≡ b → (leb used i || is_method (cond b (method_number m) 0)) ≡ true
    go true e = ap (λ (b : Bool). leb used i || b) (method_fits m) ∙ or-true (leb used i)
    go false e = ap (λ (b : Bool). b || false) (le-leb used i (ltb-false i used e))

word_back : (used i : ℕ) (m : Method) → method_of (cond (ltb i used) (method_number m) 0) ≡ cond (ltb i used) m Rtp
word_back used i m = go (ltb i used)
  where
    go : (b : Bool) → method_of (cond b (method_number m) 0) ≡ cond b m Rtp
    go true = method_back m
    go false = refl

-- the method at a place in use, or rtp
abbrev place : ℕ → List Method → ℕ → Method
place used ms i = cond (ltb i used) (get_or ms i Rtp) Rtp

eight : (used : ℕ) (ms : List Method) → length ms ≡ 8 → used ≤ 8
    → ◌≡◌ {A = ℕ × List Method} (used, place used ms 0 ∷ place used ms 1 ∷ place used ms 2 ∷ place used ms 3 ∷ place used ms 4 ∷ place used ms 5 ∷ place used ms 6 ∷ place used ms 7 ∷ [])
    (length (take used ms), take used ms ++ replicate (8 - length (take used ms)) Rtp)
eight used [] long few = absurd (omega (arith, long))
eight used (x0 ∷ []) long few = absurd (omega (arith, long))
eight used (x0 ∷ x1 ∷ []) long few = absurd (omega (arith, long))
eight used (x0 ∷ x1 ∷ x2 ∷ []) long few = absurd (omega (arith, long))
eight used (x0 ∷ x1 ∷ x2 ∷ x3 ∷ []) long few = absurd (omega (arith, long))
eight used (x0 ∷ x1 ∷ x2 ∷ x3 ∷ x4 ∷ []) long few = absurd (omega (arith, long))
eight used (x0 ∷ x1 ∷ x2 ∷ x3 ∷ x4 ∷ x5 ∷ []) long few = absurd (omega (arith, long))
eight used (x0 ∷ x1 ∷ x2 ∷ x3 ∷ x4 ∷ x5 ∷ x6 ∷ []) long few = absurd (omega (arith, long))
eight zero (x0 ∷ x1 ∷ x2 ∷ x3 ∷ x4 ∷ x5 ∷ x6 ∷ x7 ∷ []) long few = refl
eight (suc zero) (x0 ∷ x1 ∷ x2 ∷ x3 ∷ x4 ∷ x5 ∷ x6 ∷ x7 ∷ []) long few = refl
eight (suc (suc zero)) (x0 ∷ x1 ∷ x2 ∷ x3 ∷ x4 ∷ x5 ∷ x6 ∷ x7 ∷ []) long few = refl
eight (suc (suc (suc zero))) (x0 ∷ x1 ∷ x2 ∷ x3 ∷ x4 ∷ x5 ∷ x6 ∷ x7 ∷ []) long few = refl
eight (suc (suc (suc (suc zero)))) (x0 ∷ x1 ∷ x2 ∷ x3 ∷ x4 ∷ x5 ∷ x6 ∷ x7 ∷ []) long few = refl
eight (suc (suc (suc (suc (suc zero))))) (x0 ∷ x1 ∷ x2 ∷ x3 ∷ x4 ∷ x5 ∷ x6 ∷ x7 ∷ []) long few = refl
eight (suc (suc (suc (suc (suc (suc zero)))))) (x0 ∷ x1 ∷ x2 ∷ x3 ∷ x4 ∷ x5 ∷ x6 ∷ x7 ∷ []) long few = refl
eight (suc (suc (suc (suc (suc (suc (suc zero))))))) (x0 ∷ x1 ∷ x2 ∷ x3 ∷ x4 ∷ x5 ∷ x6 ∷ x7 ∷ []) long few = refl
eight (suc (suc (suc (suc (suc (suc (suc (suc zero)))))))) (x0 ∷ x1 ∷ x2 ∷ x3 ∷ x4 ∷ x5 ∷ x6 ∷ x7 ∷ []) long few = refl
eight (suc (suc (suc (suc (suc (suc (suc (suc (suc used))))))))) (x0 ∷ x1 ∷ x2 ∷ x3 ∷ x4 ∷ x5 ∷ x6 ∷ x7 ∷ []) long few = absurd (omega (arith, few))
eight used (x0 ∷ x1 ∷ x2 ∷ x3 ∷ x4 ∷ x5 ∷ x6 ∷ x7 ∷ x8 ∷ xs) long few = absurd (omega (arith, long))

pub is_attribute_lem : (a : Attribute) → is_attribute (attribute_words a) ≡ true
unfolding is_attribute attribute_words
is_attribute_lem a =
    let fits : (i : ℕ) → (leb a.used i || is_method (place_word a i)) ≡ true = λ i. word_fits a.used i (get_or a.methods i Rtp) in
    λ j. all (fits 0 j ∷ fits 1 j ∷ fits 2 j ∷ fits 3 j ∷ fits 4 j ∷ fits 5 j ∷ fits 6 j ∷ fits 7 j ∷ []) && ((mode_back a.mode).1 j && (ect_back a.ect).1 j)

pub attribute_back : AttributeBack
unfolding loaded attribute_in attribute_words attribute_of
attribute_back a long few =
    let back : (i : ℕ) → method_of (place_word a i) ≡ cond (ltb i a.used) (get_or a.methods i Rtp) Rtp = λ i. word_back a.used i (get_or a.methods i Rtp) in
    let e = eight a.used a.methods long few in
    let first : attribute_in (attribute_words a) ≡ record { used = a.used; methods = place a.used a.methods 0 ∷ place a.used a.methods 1 ∷ place a.used a.methods 2 ∷ place a.used a.methods 3 ∷ place a.used a.methods 4 ∷ place a.used a.methods 5 ∷ place a.used a.methods 6 ∷ place a.used a.methods 7 ∷ []; mode = a.mode; ect = a.ect } =
    λ j. record {
      used = a.used;
      methods = back 0 j ∷ back 1 j ∷ back 2 j ∷ back 3 j ∷ back 4 j ∷ back 5 j ∷ back 6 j ∷ back 7 j ∷ [];
      mode = (mode_back a.mode).0 j;
      ect = (ect_back a.ect).0 j;
    } in
    let second : _ ≡ attribute_of (methods_in a) a.mode a.ect = λ j. record { used = (e j).0; methods = (e j).1; mode = a.mode; ect = a.ect } in
    sym (cond_ends (is_attribute (attribute_words a)) _ _ _ (is_attribute_lem a) (ap Some (sym (first ∙ second))))

-- ---- words that are a record's

pub held : (words : List ℕ) {a : Attribute} → loaded words ≡ Some a → is_attribute words ≡ true
unfolding loaded
held words {a} e = go (is_attribute words) e
  where
    go : (b : Bool) → cond b (Some (attribute_in words)) None ≡ Some a → b ≡ true
    go true e = refl
    go false e = let z : ◌≡◌ {A = ℕ} 0 1 = cc in absurd (omega arith)

pub other : (words : List ℕ) → loaded words ≡ None → is_attribute words ≡ false
unfolding loaded
other words e = go (is_attribute words) e
  where
    go : (b : Bool) → cond b (Some (attribute_in words)) None ≡ None → b ≡ false
    go true e = let z : ◌≡◌ {A = ℕ} 0 1 = cc in absurd (omega arith)
    go false e = refl

-- the record that they hold
pub its : (words : List ℕ) → is_attribute words ≡ true → loaded words ≡ Some (attribute_in words)
unfolding loaded
its words e = rw e

pub which : (words : List ℕ) {a : Attribute} → loaded words ≡ Some a → a ≡ attribute_in words
which words {a} e = let i = its words (held words e) in cc

pub length-attribute : (a : Attribute) → length (attribute_words a) ≡ 11
unfolding attribute_words
length-attribute a = refl

kept_word : (words : List ℕ) (i : ℕ) → place_fits words i ≡ true
    → cond (ltb i (get_or words 0 0)) (method_number (method_of (get_or words (i + 1) 0))) 0 ≡ kept words i
kept_word words i f = go (ltb i (get_or words 0 0)) refl
  where
    go : (b : Bool) → ltb i (get_or words 0 0) ≡ b → cond b (method_number (method_of (get_or words (i + 1) 0))) 0 ≡ cond b (get_or words (i + 1) 0) 0
    go true e =
        let in_use = lt-leb (get_or words 0 0) i (ltb-true i (get_or words 0 0) e) in
        method_word (get_or words (i + 1) 0) (subst (λ (b : Bool). (b || is_method (get_or words (i + 1) 0)) ≡ true) in_use f)
    go false e = refl

pub attribute_words_back : AttributeWordsBack
unfolding attribute_words attribute_in is_attribute
attribute_words_back words a e =
    let h = held words e in
    let rest = and_right (eqb (length words) 11) _ h in
    let places = and_left (all (places_fit words)) _ rest in
    let two = and_right (all (places_fit words)) _ rest in
    let m = mode_word_lem (get_or words 9 0) (ltb-true (get_or words 9 0) 4 (and_left (ltb (get_or words 9 0) 4) _ two)) in
    let c = ect_word_lem (get_or words 10 0) (ltb-true (get_or words 10 0) 4 (and_right (ltb (get_or words 9 0) 4) _ two)) in
    ap attribute_words (which words e)
    ∙ (λ j. get_or words 0 0 ∷ kept_word words 0 (all_true (places_fit words) 0 places) j ∷ kept_word words 1 (all_true (places_fit words) 1 places) j ∷ kept_word words 2 (all_true (places_fit words) 2 places) j ∷ kept_word words 3 (all_true (places_fit words) 3 places) j ∷ kept_word words 4 (all_true (places_fit words) 4 places) j ∷ kept_word words 5 (all_true (places_fit words) 5 places) j ∷ kept_word words 6 (all_true (places_fit words) 6 places) j ∷ kept_word words 7 (all_true (places_fit words) 7 places) j ∷ m j ∷ c j ∷ [])

pub some_attribute_lem : SomeAttribute
unfolding loaded is_attribute attribute_in
some_attribute_lem = record { held = refl; eight = refl; few = omega arith }

used : Unit {0}
used =
    let back = attribute_back (attribute_in some_attribute) some_attribute_lem.eight some_attribute_lem.few in
    let words = attribute_words_back some_attribute (attribute_in some_attribute) some_attribute_lem.held in
    tt
