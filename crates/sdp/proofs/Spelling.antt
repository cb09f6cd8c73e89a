-- Laws of literals. Assumes nothing.
use mathlib.Core.Path.{◌≡◌, refl, sym, ap, ◌∙◌}
use mathlib.Core.Bool.{Bool, true, false, cond, ◌||◌, false≢true}
use mathlib.Core.List.{List, [], ◌∷◌, ◌++◌, map}
use Prim.Native.Nat.{ℕ, ◌+◌, ◌≤◌, ◌<◌}
use native.Mathlib.Numerals.{add-one}
use native.Mathlib.Omega.{arith}
use borrow.Author.Tests.{eq-eqb, ne_eqb, eqb-true, leb-true}
use lib.Dec.{eqb, leb}
use lib.ListN.{length, drop, get_or, drop_of_length-le, length-map}
use lib.Seq.{drop-cons}
use Rattle.answers.proofs.Conditions.{and_left, and_right}
use Rattle.sdp.specs.Grammar.{lower, token_char, within, Token, Is}
use Rattle.sdp.specs.Steps.{same, spelled}

-- ---- a comparison, byte by byte

abbrev pub same_from : List ℕ → List ℕ → ℕ → Bool
same_from text s i = same (map lower (drop i s)) (drop i text)

module _ (text s : List ℕ) (i : ℕ) where
  pub same_goes : i < length s → i < length text → lower (get_or s i 0) ≡ get_or text i 0 → same_from text s (i + 1) ≡ same_from text s i
  unfolding same
  same_goes h k e = rw (drop-cons s i 0 h, drop-cons text i 0 k, add-one, eq-eqb (lower (get_or s i 0)) (get_or text i 0) e)

  pub same_stops : i < length s → i < length text → (lower (get_or s i 0) ≡ get_or text i 0 → ⊥) → false ≡ same_from text s i
  unfolding same
  same_stops h k e = rw (drop-cons s i 0 h, drop-cons text i 0 k, ne_eqb (lower (get_or s i 0)) (get_or text i 0) e)

  pub same_ends : length s ≤ i → length text ≤ i → true ≡ same_from text s i
  unfolding same
  same_ends h k = rw (drop_of_length-le s h, drop_of_length-le text k)

pub same_equal : (a b : List ℕ) → same a b ≡ true → a ≡ b
unfolding same
same_equal [] [] e = refl
same_equal [] (y ∷ b) e = absurd (false≢true e)
same_equal (x ∷ a) [] e = absurd (false≢true e)
same_equal (x ∷ a) (y ∷ b) e =
    let p = eqb-true x y (and_left (eqb x y) (same a b) e) in let q = same_equal a b (and_right (eqb x y) (same a b) e) in cc

pub same_refl : (a : List ℕ) → same a a ≡ true
unfolding same
same_refl [] = refl
same_refl (x ∷ a) = rw (eq-eqb x x refl) (same_refl a)

pub spelled_is : (text s : List ℕ) → spelled text s ≡ true → Is text s
unfolding spelled
spelled_is text s e = same_equal (map lower s) text e

pub is_spelled : (text s : List ℕ) → Is text s → spelled text s ≡ true
unfolding spelled
is_spelled text s e = rw e (same_refl text)

pub not_spelled : (text s : List ℕ) → (Is text s → ⊥) → spelled text s ≡ false
not_spelled text s h = go (spelled text s) refl
  where
    go : (b : Bool) → spelled text s ≡ b → spelled text s ≡ false
    go true e = absurd (h (spelled_is text s e))
    go false e = e

pub spelled_not : (text s : List ℕ) → spelled text s ≡ false → Is text s → ⊥
spelled_not text s e h = false≢true (sym e ∙ is_spelled text s h)

pub long_not : (text s : List ℕ) → (length s ≡ length text → ⊥) → false ≡ spelled text s
long_not text s h = sym (not_spelled text s (λ e. h (sym (length-map s lower) ∙ ap length e)))

-- ---- letters

or-true : (a b : Bool) → b ≡ true → a || b ≡ true
or-true true b e = refl
or-true false b e = e

or_first : (a b : Bool) → a ≡ true → a || b ≡ true
or_first a b e = rw e

letter_token : (c : ℕ) → within 65 90 c ≡ true → token_char c ≡ true
unfolding token_char
letter_token c w =
    or-true (eqb c 33) _ (or-true (within 35 39 c) _ (or-true (within 42 43 c) _ (or-true (within 45 46 c) _ (or-true (within 48 57 c) _
    (or_first (within 65 90 c) (within 94 126 c) w)))))

-- a byte that is a token's in lower case is one as it stands
pub lower_token : (c : ℕ) → token_char (lower c) ≡ true → token_char c ≡ true
unfolding lower
lower_token c e = go (within 65 90 c) refl e
  where
    go : (b : Bool) → within 65 90 c ≡ b → token_char (cond b (c + 32) c) ≡ true → token_char c ≡ true
    go true w h = letter_token c w
    go false w h = h

-- no letter is 3D in lower case
pub lower_equals : (c : ℕ) → lower c ≡ 61 → c ≡ 61
unfolding lower
lower_equals c e = go (within 65 90 c) refl e
  where
    go : (b : Bool) → within 65 90 c ≡ b → cond b (c + 32) c ≡ 61 → c ≡ 61
    go true w h = let l = leb-true 65 c (and_left (leb 65 c) (leb c 90) w) in absurd (omega arith)
    go false w h = h

-- a token of lower case letters is one in any case
pub token_of : {text : List ℕ} (s : List ℕ) → Token text → Is text s → Token s
token_of [] (Token.one h) e = let z : ◌≡◌ {A = ℕ} 0 1 = cc in absurd (omega arith)
token_of (x ∷ []) (Token.one h) e = Token.one (lower_token x (let p : lower x ≡ _ = cc in rw p h))
token_of (x ∷ y ∷ s) (Token.one h) e = let z : ◌≡◌ {A = ℕ} 0 1 = cc in absurd (omega arith)
token_of [] (Token.more h t) e = let z : ◌≡◌ {A = ℕ} 0 1 = cc in absurd (omega arith)
token_of (x ∷ s) (Token.more {c} {s = text} h t) e =
    let p : lower x ≡ c = cc in let q : map lower s ≡ text = cc in Token.more (lower_token x (rw p h)) (token_of s t q)

-- a text that is NAME=VALUE in lower case is so as it stands
pub split_equals : (name value s : List ℕ) → Is (name ++ (61 ∷ value)) s
    → (n : List ℕ) × (v : List ℕ) × (s ≡ n ++ (61 ∷ v)) × Is name n × Is value v
split_equals name value [] e = nowhere name e
  where
    nowhere : (name : List ℕ) → [] ≡ name ++ (61 ∷ value) → (n : List ℕ) × (v : List ℕ) × ([] ≡ n ++ (61 ∷ v)) × Is name n × Is value v
    nowhere [] e = let z : ◌≡◌ {A = ℕ} 0 1 = cc in absurd (omega arith)
    nowhere (c ∷ name) e = let z : ◌≡◌ {A = ℕ} 0 1 = cc in absurd (omega arith)
split_equals [] value (x ∷ s) e =
    let p : lower x ≡ 61 = cc in let q : map lower s ≡ value = cc in ([], s, ap (λ (c : ℕ). c ∷ s) (lower_equals x p), refl, q)
split_equals (c ∷ name) value (x ∷ s) e =
    let p : lower x ≡ c = cc in let q : map lower s ≡ name ++ (61 ∷ value) = cc in
    let (n, v, h, a, b) = split_equals name value s q in (x ∷ n, v, ap (λ (l : List ℕ). x ∷ l) h, cc, b)
