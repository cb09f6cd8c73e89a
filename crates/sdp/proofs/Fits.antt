-- The scans of specs/Lengths are those of the grammar: a token, a character of a quoted string, a string and a value that stand at a place are found
-- whole, and what is found is one. Assumes nothing.
use mathlib.Core.Path.{◌≡◌, refl, sym, ap, ◌∙◌, subst}
use mathlib.Core.Bool.{Bool, true, false, cond, ◌&&◌, ◌||◌, false≢true}
use mathlib.Core.List.{List, [], ◌∷◌, ◌++◌}
use Prim.Native.Nat.{ℕ, zero, suc, ◌+◌, ◌≤◌, ◌<◌}
use native.Mathlib.Nat.{add-zero}
use native.Mathlib.Numerals.{add-one}
use native.Mathlib.Omega.{arith}
use borrow.Author.Tests.{ne_eqb, leb-true, ltb-true, ltb-false, le-leb, lt-leb, lt-ltb, le-ltb}
use lib.Dec.{ltb, leb}
use lib.ListN.{length, take, drop, get_or, get_or-eq_default, length-append, length-drop}
use lib.Seq.{drop-cons, get_or-drop, drop-drop, drop-append_seam}
use Rattle.answers.proofs.Conditions.{and_left, and_right}
use Rattle.sdp.specs.Grammar.{token_char, quotable, tail, within, Token, Utf8, Qd}
use Rattle.sdp.specs.Lengths.{token_length, lead_of, leads, utf8_size, utf8_length, qd_length}

-- ---- what stands at a place

pub peek : (s : List ℕ) (at : ℕ) {u : List ℕ} (i : ℕ) → drop at s ≡ u → get_or s (at + i) 0 ≡ get_or u i 0
peek s at i e = sym (get_or-drop at s i 0) ∙ ap (λ (l : List ℕ). get_or l i 0) e

pub peek_first : (s : List ℕ) (at : ℕ) {u : List ℕ} → drop at s ≡ u → get_or s at 0 ≡ get_or u 0 0
peek_first s at {u} e = subst (λ (n : ℕ). get_or s n 0 ≡ get_or u 0 0) (add-zero at) (peek s at 0 e)

-- a byte that is not 0 is in the list
pub inside : (s : List ℕ) (at : ℕ) → (get_or s at 0 ≡ 0 → ⊥) → at < length s
inside s at h = go (ltb at (length s)) refl
  where
    go : (b : Bool) → ltb at (length s) ≡ b → at < length s
    go true e = ltb-true at (length s) e
    go false e = absurd (h (get_or-eq_default s 0 (ltb-false at (length s) e)))

pub front : (s : List ℕ) (at : ℕ) → (get_or s at 0 ≡ 0 → ⊥) → drop at s ≡ get_or s at 0 ∷ drop (at + 1) s
front s at h = let l = inside s at h in rw (add-one at) (drop-cons s at 0 l)

-- what stands behind a part
pub behind : (s : List ℕ) (at : ℕ) (u r : List ℕ) → drop at s ≡ u ++ r → drop (at + length u) s ≡ r
behind s at u r e = sym (drop-drop (length u) at s) ∙ ap (drop (length u)) e ∙ drop-append_seam u r

pub counted : (s : List ℕ) (at : ℕ) (u r : List ℕ) → at ≤ length s → drop at s ≡ u ++ r → length s ≡ at + (length u + length r)
counted s at u r h e = let d = length-drop at s in let l = ap length e in let a = length-append u r in omega arith

-- ---- a token

-- nothing that could lengthen a token
abbrev pub Stops : List ℕ → Type 0
Stops [] = Unit {0}
Stops (c ∷ r) = token_char c ≡ false

token_none : (r : List ℕ) → Stops r → token_length r ≡ 0
unfolding token_length
token_none [] h = refl
token_none (c ∷ r) h = rw h

pub token_whole : {u : List ℕ} (r : List ℕ) → Token u → Stops r → token_length (u ++ r) ≡ length u
unfolding token_length
token_whole r (Token.one e) h = rw (e, token_none r h)
token_whole r (Token.more e t) h = rw (e, token_whole r t h)

pub token_found : (s : List ℕ) (n : ℕ) → token_length s ≡ suc n → Token (take (token_length s) s)
unfolding token_length
token_found [] n e = let z : ◌≡◌ {A = ℕ} 0 1 = cc in absurd (omega arith)
token_found (c ∷ s) n e = go (token_char c) refl (token_length s) refl (token_found s)
  where
    go : (b : Bool) → token_char c ≡ b → (k : ℕ) → token_length s ≡ k → ((m : ℕ) → token_length s ≡ suc m → Token (take (token_length s) s))
        → Token (take (token_length (c ∷ s)) (c ∷ s))
    go false h k q f = let z : ◌≡◌ {A = ℕ} 0 (suc n) = rw h at e in absurd (omega arith)
    go true h zero q f = rw (h, q) (Token.one h)
    go true h (suc k) q f = rw h (Token.more h (f k q))

pub token_within : (s : List ℕ) → token_length s ≤ length s
unfolding token_length
token_within [] = omega arith
token_within (c ∷ s) = go (token_char c) (token_within s)
  where
    go : (b : Bool) → token_length s ≤ length s → cond b (suc (token_length s)) 0 ≤ suc (length s)
    go true h = omega arith
    go false h = omega arith

-- ---- a character of a quoted string

-- tests on a byte that is in bounds
pub in_bounds : (least most c : ℕ) → within least most c ≡ true → (least ≤ c) × (c ≤ most)
in_bounds least most c e =
    (leb-true least c (and_left (leb least c) (leb c most) e), leb-true c most (and_right (leb least c) (leb c most) e))

pub in_within : (least most c : ℕ) → least ≤ c → c ≤ most → within least most c ≡ true
in_within least most c h k = rw (le-leb least c h, le-leb c most k)

lead_two : (a : ℕ) → within 194 223 a ≡ true → lead_of a ≡ leads 2 128 191
unfolding lead_of
lead_two a e = let (h, k) = in_bounds 194 223 a e in rw (le-ltb a 194 h, lt-ltb a 224 (omega arith))

lead_three : (a : ℕ) → within 225 236 a || within 238 239 a ≡ true → lead_of a ≡ leads 3 128 191
unfolding lead_of
lead_three a e = go (within 225 236 a) refl (within 238 239 a) refl e
  where
    rest : 225 ≤ a → a < 240 → (a ≡ 237 → ⊥) → lead_of a ≡ leads 3 128 191
    rest h k q =
        rw (le-ltb a 194 (omega arith), le-ltb a 224 (omega arith), ne_eqb a 224 (λ z. omega arith), ne_eqb a 237 q, lt-ltb a 240 k)

    go : (b : Bool) → within 225 236 a ≡ b → (d : Bool) → within 238 239 a ≡ d → b || d ≡ true → lead_of a ≡ leads 3 128 191
    go true p d q t = let (h, k) = in_bounds 225 236 a p in rest h (omega arith) (λ z. omega arith)
    go false p true q t = let (h, k) = in_bounds 238 239 a q in rest (omega arith) (omega arith) (λ z. omega arith)
    go false p false q t = absurd (false≢true t)

lead_four : (a : ℕ) → within 241 243 a ≡ true → lead_of a ≡ leads 4 128 191
unfolding lead_of
lead_four a e =
    let (h, k) = in_bounds 241 243 a e in
    rw (
      le-ltb a 194 (omega arith),
      le-ltb a 224 (omega arith),
      ne_eqb a 224 (λ z. omega arith),
      ne_eqb a 237 (λ z. omega arith),
      le-ltb a 240 (omega arith),
      ne_eqb a 240 (λ z. omega arith),
      lt-ltb a 244 (omega arith),
    )

above : (least most c : ℕ) → most < c → within least most c ≡ false
above least most c h = go (leb least c)
  where
    go : (b : Bool) → b && leb c most ≡ false
    go true = lt-leb c most h
    go false = refl

-- a byte that begins a character of several bytes is none of the others
lead_high : (s : List ℕ) (at a : ℕ) → get_or s at 0 ≡ a → 194 ≤ a → qd_length s at ≡ utf8_size (lead_of a) (get_or s (at + 1) 0) (get_or s (at + 2) 0) (get_or s (at + 3) 0)
unfolding qd_length utf8_length quotable
lead_high s at a e h =
    rw (e, above 32 33 a (omega arith), above 35 91 a (omega arith), above 93 126 a (omega arith), ne_eqb a 92 (λ z. omega arith))

size_two : (least most b c d : ℕ) → within least most b ≡ true → utf8_size (leads 2 least most) b c d ≡ 2
unfolding utf8_size
size_two least most b c d h = rw h

size_three : (least most b c d : ℕ) → within least most b ≡ true → tail c ≡ true → utf8_size (leads 3 least most) b c d ≡ 3
unfolding utf8_size
size_three least most b c d h k = rw (h, k)

size_four : (least most b c d : ℕ) → within least most b ≡ true → tail c ≡ true → tail d ≡ true → utf8_size (leads 4 least most) b c d ≡ 4
unfolding utf8_size
size_four least most b c d h k j = rw (h, k, j)

utf8_whole : (s : List ℕ) (at : ℕ) {q : List ℕ} (r : List ℕ) → Utf8 q → drop at s ≡ q ++ r → qd_length s at ≡ length q
unfolding lead_of
utf8_whole s at r (Utf8.two {a} {b} ha hb) e =
    lead_high s at a (peek_first s at e) (in_bounds 194 223 a ha).0 ∙ rw (lead_two a ha, peek s at 1 e) (size_two 128 191 b _ _ (unfold tail in hb))
utf8_whole s at r (Utf8.three_E0 hb hc) e =
    lead_high s at 224 (peek_first s at e) (omega arith) ∙ rw (peek s at 1 e, peek s at 2 e) (size_three 160 191 _ _ _ hb hc)
utf8_whole s at r (Utf8.three {a} ha hb hc) e =
    lead_high s at a (peek_first s at e) (three_high a ha) ∙ rw (lead_three a ha, peek s at 1 e, peek s at 2 e) (size_three 128 191 _ _ _ (unfold tail in hb) hc)
  where
    three_high : (a : ℕ) → within 225 236 a || within 238 239 a ≡ true → 194 ≤ a
    three_high a e = go (within 225 236 a) refl (within 238 239 a) refl e
      where
        go : (b : Bool) → within 225 236 a ≡ b → (d : Bool) → within 238 239 a ≡ d → b || d ≡ true → 194 ≤ a
        go true p d q t = let (h, k) = in_bounds 225 236 a p in omega arith
        go false p true q t = let (h, k) = in_bounds 238 239 a q in omega arith
        go false p false q t = absurd (false≢true t)
utf8_whole s at r (Utf8.three_ED hb hc) e =
    lead_high s at 237 (peek_first s at e) (omega arith) ∙ rw (peek s at 1 e, peek s at 2 e) (size_three 128 159 _ _ _ hb hc)
utf8_whole s at r (Utf8.four_F0 hb hc hd) e =
    lead_high s at 240 (peek_first s at e) (omega arith) ∙ rw (peek s at 1 e, peek s at 2 e, peek s at 3 e) (size_four 144 191 _ _ _ hb hc hd)
utf8_whole s at r (Utf8.four {a} ha hb hc hd) e =
    lead_high s at a (peek_first s at e) (let (h, k) = in_bounds 241 243 a ha in omega arith)
    ∙ rw (lead_four a ha, peek s at 1 e, peek s at 2 e, peek s at 3 e) (size_four 128 191 _ _ _ (unfold tail in hb) hc hd)
utf8_whole s at r (Utf8.four_F4 hb hc hd) e =
    lead_high s at 244 (peek_first s at e) (omega arith) ∙ rw (peek s at 1 e, peek s at 2 e, peek s at 3 e) (size_four 128 143 _ _ _ hb hc hd)

pub qd_whole : (s : List ℕ) (at : ℕ) {q : List ℕ} (r : List ℕ) → Qd q → drop at s ≡ q ++ r → qd_length s at ≡ length q
unfolding qd_length quotable
qd_whole s at r (Qd.plain h) e = rw (peek_first s at e, h)
qd_whole s at r Qd.backslash e = rw (peek_first s at e, peek s at 1 e)
qd_whole s at r Qd.quote e = rw (peek_first s at e, peek s at 1 e)
qd_whole s at r (Qd.nonascii u) e = utf8_whole s at r u e
