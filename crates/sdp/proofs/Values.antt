-- A quoted string and a value that stand at a place are found whole, and what is found is one. Assumes nothing.
use mathlib.Core.Path.{◌≡◌, refl, sym, ap, ◌∙◌}
use mathlib.Core.Bool.{false, false≢true}
use mathlib.Core.List.{List, [], ◌∷◌, ◌++◌, append_assoc}
use Prim.Native.Nat.{ℕ, zero, suc, ◌+◌, ◌<◌}
use native.Mathlib.Omega.{arith}
use borrow.Author.Tests.{eqb-false, eqb-true, eq-eqb, ne_eqb}
use lib.Dec.{eqb}
use lib.ListN.{length, take, drop, get_or, length-append, take-append-drop, length-take}
use Rattle.sdp.specs.Grammar.{token_char, quotable, Token, Utf8, Qd, Qds, Value}
use Rattle.sdp.specs.Lengths.{token_length, token_end, qd_length, closes, value_end}
use Rattle.sdp.proofs.Tokens.{Closing, closing_quoted, closing_goes}
use Rattle.sdp.proofs.Fits.{peek_first, inside, front, behind, in_bounds, Stops, token_whole, token_found, token_within, qd_whole}
use Rattle.sdp.proofs.Found.{cond_cases, qd_found}

-- ---- a quoted string

-- a character begins with a byte that neither ends the string nor is past the end
data Opens : List ℕ → Type 0 where
  opens : (c : ℕ) {q : List ℕ} → (c ≡ 34 → ⊥) → (c ≡ 0 → ⊥) → Opens (c ∷ q)

utf8_opens : {q : List ℕ} → Utf8 q → Opens q
utf8_opens (Utf8.two {a} ha hb) = let (h, k) = in_bounds 194 223 a ha in opens a (λ z. omega arith) (λ z. omega arith)
utf8_opens (Utf8.three_E0 hb hc) = opens 224 (λ z. omega arith) (λ z. omega arith)
utf8_opens (Utf8.three {a} ha hb hc) = opens a (λ z. false≢true (rw z at ha)) (λ z. false≢true (rw z at ha))
utf8_opens (Utf8.three_ED hb hc) = opens 237 (λ z. omega arith) (λ z. omega arith)
utf8_opens (Utf8.four_F0 hb hc hd) = opens 240 (λ z. omega arith) (λ z. omega arith)
utf8_opens (Utf8.four {a} ha hb hc hd) = let (h, k) = in_bounds 241 243 a ha in opens a (λ z. omega arith) (λ z. omega arith)
utf8_opens (Utf8.four_F4 hb hc hd) = opens 244 (λ z. omega arith) (λ z. omega arith)

qd_opens : {q : List ℕ} → Qd q → Opens q
unfolding quotable
qd_opens (Qd.plain {c} e) = opens c (λ z. false≢true (rw z at e)) (λ z. false≢true (rw z at e))
qd_opens Qd.backslash = opens 92 (λ z. omega arith) (λ z. omega arith)
qd_opens Qd.quote = opens 92 (λ z. omega arith) (λ z. omega arith)
qd_opens (Qd.nonascii u) = utf8_opens u

opened : (s : List ℕ) (at : ℕ) {q : List ℕ} (r : List ℕ) → Opens q → drop at s ≡ q ++ r
    → (at < length s) × (eqb (get_or s at 0) 34 ≡ false) × (eqb (length q) 0 ≡ false)
opened s at r (opens c {q} h k) e =
    let p = peek_first s at e in
    (inside s at (λ z. k (sym p ∙ z)), ne_eqb (get_or s at 0) 34 (λ z. h (sym p ∙ z)), ne_eqb (suc (length q)) 0 (λ z. omega arith))

pub string_whole : {q : List ℕ} → Qds q → (s : List ℕ) (at : ℕ) (r : List ℕ) {e : ℕ} → Closing s at e → drop at s ≡ q ++ (34 ∷ r)
    → at + (length q + 1) ≡ e
string_whole Qds.none s at r w e =
    let p = peek_first s at e in let z = closing_quoted s at w (inside s at (λ z. omega arith)) p in omega arith
string_whole (Qds.more q t h hs j) s at r w e =
    let d : drop at s ≡ q ++ (t ++ (34 ∷ r)) = e ∙ ap (λ (l : List ℕ). l ++ (34 ∷ r)) j ∙ append_assoc q t (34 ∷ r) in
    let (l, n, m) = opened s at (t ++ (34 ∷ r)) (qd_opens h) d in
    let v = closing_goes s at w l (length q) n (sym (qd_whole s at (t ++ (34 ∷ r)) h d)) m in
    let z = string_whole hs s (at + length q) r v (behind s at q (t ++ (34 ∷ r)) d) in
    let a = ap length j in let b = length-append q t in omega arith

-- a string up to its closing quote, at the front of a text
abbrev pub Closed : List ℕ → Type 0
Closed t = (q : List ℕ) × (r : List ℕ) × Qds q × (t ≡ q ++ (34 ∷ r))

pub string_found : (k : ℕ) (s : List ℕ) (at : ℕ) → (closes k s at ≡ 0 → ⊥) → Closed (drop at s)
unfolding closes
string_found zero s at h = absurd (h refl)
string_found (suc k) s at h = go (string_found k s (at + qd_length s at))
  where
    go : ((closes k s (at + qd_length s at) ≡ 0 → ⊥) → Closed (drop (at + qd_length s at) s))
        → Closed (drop at s)
    go later =
        cond_cases (λ n. (n ≡ 0 → ⊥) → Closed (drop at s)) (eqb (get_or s at 0) 34)
        (λ e g. let p = eqb-true (get_or s at 0) 34 e in ([], drop (at + 1) s, Qds.none, rw p at (front s at (λ z. omega arith))))
        (λ e. cond_cases (λ n. (n ≡ 0 → ⊥) → Closed (drop at s)) (eqb (qd_length s at) 0)
        (λ f g. absurd (g refl))
        (λ f g.
        let (t, r, ts, d) = later g in
        let (q, u, hq, e) = qd_found s at (eqb-false (qd_length s at) 0 f) in
        let n = qd_whole s at u hq e in
        let b : u ≡ t ++ (34 ∷ r) = sym (behind s at q u e) ∙ ap (λ (i : ℕ). drop (at + i) s) (sym n) ∙ d in
        (q ++ t, r, Qds.more q t hq ts refl, e ∙ ap (λ (l : List ℕ). q ++ l) b ∙ sym (append_assoc q t (34 ∷ r)))))
        h

-- ---- a value

token_opens : {u : List ℕ} → Token u → Opens u
unfolding token_char
token_opens (Token.one {c} e) = opens c (λ z. false≢true (rw z at e)) (λ z. false≢true (rw z at e))
token_opens (Token.more {c} e t) = opens c (λ z. false≢true (rw z at e)) (λ z. false≢true (rw z at e))

pub token_at : (s : List ℕ) (at : ℕ) {u : List ℕ} (r : List ℕ) → Token u → Stops r → drop at s ≡ u ++ r → token_end s at ≡ at + length u
token_at s at r t h e = ap (λ (n : ℕ). at + n) (ap token_length e ∙ token_whole r t h)

pub value_whole : (s : List ℕ) (at : ℕ) {v : List ℕ} (r : List ℕ) → Value v → Stops r → drop at s ≡ v ++ r → value_end s at ≡ at + length v
unfolding value_end
value_whole s at r (Value.token t) h e = rw (opened s at r (token_opens t) e).1 (token_at s at r t h e)
value_whole s at {v} r (Value.quoted q qs j) h e =
    let d : drop at s ≡ (34 ∷ []) ++ (q ++ (34 ∷ r)) = e ∙ ap (λ (l : List ℕ). l ++ r) j ∙ ap (λ (l : List ℕ). 34 ∷ l) (append_assoc q (34 ∷ []) r) in
    let w : Closing s (at + 1) (closes (length s) s (at + 1)) = record { left = length s; enough = omega arith; same = refl } in
    let z = string_whole qs s (at + 1) r w (behind s at (34 ∷ []) (q ++ (34 ∷ r)) d) in
    let a = ap length j in let b = length-append q (34 ∷ []) in
    rw (eq-eqb (get_or s at 0) 34 (peek_first s at d)) (omega arith)

-- a rule that holds of the text from a place to n
abbrev pub To : (List ℕ → Type 0) → List ℕ → ℕ → ℕ → Type 0
To P s at n = (u : List ℕ) × (r : List ℕ) × P u × (drop at s ≡ u ++ r) × (n ≡ at + length u)

pub token_here : (s : List ℕ) (at : ℕ) → at < token_end s at → To Token s at (token_end s at)
token_here s at h = go (token_length (drop at s)) refl
  where
    go : (n : ℕ) → token_length (drop at s) ≡ n → To Token s at (token_end s at)
    go zero e = absurd (omega arith)
    go (suc n) e =
        let k = token_length (drop at s) in
        let l : length (take k (drop at s)) ≡ k = omega (arith, length-take k (drop at s), token_within (drop at s)) in
        (take k (drop at s), drop k (drop at s), token_found (drop at s) n e, sym (take-append-drop k (drop at s)), ap (λ (i : ℕ). at + i) (sym l))

pub value_found : (s : List ℕ) (at : ℕ) → at < value_end s at → To Value s at (value_end s at)
unfolding value_end
value_found s at h =
    cond_cases (λ n. at < n → To Value s at n) (eqb (get_or s at 0) 34)
    (λ e g.
    let (q, r, qs, d) = string_found (length s) s (at + 1) (λ z. omega arith) in
    let p = eqb-true (get_or s at 0) 34 e in
    let w : Closing s (at + 1) (closes (length s) s (at + 1)) = record { left = length s; enough = omega arith; same = refl } in
    let z = string_whole qs s (at + 1) r w d in
    let b = length-append q (34 ∷ []) in (
      34 ∷ (q ++ (34 ∷ [])),
      r,
      Value.quoted q qs refl,
      rw p at (front s at (λ z. omega arith)) ∙ ap (λ (l : List ℕ). 34 ∷ l) (d ∙ sym (append_assoc q (34 ∷ []) r)),
      omega arith,
    ))
    (λ e g. let (u, r, t, d, n) = token_here s at g in (u, r, Value.token t, d, n))
    h
