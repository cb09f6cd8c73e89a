-- The lines in lent words, 13 to a line. Assumes nothing.
use mathlib.Core.Path.{◌≡◌, refl, sym, ap, ap₂, ◌∙◌}
use mathlib.Core.List.{List, [], ◌∷◌, ◌++◌, append_assoc}
use Prim.Native.Nat.{ℕ, zero, suc, ◌+◌, ◌-◌, ◌*◌, ◌≤◌, ◌<◌}
use native.Mathlib.Nat.{add-zero}
use native.Mathlib.Omega.{arith}
use lib.ListN.{length, take, drop, get_or}
use lib.Seq.{drop-drop, take-add, get_or-take, get_or-drop}
use Rattle.walk.specs.Blocks.{joined}
use Rattle.mixed.specs.Lines.{lines_in, ssrc_in}

pub length-lines : (n : ℕ) (ws : List ℕ) → length (lines_in n ws) ≡ n
unfolding lines_in
length-lines zero ws = refl
length-lines (suc n) ws = ap suc (length-lines n (drop 13 ws))

-- the words behind one line more
behind : (k : ℕ) (ws : List ℕ) → drop (13 * k) (drop 13 ws) ≡ drop (13 * suc k) ws
behind k ws = let e : 13 + 13 * k ≡ 13 * suc k = omega arith in drop-drop (13 * k) 13 ws ∙ ap (λ (m : ℕ). drop m ws) e

pub lines_take : (k n : ℕ) (ws : List ℕ) → k ≤ n → take k (lines_in n ws) ≡ lines_in k ws
unfolding lines_in
lines_take zero n ws h = refl
lines_take (suc k) zero ws h = absurd (omega arith)
lines_take (suc k) (suc n) ws h = ap (λ (ls : List (List ℕ)). take 13 ws ∷ ls) (lines_take k n (drop 13 ws) (omega arith))

pub lines_drop : (k n : ℕ) (ws : List ℕ) → drop k (lines_in n ws) ≡ lines_in (n - k) (drop (13 * k) ws)
unfolding lines_in
lines_drop zero n ws = let e : n ≡ n - 0 = omega arith in ap (λ (m : ℕ). lines_in m ws) e
lines_drop (suc k) zero ws = let e : 0 ≡ 0 - suc k = omega arith in ap (λ (m : ℕ). lines_in m (drop (13 * suc k) ws)) e
lines_drop (suc k) (suc n) ws =
    let e : n - k ≡ suc n - suc k = omega arith in
    lines_drop k n (drop 13 ws) ∙ ap₂ (λ (m : ℕ) (l : List ℕ). lines_in m l) e (behind k ws)

pub line_at_lem : (i n : ℕ) (ws : List ℕ) → i < n → get_or (lines_in n ws) i [] ≡ take 13 (drop (13 * i) ws)
unfolding lines_in
line_at_lem i zero ws h = absurd (omega arith)
line_at_lem zero (suc n) ws h = refl
line_at_lem (suc i) (suc n) ws h = line_at_lem i n (drop 13 ws) (omega arith) ∙ ap (take 13) (behind i ws)

pub ssrc_at_lem : (i : ℕ) (ws : List ℕ) → ssrc_in (take 13 (drop (13 * i) ws)) ≡ get_or ws (13 * i) 0
ssrc_at_lem i ws = get_or-take 13 (drop (13 * i) ws) 0 0 (omega arith) ∙ get_or-drop (13 * i) ws 0 0 ∙ ap (λ (m : ℕ). get_or ws m 0) (add-zero (13 * i))

-- ---- from line i on

pub lines_turn : (n i : ℕ) (ws : List ℕ) → i < n
    → lines_in (n - i) (drop (13 * i) ws) ≡ take 13 (drop (13 * i) ws) ∷ lines_in (n - (i + 1)) (drop (13 * (i + 1)) ws)
unfolding lines_in
lines_turn n i ws h =
    let e : n - i ≡ suc (n - (i + 1)) = omega arith in
    let f : 13 * i + 13 ≡ 13 * (i + 1) = omega arith in
    ap (λ (m : ℕ). lines_in m (drop (13 * i) ws)) e
    ∙ ap (λ (l : List ℕ). take 13 (drop (13 * i) ws) ∷ lines_in (n - (i + 1)) l) (drop-drop 13 (13 * i) ws ∙ ap (λ (m : ℕ). drop m ws) f)

pub lines_done : (n i : ℕ) (ws : List ℕ) → n ≤ i → lines_in (n - i) ws ≡ []
unfolding lines_in
lines_done n i ws h = let e : n - i ≡ 0 = omega arith in ap (λ (m : ℕ). lines_in m ws) e

-- ---- put together

pub joined_lines : (n : ℕ) (ws : List ℕ) → joined (lines_in n ws) ≡ take (13 * n) ws
unfolding lines_in
joined_lines zero ws = refl
joined_lines (suc n) ws =
    let e : 13 + 13 * n ≡ 13 * suc n = omega arith in
    ap (λ (l : List ℕ). take 13 ws ++ l) (joined_lines n (drop 13 ws)) ∙ sym (take-add 13 (13 * n) ws) ∙ ap (λ (m : ℕ). take m ws) e

pub joined_append : (xs ys : List (List ℕ)) → joined (xs ++ ys) ≡ joined xs ++ joined ys
joined_append [] ys = refl
joined_append (x ∷ xs) ys = ap (λ (l : List ℕ). x ++ l) (joined_append xs ys) ∙ sym (append_assoc x (joined xs) (joined ys))

-- some lines in front, one, and those from another on
pub joined_with : (n at k : ℕ) (ws new : List ℕ) → at ≤ n
    → joined (take at (lines_in n ws) ++ new ∷ drop k (lines_in n ws)) ≡ take (13 * at) ws ++ (new ++ take (13 * (n - k)) (drop (13 * k) ws))
joined_with n at k ws new h =
    joined_append (take at (lines_in n ws)) (new ∷ drop k (lines_in n ws))
    ∙ ap (λ (l : List (List ℕ)). joined l ++ (new ++ joined (drop k (lines_in n ws)))) (lines_take at n ws h)
    ∙ ap (λ (l : List (List ℕ)). joined (lines_in at ws) ++ (new ++ joined l)) (lines_drop k n ws)
    ∙ ap (λ (l : List ℕ). l ++ (new ++ joined (lines_in (n - k) (drop (13 * k) ws)))) (joined_lines at ws)
    ∙ ap (λ (l : List ℕ). take (13 * at) ws ++ (new ++ l)) (joined_lines (n - k) (drop (13 * k) ws))
