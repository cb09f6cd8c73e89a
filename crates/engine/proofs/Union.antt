-- Rows with more places marked: moved twice, counted, and packed. Assumes nothing.
use mathlib.Core.Path.{◌≡◌, refl, sym, ap, ap₂, ◌∙◌}
use mathlib.Core.Bool.{Bool, true, false, not, ◌&&◌, ◌||◌}
use mathlib.Core.List.{List, [], ◌∷◌}
use Prim.Native.Nat.{ℕ, zero, suc, ◌+◌, ◌-◌, ◌*◌, ◌/◌, ◌%◌, ◌≤◌, ◌<◌, min}
use native.Mathlib.Nat.{min-le_left, le_trans, le_refl}
use native.Mathlib.Decide.{dec_le}
use native.Mathlib.Omega.{arith}
use borrow.Author.Tests.{eq-eqb, ne_eqb, le-leb, lt-leb}
use lib.Count.{ones, ones_step}
use lib.Dec.{eqb, eqb→eq, leb, eqb-suc-zero, eqb-zero-suc, eqb-suc-suc}
use lib.ListN.{length}
use Rattle.answers.proofs.Conditions.{same_test, true_is}
use Rattle.source.specs.Places.{bit, pack, history, marks, moved, added}
use Rattle.source.specs.Blocks.{Packet}
use Rattle.source.proofs.Rows.{pack_ext, marked, marked_or, marked_one, marked_none, ones-pack, marks_history, moved_low}
use Rattle.engine.specs.Windows.{below, hits, least}
use Rattle.engine.specs.Settled.{joined}

-- ---- tests of sums

pub eqb_shift : (x k j : ℕ) → eqb (x + k) (j + x) ≡ eqb k j
eqb_shift x k j = same_test (eqb (x + k) (j + x)) (eqb k j)
    (λ t. let z = eqb→eq (x + k) (j + x) t in true_is (eqb k j) (eq-eqb k j (omega arith)))
    (λ t. let z = eqb→eq k j t in true_is (eqb (x + k) (j + x)) (eq-eqb (x + k) (j + x) (omega arith)))

leb_shift : (x u k : ℕ) → x ≤ k → leb u (k - x) ≡ leb (u + x) k
leb_shift x u k l = go (dec_le (u + x) k)
  where
    go : Dec (u + x ≤ k) → leb u (k - x) ≡ leb (u + x) k
    go (yes g) = rw (le-leb u (k - x) (omega arith), le-leb (u + x) k g)
    go (no g) = rw (lt-leb u (k - x) (omega arith), lt-leb (u + x) k (omega arith))

-- ---- moved twice

module _ (row : ℕ → Bool) (u x : ℕ) where
  pub moved_twice : (k : ℕ) → x ≤ k → moved u row (k - x) ≡ moved (u + x) row k
  unfolding moved
  moved_twice k l =
      let e : k - x - u ≡ k - (u + x) = omega arith in
      ap₂ ◌&&◌ (leb_shift x u k l) (ap row e)

  -- a row moved, marked and packed, and moved again
  pub moved_marked : (j k : ℕ) → k < 100 → moved x (marks (history (added j (moved u row)))) k ≡ added (j + x) (moved (u + x) row) k
  unfolding added moved
  moved_marked j k l = go (dec_le x k)
    where
      go : Dec (x ≤ k) → moved x (marks (history (λ i. eqb i j || moved u row i))) k ≡ (eqb k (j + x) || moved (u + x) row k)
      go (yes g) =
          let e : x + (k - x) ≡ k = omega arith in
          let test : eqb (k - x) j ≡ eqb k (j + x) = sym (eqb_shift x (k - x) j) ∙ ap (λ (i : ℕ). eqb i (j + x)) e in
          rw (le-leb x k g)
          (marks_history (λ i. eqb i j || moved u row i) (k - x) (omega arith)
          ∙ ap₂ ◌||◌ test (moved_twice k g))
      go (no g) =
          let low : moved (u + x) row k ≡ false = moved_low (u + x) k row (omega arith) in
          rw (lt-leb x k (omega arith), ne_eqb k (j + x) (λ z. omega arith)) (sym low)

-- ---- counted

-- the ones of a packed row, the lowest place first
ones-front : (n : ℕ) (row : ℕ → Bool) → ones (pack (suc n) row) ≡ bit (row 0) + ones (pack n (λ k. row (suc k)))
unfolding pack
ones-front n row = go (row 0)
  where
    rest : ℕ
    rest = pack n (λ k. row (suc k))

    go : (b : Bool) → ones (bit b + 2 * rest) ≡ bit b + ones rest
    go true =
        let low : (1 + 2 * rest) % 2 ≡ 1 = omega arith in
        let high : (1 + 2 * rest) / 2 ≡ rest = omega arith in
        ones_step (1 + 2 * rest) ∙ ap₂ ◌+◌ low (ap ones high)
    go false =
        let low : (0 + 2 * rest) % 2 ≡ 0 = omega arith in
        let high : (0 + 2 * rest) / 2 ≡ rest = omega arith in
        ones_step (0 + 2 * rest) ∙ ap₂ ◌+◌ low (ap ones high)

-- a place marked too is one place more, where it was not marked
pub ones-more : (n j : ℕ) (row : ℕ → Bool) → j < n → ones (pack n (added j row)) ≡ ones (pack n row) + bit (not (row j))
unfolding added
ones-more zero j row h = absurd (omega arith)
ones-more (suc n) zero row h =
    let rest : ones (pack n (λ k. eqb (suc k) 0 || row (suc k))) ≡ ones (pack n (λ k. row (suc k))) =
    ap ones (pack_ext n (λ k. eqb (suc k) 0 || row (suc k)) (λ k. row (suc k)) (λ k l. rw (eqb-suc-zero k) refl)) in
    omega (arith, ones-front n (λ k. eqb k 0 || row k), ones-front n row, flip (row 0))
  where
    flip : (b : Bool) → 1 ≡ bit b + bit (not b)
    flip true = refl
    flip false = refl
ones-more (suc n) (suc j) row h =
    let rest : ones (pack n (λ k. eqb (suc k) (suc j) || row (suc k))) ≡ ones (pack n (λ k. eqb k j || row (suc k))) =
    ap ones (pack_ext n (λ k. eqb (suc k) (suc j) || row (suc k)) (λ k. eqb k j || row (suc k)) (λ k l. rw (eqb-suc-suc k j) refl)) in
    let first : bit (eqb 0 (suc j) || row 0) ≡ bit (row 0) = rw (eqb-zero-suc j) refl in
    omega (arith, ones-front n (λ k. eqb k (suc j) || row k), ones-front n row, ones-more n j (λ k. row (suc k)) (omega arith))

-- and others take none away
pub ones-joined_le : (n : ℕ) (f g : ℕ → Bool) → ones (pack n f) ≤ ones (pack n (λ k. f k || g k))
unfolding pack
ones-joined_le zero f g = le_refl (ones 0)
ones-joined_le (suc n) f g =
    omega (arith, ones-front n f, ones-front n (λ k. f k || g k), bits (f 0) (g 0), ones-joined_le n (λ k. f (suc k)) (λ k. g (suc k)))
  where
    bits : (a b : Bool) → bit a ≤ bit (a || b)
    bits true b = omega arith
    bits false b = omega arith

-- packets lie at no more places than there are packets
pub marked_hits : (n top e : ℕ) (ps : List Packet) → marked n (λ k. hits top ps (e + k)) ≤ length ps
unfolding hits
marked_hits n top e [] = omega (arith, marked_none n (λ k. false) (λ k l t. t))
marked_hits n top e (p ∷ ps) =
    let one : marked n (λ k. eqb (e + k) (below top p)) ≤ 1 =
    marked_one n (λ k. eqb (e + k) (below top p)) (λ i k s t. let y = eqb→eq (e + i) (below top p) s in let z = eqb→eq (e + k) (below top p) t in omega arith) in
    omega (arith, marked_or n (λ k. eqb (e + k) (below top p)) (λ k. hits top ps (e + k)), marked_hits n top e ps)

-- so they add no more places
pub ones-joined : (top d e : ℕ) (ps : List Packet) (row : ℕ → Bool) → ones (pack 64 (joined top d e ps row)) ≤ length ps + ones (pack 64 (moved d row))
ones-joined top d e ps row =
    let more = marked_or 64 (moved d row) (λ k. hits top ps (e + k)) in
    omega (arith, ones-pack 64 (joined top d e ps row), ones-pack 64 (moved d row), marked_hits 64 top e ps)

-- ---- the least place

pub least_le : (top a : ℕ) (ps : List Packet) → least top a ps ≤ a
unfolding least
least_le top a [] = le_refl a
least_le top a (p ∷ ps) = le_trans (least_le top (min a (below top p)) ps) (min-le_left a (below top p))
