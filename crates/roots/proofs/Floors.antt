-- Scaled roots, rounded down, and the rule by squares. Assumes nothing.
use mathlib.Core.Path.{◌≡◌, refl, sym, ◌∙◌, ap, subst}
use mathlib.Core.Bool.{Bool, true, false, cond, true≢false}
use mathlib.Core.Logic.{⊎_elim}
use Prim.Native.Nat.{ℕ, zero, suc, ◌+◌, ◌*◌, ◌^◌, ◌<◌, ◌≤◌}
use native.Mathlib.Nat.{mul-le-mul, mul-le-mul_right, mul-le-mul_left, le_antisymm, le_trans, lt_of_not-le, le-suc_iff, eq-zero-or-pos, pos_of_ne-zero, mul-one}
use native.Mathlib.Omega.{arith}
use borrow.Author.Tests.{le-leb, leb-true}
use lib.Dec.{T, leb, ltb, lit<, lit≤}
use Rattle.roots.specs.Fractions.{Fraction}
use Rattle.roots.specs.Roots.{greatest, scaled_root, Floor}
use Rattle.roots.specs.Theorems.{RootsAreFloors, OneFloor, NeverFall}

-- ---- the greatest number that passes a test

passes : (test : ℕ → Bool) (k : ℕ) → test 0 ≡ true → test (greatest test k) ≡ true
unfolding greatest
passes test zero h = h
passes test (suc k) h = go (test (suc k)) refl (passes test k h)
  where
    go : (t : Bool) → test (suc k) ≡ t → test (greatest test k) ≡ true → test (cond t (suc k) (greatest test k)) ≡ true
    go true e below = e
    go false e below = below

is_greatest : (test : ℕ → Bool) (k r : ℕ) → r ≤ k → test r ≡ true → r ≤ greatest test k
unfolding greatest
is_greatest test zero r l h = l
is_greatest test (suc k) r l h = go (test (suc k)) refl (λ l'. is_greatest test k r l' h)
  where
    go : (t : Bool) → test (suc k) ≡ t → (r ≤ k → r ≤ greatest test k) → r ≤ cond t (suc k) (greatest test k)
    go true e below = l
    go false e below = ⊎_elim below (λ same. absurd (true≢false (sym h ∙ ap test same ∙ e))) (le-suc_iff.0 l)

-- ---- squares

-- a number whose square is below another's
pub square_below : (b r q : ℕ) → r * r * b < (q + 1) * (q + 1) * b → r ≤ q
square_below b r q h =
    let less : r < q + 1 = lt_of_not-le λ l. omega (arith, mul-le-mul_right b (mul-le-mul l l)) in
    omega arith

-- no number is above its square
own_square : (b r : ℕ) → 0 < b → r ≤ r * r * b
own_square b r h = ⊎_elim (λ e. omega arith) (λ l. omega (arith, mul-le-mul_right r l, mul-le-mul_left (r * r) h)) (eq-zero-or-pos r)

-- ---- the rule

abbrev scaled : Fraction → ℕ
scaled x = 2 ^ 40 * x.top

-- a floor does not fall where the square grows
pub grows : {x y : Fraction} {r q : ℕ} → x.bottom ≡ y.bottom → x.top ≤ y.top → Floor x r → Floor y q → r ≤ q
grows {x} {y} {r} {q} e l f g =
    let same : r * r * y.bottom ≤ scaled x = subst (λ (b : ℕ). r * r * b ≤ scaled x) e f.low in
    square_below y.bottom r q (omega (arith, g.next))

-- no number is a floor of a fraction with bottom 0
pub bottom_positive : {x : Fraction} {r : ℕ} → Floor x r → 0 < x.bottom
bottom_positive {x} {r} f = pos_of_ne-zero λ e. omega (arith, subst (λ (b : ℕ). scaled x < (r + 1) * (r + 1) * b) e f.next)

-- ---- the scaled root keeps the rule, and no other number does

pub floor_root : (x : Fraction) → 0 < x.bottom → Floor x (scaled_root x)
unfolding scaled_root
floor_root x h = record { low = below; next = above }
  where
    test : ℕ → Bool
    test r = leb (r * r * x.bottom) (scaled x)

    root : ℕ
    root = greatest test (scaled x)

    below : root * root * x.bottom ≤ scaled x
    below =
        let none : 0 * 0 * x.bottom ≤ scaled x = omega arith in
        leb-true (root * root * x.bottom) (scaled x) (passes test (scaled x) (le-leb (0 * 0 * x.bottom) (scaled x) none))

    above : scaled x < (root + 1) * (root + 1) * x.bottom
    above =
        lt_of_not-le λ l.
        let within : root + 1 ≤ scaled x = le_trans (own_square x.bottom (root + 1) h) l in
        omega (arith, is_greatest test (scaled x) (root + 1) within (le-leb _ _ l))

pub one_floor : OneFloor
one_floor x r f =
    let g = floor_root x (bottom_positive f) in
    le_antisymm (grows refl (omega arith) f g) (grows refl (omega arith) g f)

-- a scaled root whose rule is computed
pub computed : (x : Fraction) (r : ℕ) → T (leb (r * r * x.bottom) (2 ^ 40 * x.top)) → T (ltb (2 ^ 40 * x.top) ((r + 1) * (r + 1) * x.bottom)) → scaled_root x ≡ r
computed x r low next = sym (one_floor x r (record { low = lit≤ low; next = lit< next }))

-- the scaled root of at most 1 is at most 2^20
pub unit_root : {x : Fraction} {r : ℕ} → x.top ≤ x.bottom → Floor x r → r ≤ 2 ^ 20
unit_root {x} {r} l f = square_below x.bottom r (2 ^ 20) (omega (arith, f.low, bottom_positive f))

-- ---- the two roots

-- of a fraction top · n / bottom, and as the radicand has it
pub as_radicand : (top bottom n : ℕ) → scaled_root (record { top = top * n; bottom = bottom }) ≡ scaled_root (record { top = top * n * 1; bottom = bottom })
as_radicand top bottom n = ap (λ (t : ℕ). scaled_root (record { top = t; bottom = bottom })) (sym (mul-one (top * n)))

floor_at : (top bottom n : ℕ) → 0 < bottom → Floor (record { top = top * n; bottom = bottom }) (scaled_root (record { top = top * n * 1; bottom = bottom }))
floor_at top bottom n h =
    let x : Fraction = record { top = top * n; bottom = bottom } in
    subst (λ (r : ℕ). Floor x r) (as_radicand top bottom n) (floor_root x h)

pub roots_are_floors : RootsAreFloors
roots_are_floors n = (floor_at 2 3072 n (omega arith), floor_at 3 8192 n (omega arith))

pub never_fall : NeverFall
never_fall m n l =
    (grows refl (mul-le-mul_left 2 l) (roots_are_floors m).0 (roots_are_floors n).0, grows refl (mul-le-mul_left 3 l) (roots_are_floors m).1 (roots_are_floors n).1)
