-- The packets of each mark, from sums. Assumes nothing.
use Rattle.std.specs.Prelude.{Some}
use mathlib.Core.Path.{◌≡◌, refl, sym, ap, ◌∙◌}
use mathlib.Core.Bool.{true, false}
use mathlib.Core.List.{List, [], ◌∷◌}
use Prim.Native.Nat.{ℕ, zero, suc, ◌+◌, ◌-◌, ◌*◌, ◌/◌, ◌≤◌, ◌<◌}
use native.Mathlib.Omega.{arith}
use borrow.Author.Tests.{le-leb, leb-true}
use lib.Dec.{eqb, leb}
use lib.ListN.{length}
use Rattle.answers.proofs.Conditions.{and_left, and_right, is_false, is_true}
use Rattle.source.specs.Places.{bit}
use Rattle.source.specs.Blocks.{Packet, marks_fit}
use Rattle.source.proofs.Kept.{one_mark}
use Rattle.source.proofs.Totalled.{length-packets}
use Rattle.engine.specs.declared.scans.Sums.{Sums}
use Rattle.engine.specs.Limits.{Held}
use Rattle.engine.specs.Windows.{held}
use Rattle.engine.specs.Settled.{total, numbered}
use Rattle.engine.specs.Scans.{SumsOf, scan_of}

-- what a mark of at most 3 adds to each sum
module _ where
  half : (m : ℕ) → m ≤ 3 → m / 2 ≡ bit (eqb m 2) + bit (eqb m 3)
  half zero h = refl
  half (suc zero) h = refl
  half (suc (suc zero)) h = refl
  half (suc (suc (suc zero))) h = refl
  half (suc (suc (suc (suc m)))) h = absurd (omega arith)

  third : (m : ℕ) → m ≤ 3 → (m + 1) / 4 ≡ bit (eqb m 3)
  third zero h = refl
  third (suc zero) h = refl
  third (suc (suc zero)) h = refl
  third (suc (suc (suc zero))) h = refl
  third (suc (suc (suc (suc m)))) h = absurd (omega arith)

  itself : (m : ℕ) → m ≤ 3 → m ≡ bit (eqb m 1) + 2 * bit (eqb m 2) + 3 * bit (eqb m 3)
  itself zero h = refl
  itself (suc zero) h = refl
  itself (suc (suc zero)) h = refl
  itself (suc (suc (suc zero))) h = refl
  itself (suc (suc (suc (suc m)))) h = absurd (omega arith)

pub record Counts (ps : List Packet) : Type 0 where
  pub threes : total (λ t. (t + 1) / 4) ps ≡ numbered 3 ps
  pub halves : total (λ t. t / 2) ps ≡ numbered 2 ps + numbered 3 ps
  pub whole : total (λ t. t) ps ≡ numbered 1 ps + 2 * numbered 2 ps + 3 * numbered 3 ps
  pub fours : total (λ t. t / 4) ps ≡ 0
  pub all : length ps ≡ numbered 0 ps + numbered 1 ps + numbered 2 ps + numbered 3 ps

pub counts : (ps : List Packet) → marks_fit ps ≡ true → Counts ps
unfolding total
counts [] e = record { threes = refl; halves = refl; whole = refl; fours = refl; all = refl }
counts (p ∷ ps) e =
    let m : p.mark ≤ 3 = leb-true p.mark 3 (and_left (leb p.mark 3) _ e) in
    let rest = counts ps (and_right (leb p.mark 3) _ e) in
    record {
      threes = omega (arith, third p.mark m, rest.threes);
      halves = omega (arith, half p.mark m, rest.halves);
      whole = omega (arith, itself p.mark m, rest.whole);
      fours = omega (arith, m, rest.fours);
      all = omega (arith, one_mark p.mark m, rest.all);
    }

-- a mark above 3 shows
pub no_fours : (ps : List Packet) → total (λ t. t / 4) ps ≡ 0 → marks_fit ps ≡ true
unfolding total
no_fours [] e = refl
no_fours (p ∷ ps) e =
    let m : p.mark ≤ 3 = omega arith in
    let none : total (λ t. t / 4) ps ≡ 0 = omega arith in
    rw (le-leb p.mark 3 m) (no_fours ps none)

pub some_fours : (ps : List Packet) → 0 < total (λ t. t / 4) ps → marks_fit ps ≡ false
some_fours ps h = is_false (marks_fit ps) (λ t. let z = (counts ps (is_true (marks_fit ps) t)).fours in omega arith)

-- and back: the packets of each mark from the sums
module _ (n whole halves threes n0 n1 n2 n3 : ℕ) (w : whole ≡ n1 + 2 * n2 + 3 * n3) (h : halves ≡ n2 + n3) (t : threes ≡ n3) (all : n ≡ n0 + n1 + n2 + n3) where
  pub twice_fit : 2 * halves ≤ whole
  twice_fit = omega arith

  pub ones-fit : threes ≤ whole - 2 * halves
  ones-fit = omega arith

  pub ones_is : whole - 2 * halves - threes ≡ n1
  ones_is = omega arith

  pub zeros_fit : whole - 2 * halves - threes ≤ n
  zeros_fit = omega (arith, ones_is)

  pub halves_fit : halves ≤ n - (whole - 2 * halves - threes)
  halves_fit = let e = ones_is in rw e (omega arith)

  pub zeros_is : n - (whole - 2 * halves - threes) - halves ≡ n0
  zeros_is = let e = ones_is in rw e (omega arith)

  pub threes_fit : threes ≤ halves
  threes_fit = omega arith

  pub twos_is : halves - threes ≡ n2
  twos_is = omega arith

-- as a scan has them
module _ (width : ℕ) (s : List ℕ) (n first : ℕ) (sums : Sums) (h : Held width s n) (of : SumsOf first (held width s) sums) (none : sums.fours ≤ 0) where
  pub fit : marks_fit (held width s) ≡ true
  fit = no_fours (held width s) (omega (arith, of.fours))

  pub known : Counts (held width s)
  known = counts (held width s) fit

  pub known_whole : sums.whole ≡ numbered 1 (held width s) + 2 * numbered 2 (held width s) + 3 * numbered 3 (held width s)
  known_whole = of.whole ∙ known.whole

  pub known_halves : sums.halves ≡ numbered 2 (held width s) + numbered 3 (held width s)
  known_halves = of.halves ∙ known.halves

  pub known_threes : sums.threes ≡ numbered 3 (held width s)
  known_threes = of.threes ∙ known.threes

  pub known_all : n ≡ numbered 0 (held width s) + numbered 1 (held width s) + numbered 2 (held width s) + numbered 3 (held width s)
  known_all = sym (length-packets width (length s / width) s ∙ h.count) ∙ known.all

  pub scanned_is : {notect ect1 ect0 ce off : ℕ} → notect ≡ numbered 0 (held width s) → ect1 ≡ numbered 1 (held width s) → ect0 ≡ numbered 2 (held width s) → ce ≡ numbered 3 (held width s)
      → off ≡ sums.strays → Some (record { notect = notect; ect1 = ect1; ect0 = ect0; ce = ce; strays = off }) ≡ scan_of first (held width s)
  scanned_is a b c d e = rw fit (ap Some (λ i. record { notect = a i; ect1 = b i; ect0 = c i; ce = d i; strays = (e ∙ of.strays) i }))
