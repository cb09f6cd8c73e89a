-- Laws of lists of packets: members, the greatest number, how many are different, marks. Assumes nothing.
use mathlib.Core.Path.{◌≡◌, refl, sym, ap, ap₂, ◌∙◌, subst}
use mathlib.Core.Logic.{⊎_elim}
use mathlib.Core.Bool.{Bool, true, false, not, ◌||◌}
use mathlib.Core.List.{List, [], ◌∷◌}
use Prim.Native.Nat.{ℕ, ◌+◌, ◌≤◌, ◌<◌}
use native.Mathlib.Nat.{le_of_eq}
use native.Mathlib.Omega.{arith}
use lib.Dec.{T, leb→le, le→leb}
use lib.IntN.{ℤ, pos, ◌-ℤ◌}
use lib.ListN.{length}
use lib.Signed.{le_z}
use Rattle.numbers.specs.Integers.{eq_z}
use Rattle.answers.proofs.Conditions.{is_false, true_is, same_test, or_cases, or_left, or_right}
use Rattle.numbers.proofs.Integers.{eq_z_refl, eq_z_eq, le_z_refl, le_z_trans, le_z_minus, minus_inj}
use Rattle.source.specs.Places.{bit}
use Rattle.source.proofs.Rows.{bit_le, marked, marked_ext, marked_or, marked_none, marked_one}
use Rattle.source.proofs.Kept.{one_mark}
use Rattle.demands.specs.Calls.{TruePacket, max_z}
use Rattle.demands.specs.Count.{greatest, mem, distinct_of, tally}
use Rattle.demands.proofs.Numbers.{max_z_cases, le_max_z_left, le_max_z_right, max_z_left, max_z_right}

-- ---- the greatest number

pub member_le : (z : ℤ) (p : TruePacket) (ps : List TruePacket) → T (mem z (p ∷ ps)) → T (le_z z (greatest p.number ps))
member_le z p [] t = ⊎_elim
    (λ u. subst (λ (y : ℤ). T (le_z z y)) (eq_z_eq z p.number u) (le_z_refl z))
    (λ u. absurd u) (or_cases (eq_z z p.number) false t)
member_le z p (q ∷ qs) t = ⊎_elim
    (λ u. subst (λ (y : ℤ). T (le_z y (max_z p.number (greatest q.number qs)))) (sym (eq_z_eq z p.number u)) (le_max_z_left p.number (greatest q.number qs)))
    (λ u. le_z_trans z (greatest q.number qs) (max_z p.number (greatest q.number qs)) (member_le z q qs u) (le_max_z_right p.number (greatest q.number qs)))
    (or_cases (eq_z z p.number) (mem z (q ∷ qs)) t)

pub greatest_in_lem : (p : TruePacket) (ps : List TruePacket) → T (mem (greatest p.number ps) (p ∷ ps))
greatest_in_lem p [] = or_left (eq_z p.number p.number) false (eq_z_refl p.number)
greatest_in_lem p (q ∷ qs) =
    max_z_cases p.number (greatest q.number qs) (λ z. T (mem z (p ∷ (q ∷ qs))))
    (λ t. or_right (eq_z (greatest q.number qs) p.number) (mem (greatest q.number qs) (q ∷ qs)) (greatest_in_lem q qs))
    (λ t. or_left (eq_z p.number p.number) (mem p.number (q ∷ qs)) (eq_z_refl p.number))

-- no number above the greatest is in the list
pub above_out : (n m : ℕ) (p : TruePacket) (ps : List TruePacket) → greatest p.number ps ≡ pos n → n < m → mem (pos m) (p ∷ ps) ≡ false
above_out n m p ps e h = is_false (mem (pos m) (p ∷ ps)) (λ t.
    let l : m ≤ n = leb→le m n (subst (λ (z : ℤ). T (le_z (pos m) z)) e (member_le (pos m) p ps t)) in omega arith)

-- a packet near the greatest number n: the new greatest, and whether it is new
module _ (n : ℕ) (p q : TruePacket) (qs : List TruePacket) (top : greatest q.number qs ≡ pos n) where
  pub top_above : (d : ℕ) → p.number ≡ pos (n + d) → greatest p.number (q ∷ qs) ≡ pos (n + d)
  top_above d e = ap₂ max_z e top ∙ max_z_left (pos (n + d)) (pos n) (le→leb n (n + d) (omega arith))

  pub top_below : (k : ℕ) → p.number ≡ pos n -ℤ pos k → greatest p.number (q ∷ qs) ≡ pos n
  top_below k e = ap₂ max_z e top ∙ max_z_right (pos n -ℤ pos k) (pos n) (le_z_minus n k)

  pub new_above : (d : ℕ) → 1 ≤ d → p.number ≡ pos (n + d) → mem p.number (q ∷ qs) ≡ false
  new_above d h e = ap (λ (z : ℤ). mem z (q ∷ qs)) e ∙ above_out n (n + d) q qs top (omega arith)

-- ---- how many are different

pub distinct_le : (ps : List TruePacket) → distinct_of ps ≤ length ps
distinct_le [] = omega arith
distinct_le (p ∷ ps) = omega (arith, distinct_le ps, bit_le (not (mem p.number ps)))

pub distinct_some : (p : TruePacket) (ps : List TruePacket) → 1 ≤ distinct_of (p ∷ ps)
distinct_some p [] = omega arith
distinct_some p (q ∷ qs) = omega (arith, distinct_some q qs)

-- a number that is in the list already adds none
mem_again : (z : ℤ) (p : TruePacket) (ps : List TruePacket) → T (mem p.number ps) → mem z (p ∷ ps) ≡ mem z ps
mem_again z p ps h = same_test (eq_z z p.number || mem z ps) (mem z ps)
    (λ t. ⊎_elim (λ u. subst (λ (y : ℤ). T (mem y ps)) (sym (eq_z_eq z p.number u)) h) (λ u. u) (or_cases (eq_z z p.number) (mem z ps) t))
    (λ t. or_right (eq_z z p.number) (mem z ps) t)

-- the places counted down from n that are in the list are no more than its different numbers
pub marked_distinct : (n w : ℕ) (ps : List TruePacket) → marked w (λ k. mem (pos n -ℤ pos k) ps) ≤ distinct_of ps
marked_distinct n w [] = le_of_eq (marked_none w (λ k. false) (λ k l t. t))
marked_distinct n w (p ∷ ps) = go (mem p.number ps) refl (marked_distinct n w ps)
  where
    at : ℕ → ℤ
    at k = pos n -ℤ pos k

    go : (b : Bool) → mem p.number ps ≡ b → marked w (λ k. mem (at k) ps) ≤ distinct_of ps
        → marked w (λ k. eq_z (at k) p.number || mem (at k) ps) ≤ distinct_of ps + bit (not (mem p.number ps))
    go true e ih =
        let same : marked w (λ k. eq_z (at k) p.number || mem (at k) ps) ≡ marked w (λ k. mem (at k) ps) =
        marked_ext w (λ k. eq_z (at k) p.number || mem (at k) ps) (λ k. mem (at k) ps) (λ k l. mem_again (at k) p ps (true_is (mem p.number ps) e))
        in omega arith
    go false e ih =
        let one : marked w (λ k. eq_z (at k) p.number) ≤ 1 =
        marked_one w (λ k. eq_z (at k) p.number) (λ j k s t. minus_inj n j k (eq_z_eq (at j) p.number s ∙ sym (eq_z_eq (at k) p.number t))) in
        let b : bit (not (mem p.number ps)) ≡ 1 = ap (λ (c : Bool). bit (not c)) e in
        omega (arith, marked_or w (λ k. eq_z (at k) p.number) (λ k. mem (at k) ps))

-- ---- marks

-- each mark is at most 3
abbrev pub Marks : List TruePacket → Type 0
Marks [] = Unit {0}
Marks (p ∷ ps) = (p.mark ≤ 3) × Marks ps

pub tally_sum : (ps : List TruePacket) → Marks ps → tally 0 ps + tally 1 ps + tally 2 ps + tally 3 ps ≡ length ps
tally_sum [] m = refl
tally_sum (p ∷ ps) m = omega (arith, tally_sum ps m.1, one_mark p.mark m.0)
