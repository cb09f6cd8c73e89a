-- The two profiles agree but for refusal 3. Assumes nothing.
use Rattle.std.specs.Prelude.{Result, Ok, Err}
use Prim.Native.Nat.{ℕ, ◌+◌, ◌≤◌}
use mathlib.Core.Path.{◌≡◌, refl, sym, ap, ◌∙◌}
use mathlib.Core.Bool.{Bool, true, false}
use mathlib.Core.List.{List, [], ◌∷◌, ◌++◌, map, flat_map}
use mathlib.Core.Logic.{◌⊎◌, inl, inr, ⊎_elim}
use native.Mathlib.Omega.{arith}
use borrow.Author.Tests.{leb-true}
use lib.Dec.{eqb}
use lib.ListN.{length}
use Rattle.answers.proofs.Conditions.{all_true}
use Rattle.answers.specs.Refusals.{number_of}
use Rattle.answers.specs.declared.Refusal.{Refusal}
use Rattle.answers.specs.declared.Refusal.TheVariants.{FirstPacket, BlockSize}
use Rattle.rtcp.specs.declared.Compound.{Compound}
use Rattle.rtcp.specs.declared.Profile.{Profile}
use Rattle.rtcp.specs.Header.{size, header_at}
use Rattle.rtcp.specs.Packets.{Check, must, first_fault, is_report, may_stand, body_end}
use Rattle.rtcp.specs.Compound.{begins, any, unless_faulty, packets, blocks, size_checks, block_check, checks_of, found, reading}
use Rattle.rtcp.specs.Theorems.{ProfilesAgree}
use Rattle.rtcp.proofs.Begins.{begins_next}
use Rattle.rtcp.proofs.Whole.{tests, passed}
use Rattle.rtcp.proofs.Left.{verdict_of, read_of}

-- ---- lists of tests that differ in those for 3, which the second has not

record Alike (xs ys : List Check) : Type 0 where
  same : (first_fault xs ≡ first_fault ys) ⊎ (first_fault xs ≡ Err FirstPacket)
  never : first_fault ys ≡ Err FirstPacket → ⊥

none : Alike [] []
none = record { same = inl refl; never = λ e. let z : ◌≡◌ {A = ℕ} 0 1 = cc in absurd (omega arith) }

not_three : (r : Refusal) → eqb (number_of r) 3 ≡ false → ◌≡◌ {A = Result Unit Refusal} (Err r) (Err FirstPacket) → ⊥
not_three r n e =
    let is : r ≡ FirstPacket = cc in
    let t : true ≡ false = sym (ap (λ (r : Refusal). eqb (number_of r) 3) is) ∙ n in
    let z : ◌≡◌ {A = ℕ} 0 1 = cc in
    absurd (omega arith)

other : {xs ys : List Check} (t : Bool) (r : Refusal) → eqb (number_of r) 3 ≡ false → Alike xs ys → Alike (must t r ∷ xs) (must t r ∷ ys)
other true r n h = record { same = h.same; never = h.never }
other false r n h = record { same = inl refl; never = not_three r n }

three : {xs ys : List Check} (t : Bool) → Alike xs ys → Alike (must t FirstPacket ∷ xs) (must true FirstPacket ∷ ys)
three true h = record { same = h.same; never = h.never }
three false h = record { same = inr refl; never = h.never }

module _ (b : List ℕ) where
  blocks_alike : {xs ys : List Check} (end : ℕ) (bs : List ℕ) → Alike xs ys → Alike (map (block_check b end) bs ++ xs) (map (block_check b end) bs ++ ys)
  blocks_alike end [] h = h
  blocks_alike end (at ∷ bs) h = other _ BlockSize refl (blocks_alike end bs h)

  packets_alike : (ps : List ℕ) → Alike (flat_map (checks_of b Profile.Compound) ps) (flat_map (checks_of b Profile.ReducedSize) ps)
  unfolding flat_map may_stand
  packets_alike [] = none
  packets_alike (at ∷ ps) =
      other _ _ refl
      (other _ _ refl
      (other _ _ refl
      (other _ _ refl
      (three _
      (other _ _ refl
      (blocks_alike (body_end (header_at b at) b at) (blocks b at) (packets_alike ps)))))))

  -- all tests of a compound whose packets begin at `ps`
  abbrev tests_of : Profile → List ℕ → List Check
  tests_of profile ps = size_checks b ++ flat_map (checks_of b profile) ps

  all_alike : Alike (tests_of Profile.Compound (packets b)) (tests_of Profile.ReducedSize (packets b))
  all_alike = other _ _ refl (other _ _ refl (packets_alike (packets b)))

-- ---- what is read

-- the old profile reads no compound without an SR or an RR: the packet at the front is one
has_report : (b : List ℕ) (media : ℕ) → first_fault (tests_of b Profile.Compound (packets b)) ≡ (Ok tt) → (found b media).reporting ≡ true
unfolding flat_map may_stand
has_report b media e =
    let all = tests_of b Profile.Compound (packets b) in
    let some : 1 ≤ length b = leb-true 1 (length b) (all_true (tests all) 0 (passed all e)) in
    let front : packets b ≡ 0 ∷ begins b (0 + size b 0) (length b) = begins_next b (length b) 0 (omega arith) in
    let same = tests_of b Profile.Compound (0 ∷ begins b (0 + size b 0) (length b)) in
    let report : is_report (header_at b 0) ≡ true = all_true (tests same) 6 (passed same (ap (λ (ps : List ℕ). first_fault (tests_of b Profile.Compound ps)) (sym front) ∙ e)) in
    ap (λ (ps : List ℕ). any (map (λ at. is_report (header_at b at)) ps)) front ∙ rw report

pub profiles_agree : ProfilesAgree
unfolding reading
profiles_agree b media =
    let tests = all_alike b in
    let out : Result Unit Refusal → (Result Compound Refusal) = λ v. unless_faulty v (found b media) in
    let alike : (reading b media Profile.Compound ≡ reading b media Profile.ReducedSize) ⊎ (reading b media Profile.Compound ≡ Err FirstPacket) =
    ⊎_elim (λ e. inl (ap out e)) (λ e. inr (ap out e)) tests.same in
    record {
      alike = alike;
      never = λ e. tests.never (verdict_of _ (found b media) FirstPacket e);
      accepted = λ c e. (
        ⊎_elim (λ s. sym s ∙ e) (λ s. let z : ◌≡◌ {A = ℕ} 0 1 = cc in absurd (omega arith)) alike,
        let r = read_of _ (found b media) c e in ap (λ (c : Compound). c.reporting) (sym r.1) ∙ has_report b media r.0,
      );
      refused = λ r n e. ⊎_elim (λ s. sym s ∙ e) (λ s. let is : r ≡ FirstPacket = cc in absurd (n is)) alike;
    }
