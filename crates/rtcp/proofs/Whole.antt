-- A packet without a fault is whole, with its padding and its body inside. Assumes nothing.
use Rattle.std.specs.Prelude.{Ok}
use Prim.Native.Nat.{ℕ, ◌+◌, ◌-◌, ◌*◌, ◌≤◌}
use mathlib.Core.Path.{◌≡◌, refl, ◌∙◌}
use mathlib.Core.Bool.{Bool, true, false, cond}
use mathlib.Core.List.{List, [], ◌∷◌}
use native.Mathlib.Omega.{arith}
use borrow.Author.Tests.{leb-true, eqb-true}
use lib.Dec.{leb, eqb}
use lib.ListN.{length}
use Rattle.answers.specs.Conditions.{all}
use Rattle.answers.proofs.Conditions.{cond_ends, all_true, and_left}
use Rattle.rtcp.specs.declared.Profile.{Profile}
use Rattle.rtcp.specs.Layout.{sr, rtpfb, xr, ecn_feedback, sr_head, rr_head, report_size, feedback_size}
use Rattle.rtcp.specs.declared.header.Header.{Header}
use Rattle.rtcp.specs.Header.{padding}
use Rattle.rtcp.specs.Packets.{Check, must, first_fault, is_report, blocks_from, is_feedback, padding_rules, padding_right, body_right, packet_checks, packet_verdict, body_end, Sound}

-- ---- where there is no fault, every test is passed

abbrev pub tests : List Check → List Bool
tests [] = []
tests (must test refusal ∷ rest) = test ∷ tests rest

pub passed : (checks : List Check) → first_fault checks ≡ (Ok tt) → all (tests checks) ≡ true
passed [] e = refl
passed (must true refusal ∷ rest) e = passed rest e
passed (must false refusal ∷ rest) e = let z : ◌≡◌ {A = ℕ} 0 1 = cc in absurd (omega arith)

-- ---- feedback is no SR and no RR

module _ (h : Header) where
  feedback_kind : is_feedback h ≡ true → h.kind ≡ rtpfb
  unfolding is_feedback
  feedback_kind e = eqb-true h.kind rtpfb (and_left (eqb h.kind rtpfb) (eqb h.count ecn_feedback) e)

  not_report : h.kind ≡ rtpfb → is_report h ≡ false
  unfolding is_report
  not_report e = rw e

  -- the header and the SSRC of who sent it stand before the report blocks
  pub blocks_behind : 8 ≤ blocks_from h
  unfolding blocks_from
  blocks_behind = go (eqb h.kind sr)
    where
      go : (t : Bool) → 8 ≤ cond t sr_head rr_head
      go true = omega arith
      go false = omega arith

module _ (h : Header) (b : List ℕ) (at : ℕ) where
  -- ---- padding that is right leaves the header

  pub padding_le : (last : Bool) (p : ℕ) → p ≡ padding h b at → padding_right h last p ≡ true → p ≤ h.size
  unfolding padding_right padding
  padding_le last p is e = go h.padded refl
    where
      go : (t : Bool) → h.padded ≡ t → p ≤ h.size
      go true q =
          let rules : all (padding_rules h last p) ≡ true = cond_ends h.padded (all (padding_rules h last p)) true (all (padding_rules h last p)) q refl ∙ e in
          omega (arith, leb-true (p + 4) h.size (all_true (padding_rules h last p) 3 rules))
      go false q = let none : p ≡ 0 = is ∙ rw q in omega arith

  -- ---- the packet

  module _ (profile : Profile) (e : packet_verdict profile h b at ≡ (Ok tt)) where
    pub sound : Sound h b at
    unfolding packet_verdict
    sound =
        let checks = packet_checks profile h b at in
        let t = passed checks e in
        let room : 4 ≤ length b - at = leb-true 4 (length b - at) (all_true (tests checks) 0 t) in
        let whole : h.size ≤ length b - at = leb-true h.size (length b - at) (all_true (tests checks) 2 t) in
        record {
          whole = omega arith;
          body = all_true (tests checks) 5 t;
          padding = padding_le (eqb (at + h.size) (length b)) (padding h b at) refl (all_true (tests checks) 3 t);
        }

  -- ---- the body

  module _ (s : Sound h b at) where
    -- the report blocks lie in the packet
    pub reports_within : is_report h ≡ true → at + blocks_from h + report_size * h.count ≤ body_end h b at
    unfolding body_right
    reports_within r =
        let fits : leb (blocks_from h + h.count * report_size) (h.size - padding h b at) ≡ true = rw r at s.body in
        omega (arith, leb-true (blocks_from h + h.count * report_size) (h.size - padding h b at) fits)

    pub feedback_within : is_feedback h ≡ true → body_end h b at ≡ at + feedback_size
    unfolding body_right
    feedback_within f =
        let k : h.kind ≡ rtpfb = feedback_kind h f in
        let r : is_report h ≡ false = not_report h k in
        let x : eqb h.kind xr ≡ false = rw k in
        let fits : eqb (h.size - padding h b at) feedback_size ≡ true = rw (r, x, f) at s.body in
        omega (arith, eqb-true (h.size - padding h b at) feedback_size fits)
