-- Which packets are refused (document 01, "Packets" and the order of refusals). `b` is the compound, and a packet with the header `h` begins
-- at `at`.
use Rattle.std.specs.Prelude.{ℕ, ◌+◌, ◌-◌, ◌*◌, ◌%◌, ◌≤◌, ◌≡◌, Bool, true, cond, ◌&&◌, ◌||◌, not, List, [], ◌∷◌, leb, eqb, length, Result, Ok, Err}
use Rattle.answers.specs.Conditions.{all}
use Rattle.answers.specs.declared.Refusal.{Refusal}
use Rattle.answers.specs.declared.Refusal.TheVariants.{Incomplete, Version, FirstPacket, PacketSize, Padding}
use Rattle.rtcp.specs.declared.Profile.{Profile}
use Rattle.rtcp.specs.declared.header.Header.{Header}
use Rattle.rtcp.specs.Layout.{sr, rr, rtpfb, xr, ecn_feedback, header, sr_head, rr_head, xr_head, report_size, feedback_size}
use Rattle.rtcp.specs.Header.{padding}

-- a test that a packet must pass, and the refusal where it does not
pub data Check : Type 0 where
  must : Bool → Refusal → Check

-- the refusal of the first test that is not passed
abbrev pub first_fault : List Check → Result Unit Refusal
first_fault [] = (Ok tt)
first_fault (must test refusal ∷ rest) = cond test (first_fault rest) (Err refusal)

module _ (h : Header) where
  -- an SR or an RR, and what stands before its report blocks
  unfoldable pub is_report : Bool
  is_report = eqb h.kind sr || eqb h.kind rr

  unfoldable pub blocks_from : ℕ
  blocks_from = cond (eqb h.kind sr) sr_head rr_head

  unfoldable pub is_feedback : Bool
  is_feedback = eqb h.kind rtpfb && eqb h.count ecn_feedback

  -- padding is allowed in the last packet only; its count is a multiple of 4, at least 4, at most the packet less 4 bytes
  abbrev pub padding_rules : Bool → ℕ → List Bool
  padding_rules last padding =
      last
      ∷ eqb (padding % 4) 0
      ∷ leb 4 padding
      ∷ leb (padding + 4) h.size
      ∷ []

  unfoldable pub padding_right : Bool → ℕ → Bool
  padding_right last padding = cond h.padded (all (padding_rules last padding)) true

  -- by RFC 3550, section 6.1, the first packet, at 0, is an SR or an RR; by RFC 5506 any packet may stand anywhere
  unfoldable pub may_stand : Profile → ℕ → Bool
  may_stand Profile.Compound at = not (eqb at 0) || is_report
  may_stand Profile.ReducedSize at = true

  -- the size without padding is what the body needs; other types and formats are passed over
  unfoldable pub body_right : ℕ → Bool
  body_right unpadded =
      cond is_report (leb (blocks_from + h.count * report_size) unpadded)
      (cond (eqb h.kind xr) (leb xr_head unpadded)
      (cond is_feedback (eqb unpadded feedback_size)
      true))

-- the padding is taken off before the body is read
abbrev pub body_end : Header → List ℕ → ℕ → ℕ
body_end h b at = at + h.size - padding h b at

-- the faults in their order: 1, 2, 4 (end), 5, 3, 4 (body)
abbrev pub packet_checks : Profile → Header → List ℕ → ℕ → List Check
packet_checks profile h b at =
    must (leb header (length b - at)) Incomplete
    ∷ must (eqb h.version 2) Version
    ∷ must (leb h.size (length b - at)) PacketSize
    ∷ must (padding_right h (eqb (at + h.size) (length b)) (padding h b at)) Padding
    ∷ must (may_stand h profile at) FirstPacket
    ∷ must (body_right h (h.size - padding h b at)) PacketSize
    ∷ []

unfoldable pub packet_verdict : Profile → Header → List ℕ → ℕ → Result Unit Refusal
packet_verdict profile h b at = first_fault (packet_checks profile h b at)

-- what a packet without a fault is: whole, with its padding and its body inside
pub record Sound (h : Header) (b : List ℕ) (at : ℕ) : Type 0 where
  pub whole : at + h.size ≤ length b
  pub body : body_right h (h.size - padding h b at) ≡ true
  pub padding : padding h b at ≤ h.size
