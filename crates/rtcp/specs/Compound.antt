-- The compound reader (document 01, "Packets" and the order of refusals; document 02, L4). `b` is the compound, asked about the source `media`
-- under a profile.
use Rattle.rtcp.specs.declared.ReportBlock.{ReportBlock}
use Rattle.rtcp.specs.declared.Feedback.{Feedback}
use Rattle.format.specs.declared.Counts.{Counts}
use Rattle.answers.specs.declared.Refusal.{Refusal}
use Rattle.std.specs.Prelude.{ℕ, zero, suc, ◌+◌, ◌-◌, ◌≡◌, Bool, false, cond, ◌||◌, ltb, leb, eqb, length, Option, Some, None, Result, Ok, Err}
use mathlib.Core.List.{List, [], ◌∷◌, ◌++◌, map, flat_map}
use Rattle.answers.specs.declared.Refusal.TheVariants.{Incomplete, BlockSize, Limits}
use Rattle.rtcp.specs.declared.Compound.{Compound}
use Rattle.rtcp.specs.declared.Profile.{Profile}
use Rattle.rtcp.specs.Layout.{xr, xr_head, compound_most}
use Rattle.rtcp.specs.Header.{size, header_at}
use Rattle.rtcp.specs.Packets.{Check, must, first_fault, is_report, body_end, packet_checks}
use Rattle.rtcp.specs.ReportBlocks.{report_in}
use Rattle.rtcp.specs.EcnReports.{feedback_in, block_at, summary_in}

-- where packets begin, or the blocks of a packet: at `from` and behind each of them, below `end`; in at most so many turns
unfoldable pub begins_in : ℕ → List ℕ → ℕ → ℕ → List ℕ
begins_in zero b from end = []
begins_in (suc turns) b from end = cond (ltb from end) (from ∷ begins_in turns b (from + size b from) end) []

abbrev pub begins : List ℕ → ℕ → ℕ → List ℕ
begins b from end = begins_in (end - from) b from end

-- the turns are always enough, so that nobody has to count them
abbrev pub BeginsFollow : Type 0
BeginsFollow = (b : List ℕ) (from end : ℕ) → begins b from end ≡ cond (ltb from end) (from ∷ begins b (from + size b from) end) []

-- the first that is present
abbrev pub first_of : {T : Type 0} → List (Option T) → Option T
first_of [] = None
first_of (Some x ∷ rest) = Some x
first_of (None ∷ rest) = first_of rest

abbrev pub first_report : List (Option ReportBlock) → Option ReportBlock
first_report = first_of

abbrev pub first_feedback : List (Option Feedback) → Option Feedback
first_feedback = first_of

abbrev pub first_summary : List (Option Counts) → Option Counts
first_summary = first_of

-- whether one of them is so
abbrev pub any : List Bool → Bool
any [] = false
any (t ∷ rest) = t || any rest

-- what is refused gives nothing else
abbrev pub unless_faulty : {T : Type 0} → Result Unit Refusal → T → Result T Refusal
unless_faulty (Ok tt) found = Ok found
unless_faulty (Err refusal) found = Err refusal

module _ (b : List ℕ) where
  abbrev pub packets : List ℕ
  packets = begins b 0 (length b)

  -- the blocks of the packet at `at`: only an XR packet has any
  unfoldable pub blocks : ℕ → List ℕ
  blocks at = cond (eqb (header_at b at).kind xr) (begins b (at + xr_head) (body_end (header_at b at) b at)) []

  -- 1 if empty, 10
  abbrev pub size_checks : List Check
  size_checks =
      must (leb 1 (length b)) Incomplete
      ∷ must (leb (length b) compound_most) Limits
      ∷ []

  -- 6: an XR block ends inside its packet (its header does, since all sizes are multiples of 4)
  abbrev pub block_check : ℕ → ℕ → Check
  block_check end at = must (leb (at + size b at) end) BlockSize

  -- 1, 2, 4 (end), 5, 3, 4 (body), 6
  abbrev pub checks_of : Profile → ℕ → List Check
  checks_of profile at = packet_checks profile (header_at b at) b at ++ map (block_check (body_end (header_at b at) b at)) (blocks at)

  module _ (media : ℕ) where
    -- the first of each about `media`, and whether an SR or an RR is there, about whomever
    abbrev pub found : Compound
    found =
        record {
          report = first_report (map (λ at. report_in (header_at b at) b at media) packets);
          feedback = first_feedback (map (λ at. feedback_in (header_at b at) b at media) packets);
          summary = first_summary (map (λ at. summary_in (block_at b at) b at media) (flat_map blocks packets));
          reporting = any (map (λ at. is_report (header_at b at)) packets);
        }

    -- 1 if empty, 10, then packet by packet; the first fault ends it
    unfoldable pub reading : Profile → Result Compound Refusal
    reading profile = unless_faulty (first_fault (size_checks ++ flat_map (checks_of profile) packets)) found
