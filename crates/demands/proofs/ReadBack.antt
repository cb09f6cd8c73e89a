-- Written reports read back. Assumes nothing.
use Rattle.std.specs.Prelude.{Option, Some, None, Ok}
use mathlib.Core.Path.{◌≡◌, refl, sym, ap, ◌∙◌}
use mathlib.Core.Bool.{Bool, true, false, cond, false≢true}
use mathlib.Core.List.{List, [], ◌∷◌, ◌++◌, flat_map, append-nil}
use Prim.Native.Nat.{ℕ, zero, suc, ◌+◌, ◌^◌, ◌≤◌, ◌<◌}
use native.Mathlib.Omega.{arith}
use borrow.Author.Tests.{eq-eqb, eqb-true, lt-ltb, leb-true}
use lib.Dec.{eqb}
use lib.ListN.{length, get_or}
use Rattle.numbers.specs.BigEndian.{word, bytes}
use Rattle.answers.proofs.Conditions.{all_true}
use Rattle.source.specs.declared.Source.{Source}
use Rattle.format.specs.declared.Counts.{Counts}
use Rattle.report.specs.Carried.{counts_of}
use Rattle.report.specs.Reports.{counts_bytes, feedback_bytes, summary_of}
use Rattle.rtcp.specs.declared.Profile.{Profile}
use Rattle.rtcp.specs.Header.{header_at, padding}
use Rattle.rtcp.specs.Packets.{is_report, is_feedback, blocks_from, padding_right, body_right, may_stand}
use Rattle.rtcp.specs.Entries.{entry_for}
use Rattle.rtcp.specs.ReportBlocks.{report_in}
use Rattle.rtcp.specs.EcnReports.{feedback_in, block_at, is_summary, summary_in}
use Rattle.rtcp.specs.Compound.{begins_in, first_summary, blocks, reading}
use Rattle.sources.specs.declared.Place.{Place}
use Rattle.sources.specs.Places.{empty_place, held_of}
use Rattle.sources.specs.Rules.{most_places, rising, rules, fault}
use Rattle.sources.specs.Stands.{found, is_new}
use Rattle.sources.specs.Compounds.{receiver_report, feedbacks, compound_bytes}
use Rattle.sources.proofs.Checking.{kept, kept_rises}
use Rattle.sources.proofs.Found.{rising_rest, below_none}
use Rattle.sources.proofs.Fronts.{front_le}
use Rattle.demands.specs.RoundTrip.{xr_packet, FeedbackReadsBack, SummaryReadsBack, NothingMadeUp}
use Rattle.demands.specs.EachSource.{ssrcs_fit, only_feedback, CompoundReadsBack}
use Rattle.demands.proofs.Fields.{field, Fits, counts_fit_lem, counts_back}
use Rattle.demands.proofs.Compounds.{feedback_about, compound_read}

-- ---- the compound of a table

-- the place of an SSRC is the one that is found
found_index : (least : ℕ) (ps : List Place) (i : ℕ) → rising least ps ≡ true → i < length ps
    → found (get_or ps i empty_place).ssrc ps ≡ Some (get_or ps i empty_place).source
unfolding found
found_index least [] i r h = absurd (omega arith)
found_index least (p ∷ ps) zero r h = rw (eq-eqb p.ssrc p.ssrc refl)
found_index least (p ∷ ps) (suc i) r h = go (eqb p.ssrc (get_or ps i empty_place).ssrc) refl (found_index (p.ssrc + 1) ps i (rising_rest least p ps r) (omega arith))
  where
    go : (t : Bool) → eqb p.ssrc (get_or ps i empty_place).ssrc ≡ t → found (get_or ps i empty_place).ssrc ps ≡ Some (get_or ps i empty_place).source
        → cond t (Some p.source) (found (get_or ps i empty_place).ssrc ps) ≡ Some (get_or ps i empty_place).source
    go false e more = more
    go true e more =
        let same = eqb-true p.ssrc (get_or ps i empty_place).ssrc e in
        let gone : found (get_or ps i empty_place).ssrc ps ≡ None = below_none (get_or ps i empty_place).ssrc (p.ssrc + 1) ps (omega arith) (rising_rest least p ps r) in
        absurd (let z : ◌≡◌ {A = ℕ} 0 1 = cc in omega arith)

-- what is read of the compound about any SSRC
pub table_read : (ps : List Place) (sender : ℕ) (profile : Profile) → fault ps ≡ None → ssrcs_fit (held_of ps) ≡ true → sender < 2 ^ 32 → (ssrc : ℕ)
    → reading (compound_bytes sender ps) ssrc profile ≡ only_feedback (feedback_about sender (found ssrc (held_of ps)))
unfolding compound_bytes
table_read ps sender profile good fit hs ssrc =
    let few : length ps ≤ 16 = leb-true (length ps) most_places (all_true (rules ps) 0 (kept ps good).ruled) in
    compound_read sender sender hs (held_of ps) (omega (arith, front_le ps)) fit ssrc profile

pub compound_reads_back : CompoundReadsBack
compound_reads_back ps sender profile good fit hs =
    let read = table_read ps sender profile good fit hs in
    record {
      held = λ i h.
          read (get_or (held_of ps) i empty_place).ssrc
          ∙ ap (λ (f : Option Source). only_feedback (feedback_about sender f)) (found_index 0 (held_of ps) i (kept_rises ps (kept ps good).ruled) h);
      others = λ ssrc new. read ssrc ∙ ap (λ (f : Option Source). only_feedback (feedback_about sender f)) (nothing (found ssrc (held_of ps)) new);
    }
  where
    nothing : (f : Option Source) → is_new f ≡ true → f ≡ None
    nothing None e = refl
    nothing (Some s) e = absurd (false≢true e)

-- ---- one report

-- as the compound of one place
pub feedback_reads_back : FeedbackReadsBack
unfolding feedbacks found
feedback_reads_back s from sender media profile hs hm =
    let one : List Place = record { ssrc = media; source = s } ∷ [] in
    ap (λ (l : List ℕ). reading (receiver_report from ++ l) media profile) (sym (append-nil (feedback_bytes sender media s)))
    ∙ compound_read from sender hs one (omega arith) (rw (lt-ltb media (2 ^ 32) hm)) media profile
    ∙ rw (eq-eqb media media refl)

-- the block in the second packet
abbrev summary_behind : ℕ → ℕ → Counts → Option Counts
summary_behind from media c =
    let b : List ℕ = receiver_report from ++ xr_packet from (summary_of media c) in
    summary_in (block_at b 16) b 16 media

summary_scan : (from media : ℕ) (c : Counts) (profile : Profile)
    → reading (receiver_report from ++ xr_packet from (summary_of media c)) media profile
    ≡ Ok (record {
      report = None;
      feedback = None;
      summary = first_summary (summary_behind from media c ∷ []);
      reporting = true;
    })
unfolding reading flat_map begins_in blocks header_at padding padding_right may_stand body_right is_report is_feedback blocks_from report_in entry_for feedback_in summary_in block_at is_summary word bytes receiver_report xr_packet summary_of counts_bytes
summary_scan from media c Profile.Compound = refl
summary_scan from media c Profile.ReducedSize = refl

summary_found : (from media : ℕ) (c : Counts) → Fits c → media < 2 ^ 32 → summary_behind from media c ≡ Some c
unfolding block_at summary_in is_summary entry_for receiver_report xr_packet summary_of counts_bytes word bytes
summary_found from media c f m =
    let head : List ℕ = receiver_report from ++ bytes 4 0x80CF0007 ++ bytes 4 from ++ bytes 4 0x0D000005 in
    let b : List ℕ = receiver_report from ++ xr_packet from (summary_of media c) in
    let about : word 4 b 20 ≡ media = field 4 media head (counts_bytes c) m in
    rw (eq-eqb (word 4 b 20) media about) (ap Some (counts_back c f [] (head ++ bytes 4 media)))

pub summary_reads_back : SummaryReadsBack
summary_reads_back s from media profile hm =
    summary_scan from media (counts_of s) profile
    ∙ ap (λ (f : Option Counts). Ok (record { report = None; feedback = None; summary = first_summary (f ∷ []); reporting = true }))
    (summary_found from media (counts_of s) (counts_fit_lem s) hm)

pub nothing_made_up : NothingMadeUp
unfolding reading flat_map begins_in blocks header_at padding padding_right may_stand body_right is_report is_feedback blocks_from report_in entry_for feedback_in word bytes receiver_report
nothing_made_up from media Profile.Compound = refl
nothing_made_up from media Profile.ReducedSize = refl
