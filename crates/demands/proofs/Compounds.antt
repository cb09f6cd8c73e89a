-- What is read in a compound of an RR and feedback packets. Assumes nothing.
use Rattle.std.specs.Prelude.{Option, Some, None}
use Rattle.rtcp.specs.declared.Feedback.{Feedback}
use mathlib.Core.Path.{◌≡◌, refl, sym, ap, ap₂, ◌∙◌}
use mathlib.Core.Bool.{Bool, true, false, cond}
use mathlib.Core.List.{List, [], ◌∷◌, ◌++◌, map, flat_map, append_assoc}
use Prim.Native.Nat.{ℕ, ◌+◌, ◌-◌, ◌*◌, ◌/◌, ◌%◌, ◌^◌, ◌≤◌, ◌<◌}
use native.Mathlib.Nat.{add-zero}
use native.Mathlib.Omega.{arith}
use borrow.Author.Tests.{le-leb, ltb-true, ne_eqb}
use lib.Dec.{leb, ltb, eqb}
use lib.ListN.{length, get_or, length-append}
use lib.Seq.{get_or-append-add}
use Rattle.answers.proofs.Conditions.{and_left, and_right}
use Rattle.numbers.specs.BigEndian.{word, bytes}
use Rattle.numbers.proofs.BigEndian.{word_right}
use Rattle.numbers.proofs.Integers.{modulo_lt}
use Rattle.source.specs.declared.Source.{Source}
use Rattle.format.specs.declared.Counts.{Counts}
use Rattle.report.specs.Carried.{highest_of, counts_of}
use Rattle.report.specs.Reports.{counts_bytes, feedback_of, feedback_bytes}
use Rattle.rtcp.specs.declared.Profile.{Profile}
use Rattle.rtcp.specs.Header.{header_at, padding}
use Rattle.rtcp.specs.Packets.{Check, first_fault, is_report, is_feedback, blocks_from, padding_right, body_right, may_stand, packet_checks}
use Rattle.rtcp.specs.Entries.{entry_for}
use Rattle.rtcp.specs.ReportBlocks.{report_in}
use Rattle.rtcp.specs.EcnReports.{counts, feedback, feedback_in, block_at, summary_in}
use Rattle.rtcp.specs.Compound.{begins, blocks, size_checks, checks_of, first_report, first_feedback, first_summary, any, unless_faulty, reading}
use Rattle.rtcp.proofs.Begins.{begins_next, begins_done}
use Rattle.sources.specs.declared.Place.{Place}
use Rattle.sources.specs.Stands.{found}
use Rattle.sources.specs.Compounds.{receiver_report, feedbacks}
use Rattle.sources.proofs.Compounding.{feedback_long, report_long, feedbacks_long}
use Rattle.demands.specs.BetweenReports.{feedback_from}
use Rattle.demands.specs.EachSource.{ssrcs_fit, only_feedback}
use Rattle.demands.proofs.Fields.{field, Fits, counts_fit_lem, counts_back}

-- ---- one feedback packet, between `pre` and `rest`

-- its header
abbrev head : List ℕ
head = 0x88 ∷ 0xCD ∷ 0 ∷ 7 ∷ []

module _ (pre rest : List ℕ) (sender media highest : ℕ) (c : Counts) where
  abbrev b : List ℕ
  b = pre ++ (feedback_of sender media highest c ++ rest)

  header_is : header_at b (length pre) ≡ header_at head 0
  unfolding header_at feedback_of bytes word
  header_is =
      let packet : List ℕ = feedback_of sender media highest c ++ rest in
      let zeroth : get_or b (length pre) 0 ≡ 136 = ap (λ (i : ℕ). get_or b i 0) (sym (add-zero (length pre))) ∙ get_or-append-add pre packet 0 0 in
      let first : get_or b (length pre + 1) 0 ≡ 205 = get_or-append-add pre packet 1 0 in
      let words : word 2 b (length pre + 2) ≡ 7 = word_right pre packet 2 2 in
      λ i. record { version = zeroth i / 64; padded = eqb (zeroth i / 32 % 2) 1; count = zeroth i % 32; kind = first i; size = (words i + 1) * 4 }

  -- its fields
  module _ (s : sender < 2 ^ 32) (m : media < 2 ^ 32) (h : highest < 2 ^ 32) (f : Fits c) where
    about : word 4 b (length pre + 8) ≡ media
    unfolding feedback_of bytes
    about = word_right pre (feedback_of sender media highest c ++ rest) 8 4 ∙ field 4 media (bytes 4 0x88CD0007 ++ bytes 4 sender) (bytes 4 highest ++ counts_bytes c ++ rest) m

    fields : feedback b (length pre) ≡ record { sender = sender; highest = highest; counts = c }
    unfolding feedback feedback_of bytes
    fields =
        let packet : List ℕ = feedback_of sender media highest c ++ rest in
        let front : List ℕ = bytes 4 0x88CD0007 ++ bytes 4 sender ++ bytes 4 media in
        let long : length pre + 16 ≡ length (pre ++ (front ++ bytes 4 highest)) = sym (length-append pre (front ++ bytes 4 highest)) in
        let is : b ≡ (pre ++ (front ++ bytes 4 highest)) ++ (counts_bytes c ++ rest) = sym (append_assoc pre (front ++ bytes 4 highest) (counts_bytes c ++ rest)) in
        λ i. record {
          sender = (word_right pre packet 4 4 ∙ field 4 sender head (bytes 4 media ++ bytes 4 highest ++ counts_bytes c ++ rest) s) i;
          highest = (word_right pre packet 12 4 ∙ field 4 highest front (counts_bytes c ++ rest) h) i;
          counts = (ap₂ counts is long ∙ counts_back c f rest (pre ++ (front ++ bytes 4 highest))) i;
        }

-- ---- what the reader finds in a place's packet, which begins at `at`

-- the feedback about a source, if a place has it
abbrev pub feedback_about : ℕ → Option Source → Option Feedback
feedback_about sender None = None
feedback_about sender (Some s) = Some (feedback_from sender s)

module _ (sender : ℕ) (hs : sender < 2 ^ 32) (q : Place) (hq : q.ssrc < 2 ^ 32) (pre rest b : List ℕ) (at : ℕ)
    (is : b ≡ pre ++ (feedback_bytes sender q.ssrc q.source ++ rest)) (behind : at ≡ length pre) (later : 1 ≤ at) where
  its_header : header_at b at ≡ header_at head 0
  its_header = ap₂ header_at is behind ∙ header_is pre rest sender q.ssrc (highest_of q.source) (counts_of q.source)

  its_kind : (header_at b at).kind ≡ 205
  unfolding header_at
  its_kind = λ i. (its_header i).kind

  its_room : at + 32 ≤ length b
  its_room =
      omega (
        arith,
        ap length is,
        length-append pre (feedback_bytes sender q.ssrc q.source ++ rest),
        length-append (feedback_bytes sender q.ssrc q.source) rest,
        feedback_long sender q.ssrc q.source,
      )

  its_next : begins b at (length b) ≡ at ∷ begins b (at + 32) (length b)
  unfolding header_at word
  its_next =
      let size_is : (word 2 b (at + 2) + 1) * 4 ≡ 32 = λ i. (its_header i).size in
      begins_next b (length b) at (omega (arith, its_room)) ∙ ap (λ (k : ℕ). at ∷ begins b (at + k) (length b)) size_is

  no_blocks : blocks b at ≡ []
  unfolding blocks
  no_blocks = rw its_kind

  -- none of its checks fails
  passes : (profile : Profile) (more : List Check) → first_fault (packet_checks profile (header_at head 0) b at ++ more) ≡ first_fault more
  unfolding header_at padding padding_right may_stand body_right is_report is_feedback word
  passes Profile.Compound more =
      rw (le-leb 4 (length b - at) (omega (arith, its_room)), le-leb 32 (length b - at) (omega (arith, its_room)), ne_eqb at 0 (λ z. omega arith))
  passes Profile.ReducedSize more = rw (le-leb 4 (length b - at) (omega (arith, its_room)), le-leb 32 (length b - at) (omega (arith, its_room)))

  checks_pass : (profile : Profile) (more : List Check) → first_fault (checks_of b profile at ++ more) ≡ first_fault more
  checks_pass profile more = rw (no_blocks, its_header) (passes profile more)

  module _ (media : ℕ) where
    no_report : report_in (header_at b at) b at media ≡ None
    unfolding report_in is_report header_at
    no_report = ap (λ h. report_in h b at media) its_header

    its_feedback : feedback_in (header_at b at) b at media ≡ cond (eqb q.ssrc media) (Some (feedback_from sender q.source)) None
    unfolding feedback_in is_feedback header_at
    its_feedback =
        let high : highest_of q.source < 2 ^ 32 = modulo_lt (2 ^ 32) (omega arith) q.source.highest.0 in
        let about-is : word 4 b (at + 8) ≡ q.ssrc = ap₂ (λ (l : List ℕ) (k : ℕ). word 4 l (k + 8)) is behind ∙ about pre rest sender q.ssrc (highest_of q.source) (counts_of q.source) hs hq high (counts_fit_lem q.source) in
        let fields-are : feedback b at ≡ feedback_from sender q.source = ap₂ feedback is behind ∙ fields pre rest sender q.ssrc (highest_of q.source) (counts_of q.source) hs hq high (counts_fit_lem q.source) in
        ap (λ h. feedback_in h b at media) its_header ∙ rw (about-is, fields-are)

-- ---- what it finds from `at` on, where the packets of places stand one behind the other

module _ (sender : ℕ) (hs : sender < 2 ^ 32) (b : List ℕ) (media : ℕ) (profile : Profile) where
  record Scanned (at : ℕ) (qs : List Place) : Type 0 where
    sound : first_fault (flat_map (checks_of b profile) (begins b at (length b))) ≡ first_fault []
    report : first_report (map (λ at. report_in (header_at b at) b at media) (begins b at (length b))) ≡ None
    feedback : first_feedback (map (λ at. feedback_in (header_at b at) b at media) (begins b at (length b))) ≡ feedback_about sender (found media qs)
    summary : flat_map (blocks b) (begins b at (length b)) ≡ []

  scan : (qs : List Place) (pre : List ℕ) (at : ℕ) → b ≡ pre ++ feedbacks sender qs → at ≡ length pre → 1 ≤ at → ssrcs_fit qs ≡ true → Scanned at qs
  unfolding feedbacks found flat_map
  scan [] pre at is behind later fit =
      let none_left : begins b at (length b) ≡ [] = begins_done b (length b) at (omega (arith, ap length is, length-append pre [])) in
      record { sound = rw none_left; report = rw none_left; feedback = rw none_left; summary = rw none_left }
  scan (q ∷ qs) pre at is behind later fit =
      let rest : List ℕ = feedbacks sender qs in
      let packet : List ℕ = feedback_bytes sender q.ssrc q.source in
      let hq : q.ssrc < 2 ^ 32 = ltb-true q.ssrc (2 ^ 32) (and_left (ltb q.ssrc (2 ^ 32)) (ssrcs_fit qs) fit) in
      let longer : at + 32 ≡ length (pre ++ packet) = omega (arith, length-append pre packet, feedback_long sender q.ssrc q.source) in
      let more = scan qs (pre ++ packet) (at + 32) (is ∙ sym (append_assoc pre packet rest)) longer (omega arith) (and_right (ltb q.ssrc (2 ^ 32)) (ssrcs_fit qs) fit) in
      let next : begins b at (length b) ≡ at ∷ begins b (at + 32) (length b) = its_next sender hs q hq pre rest b at is behind later in
      record {
        sound = rw next (checks_pass sender hs q hq pre rest b at is behind later profile (flat_map (checks_of b profile) (begins b (at + 32) (length b))) ∙ more.sound);
        report = rw (next, no_report sender hs q hq pre rest b at is behind later media) more.report;
        feedback = rw (next, its_feedback sender hs q hq pre rest b at is behind later media) (go (map (λ at. feedback_in (header_at b at) b at media) (begins b (at + 32) (length b))) (eqb q.ssrc media) more.feedback);
        summary = rw (next, no_blocks sender hs q hq pre rest b at is behind later) more.summary;
      }
    where
      go : (l : List (Option Feedback)) (t : Bool) → first_feedback l ≡ feedback_about sender (found media qs)
          → first_feedback (cond t (Some (feedback_from sender q.source)) None ∷ l) ≡ feedback_about sender (cond t (Some q.source) (found media qs))
      go l true e = refl
      go l false e = e

-- ---- the whole compound: an RR, and the packets of at most 16 places

module _ (from sender : ℕ) (hs : sender < 2 ^ 32) (qs : List Place) (few : length qs ≤ 16) (fit : ssrcs_fit qs ≡ true) where
  abbrev whole : List ℕ
  whole = receiver_report from ++ feedbacks sender qs

  whole_long : length whole ≡ 8 + 32 * length qs
  whole_long = length-append (receiver_report from) (feedbacks sender qs) ∙ omega (arith, report_long from, feedbacks_long sender qs)

  starts : begins whole 0 (length whole) ≡ 0 ∷ begins whole 8 (length whole)
  unfolding receiver_report bytes word
  starts = begins_next whole (length whole) 0 (omega (arith, whole_long))

  -- no check of the RR fails
  rr_passes : (profile : Profile) (more : List Check) → first_fault (size_checks whole ++ (checks_of whole profile 0 ++ more)) ≡ first_fault more
  unfolding receiver_report bytes word header_at padding padding_right may_stand body_right is_report blocks_from blocks
  rr_passes profile more =
      let one : leb 1 (length whole) ≡ true = le-leb 1 (length whole) (omega (arith, whole_long)) in
      let most : leb (length whole) 65507 ≡ true = le-leb (length whole) 65507 (omega (arith, whole_long)) in
      let header : leb 4 (length whole - 0) ≡ true = le-leb 4 (length whole - 0) (omega (arith, whole_long)) in
      let size : leb 8 (length whole - 0) ≡ true = le-leb 8 (length whole - 0) (omega (arith, whole_long)) in
      go profile one most header size
    where
      go : (profile : Profile) → leb 1 (length whole) ≡ true → leb (length whole) 65507 ≡ true → leb 4 (length whole - 0) ≡ true → leb 8 (length whole - 0) ≡ true
          → first_fault (size_checks whole ++ (checks_of whole profile 0 ++ more)) ≡ first_fault more
      go Profile.Compound one most header size = rw (one, most, header, size)
      go Profile.ReducedSize one most header size = rw (one, most, header, size)

  module _ (media : ℕ) (profile : Profile) where
    pub compound_read : reading whole media profile ≡ only_feedback (feedback_about sender (found media qs))
    unfolding reading flat_map receiver_report bytes word header_at is_report blocks_from report_in entry_for feedback_in is_feedback blocks
    compound_read =
        let s = scan sender hs whole media profile qs (receiver_report from) 8 refl (sym (report_long from)) (omega arith) fit in
        let later : List ℕ = begins whole 8 (length whole) in
        ap (λ (l : List ℕ). unless_faulty (first_fault (size_checks whole ++ flat_map (checks_of whole profile) l)) (record {
          report = first_report (map (λ at. report_in (header_at whole at) whole at media) l);
          feedback = first_feedback (map (λ at. feedback_in (header_at whole at) whole at media) l);
          summary = first_summary (map (λ at. summary_in (block_at whole at) whole at media) (flat_map (blocks whole) l));
          reporting = any (map (λ at. is_report (header_at whole at)) l);
        })) starts
        ∙ (λ i. unless_faulty ((rr_passes profile (flat_map (checks_of whole profile) later) ∙ s.sound) i) (record {
          report = s.report i;
          feedback = s.feedback i;
          summary = first_summary (map (λ at. summary_in (block_at whole at) whole at media) (s.summary i));
          reporting = true;
        }))
