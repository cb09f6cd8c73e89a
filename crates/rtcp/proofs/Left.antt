-- What is left of the reading, from a packet or an XR block on. Assumes nothing.
use Rattle.std.specs.Prelude.{Option, Some, None, Result, Ok, Err}
use Rattle.format.specs.declared.Counts.{Counts}
use Prim.Native.Nat.{ℕ, ◌+◌, ◌*◌, ◌≤◌, ◌<◌}
use mathlib.Core.Path.{◌≡◌, refl, sym, ap, ◌∙◌}
use mathlib.Core.Bool.{Bool, true, false, ◌||◌}
use mathlib.Core.List.{List, [], ◌∷◌, ◌++◌, map, flat_map}
use native.Mathlib.Omega.{arith}
use borrow.Author.Tests.{le-leb, lt-leb, eq-eqb, ne_eqb}
use lib.ListN.{length}
use Rattle.answers.specs.declared.Refusal.{Refusal}
use Rattle.answers.specs.declared.Refusal.TheVariants.{BlockSize}
use Rattle.rtcp.specs.declared.Compound.{Compound}
use Rattle.rtcp.specs.declared.Profile.{Profile}
use Rattle.rtcp.specs.declared.header.Header.{Header}
use Rattle.rtcp.specs.declared.header.XrBlock.{XrBlock}
use Rattle.rtcp.specs.Layout.{xr, xr_head}
use Rattle.rtcp.specs.Header.{size, header_at}
use Rattle.rtcp.specs.Packets.{Check, must, first_fault, is_report, is_feedback, body_end, packet_checks, packet_verdict}
use Rattle.rtcp.specs.ReportBlocks.{report_in}
use Rattle.rtcp.specs.EcnReports.{feedback_in, block_at, summary_in}
use Rattle.rtcp.specs.Compound.{begins, first_of, first_report, first_feedback, first_summary, any, unless_faulty, packets, blocks, block_check, checks_of, found}
use Rattle.rtcp.proofs.Begins.{begins_next, begins_done}

-- ---- the first stays

first_first : {T : Type 0} (x y : Option T) (rest : List (Option T)) → first_of (x ∷ y ∷ rest) ≡ first_of (first_of (x ∷ y ∷ []) ∷ rest)
first_first (Some a) y rest = refl
first_first None (Some a) rest = refl
first_first None None rest = refl

any_first : (x y : Bool) (rest : List Bool) → any (x ∷ y ∷ rest) ≡ any ((x || y) ∷ rest)
any_first true y rest = refl
any_first false y rest = refl

-- and where nothing is behind it, it is all
pub first_last : {T : Type 0} (x : Option T) (rest : List (Option T)) → first_of rest ≡ None → first_of (x ∷ rest) ≡ x
first_last (Some a) rest e = refl
first_last None rest e = e

-- the first of a list and one behind it
first_behind : {T : Type 0} (f : ℕ → Option T) (x : Option T) (ms ns : List ℕ) → first_of (x ∷ map f (ms ++ ns)) ≡ first_of (first_of (x ∷ map f ms) ∷ map f ns)
first_behind f x [] ns = ap (λ y. first_of (y ∷ map f ns)) (sym (first_last x [] refl))
first_behind f x (m ∷ ms) ns =
    first_first x (f m) (map f (ms ++ ns)) ∙ first_behind f (first_of (x ∷ f m ∷ [])) ms ns
    ∙ ap (λ y. first_of (y ∷ map f ns)) (sym (first_first x (f m) (map f ms)))

any_last : (x y : Bool) → y ≡ false → (x || y) ≡ x
any_last true y e = refl
any_last false y e = e

-- ---- the tests in front are passed, or one is not

fault_behind : (front rest : List Check) → first_fault front ≡ (Ok tt) → first_fault (front ++ rest) ≡ first_fault rest
fault_behind [] rest e = refl
fault_behind (must true refusal ∷ front) rest e = fault_behind front rest e
fault_behind (must false refusal ∷ front) rest e = let z : ◌≡◌ {A = ℕ} 0 1 = cc in absurd (omega arith)

fault_in_front : (front rest : List Check) (r : Refusal) → first_fault front ≡ Err r → first_fault (front ++ rest) ≡ Err r
fault_in_front [] rest r e = let z : ◌≡◌ {A = ℕ} 0 1 = cc in absurd (omega arith)
fault_in_front (must true refusal ∷ front) rest r e = fault_in_front front rest r e
fault_in_front (must false refusal ∷ front) rest r e = e

-- ---- with a packet or an XR block more

module _ (b : List ℕ) (media at : ℕ) (found : Compound) where
  unfoldable pub with_packet : Header → Compound
  with_packet h =
      record {
        report = first_report (found.report ∷ report_in h b at media ∷ []);
        feedback = first_feedback (found.feedback ∷ feedback_in h b at media ∷ []);
        summary = found.summary;
        reporting = found.reporting || is_report h;
      }

  abbrev pub with_summary : Option Counts → Compound
  with_summary s = record { report = found.report; feedback = found.feedback; summary = s; reporting = found.reporting }

  -- an XR packet is no SR, no RR and no feedback
  module _ (h : Header) (k : h.kind ≡ xr) where
    not_report : is_report h ≡ false
    unfolding is_report
    not_report = rw k

    no_report : report_in h b at media ≡ None
    unfolding report_in
    no_report = rw not_report

    no_feedback : feedback_in h b at media ≡ None
    unfolding feedback_in is_feedback
    no_feedback = rw k

    xr_adds_none : with_packet h ≡ found
    unfolding with_packet
    xr_adds_none =
        λ i. record {
          report = first_last found.report (report_in h b at media ∷ []) (first_last _ [] refl ∙ no_report) i;
          feedback = first_last found.feedback (feedback_in h b at media ∷ []) (first_last _ [] refl ∙ no_feedback) i;
          summary = found.summary;
          reporting = any_last found.reporting (is_report h) not_report i;
        }

-- ---- the XR blocks of one packet

pub verdict_of : {T : Type 0} (v : Result Unit Refusal) (found : T) (r : Refusal) → unless_faulty v found ≡ Err r → v ≡ Err r
verdict_of (Ok tt) found r e = let z : ◌≡◌ {A = ℕ} 0 1 = cc in absurd (omega arith)
verdict_of (Err q) found r e = let is : q ≡ r = cc in ap Err is

-- what is read has passed all tests
pub read_of : {T : Type 0} (v : Result Unit Refusal) (found c : T) → unless_faulty v found ≡ Ok c → (v ≡ (Ok tt)) × (found ≡ c)
read_of (Ok tt) found c e = (refl, cc)
read_of (Err r) found c e = let z : ◌≡◌ {A = ℕ} 0 1 = cc in absurd (omega arith)

module _ (b : List ℕ) (media end : ℕ) where
  abbrev of_blocks : List ℕ → Option Counts → Result (Option Counts) Refusal
  of_blocks bs s = unless_faulty (first_fault (map (block_check b end) bs)) (first_summary (s ∷ map (λ at. summary_in (block_at b at) b at media) bs))

  -- from the XR block at `at` on
  unfoldable pub from_block : ℕ → Option Counts → Result (Option Counts) Refusal
  from_block at s = of_blocks (begins b at end) s

  pub blocks_are : (at : ℕ) (s : Option Counts) → from_block at s ≡ of_blocks (begins b at end) s
  unfolding from_block
  blocks_are at s = refl

  module _ (at : ℕ) (s : Option Counts) where
    pub blocks_done : end ≤ at → from_block at s ≡ Ok s
    unfolding from_block
    blocks_done past = ap (λ (bs : List ℕ). of_blocks bs s) (begins_done b end at past) ∙ ap Ok (first_last s [] refl)

    -- a block, with the header that was read
    module _ (here : at < end) (x : XrBlock) (read : x ≡ block_at b at) where
      sized : (x.words + 1) * 4 ≡ size b at
      unfolding block_at
      sized = rw read

      pub block_passes : end < at + (x.words + 1) * 4 → from_block at s ≡ Err BlockSize
      unfolding from_block
      block_passes past = ap (λ (bs : List ℕ). of_blocks bs s) (begins_next b end at here) ∙ rw (lt-leb (at + size b at) end (omega (arith, sized)))

      pub block_goes : at + (x.words + 1) * 4 ≤ end → from_block at s ≡ from_block (at + (x.words + 1) * 4) (first_summary (s ∷ summary_in x b at media ∷ []))
      unfolding from_block
      block_goes fits =
          let behind = begins b (at + size b at) end in
          ap (λ (bs : List ℕ). of_blocks bs s) (begins_next b end at here)
          ∙ rw (le-leb (at + size b at) end (omega (arith, sized)))
          (ap (unless_faulty (first_fault (map (block_check b end) behind))) (first_first s (summary_in (block_at b at) b at media) (map (λ at. summary_in (block_at b at) b at media) behind)))
          ∙ (λ i. of_blocks (begins b (at + sym sized i) end) (first_summary (s ∷ summary_in (sym read i) b at media ∷ [])))

module _ (b : List ℕ) (media : ℕ) (profile : Profile) where
  -- ---- these tests, packets and blocks are left, and `found` was found before them

  abbrev pub behind : List ℕ → List ℕ → Compound → Compound
  behind packets blocks found =
      record {
        report = first_report (found.report ∷ map (λ at. report_in (header_at b at) b at media) packets);
        feedback = first_feedback (found.feedback ∷ map (λ at. feedback_in (header_at b at) b at media) packets);
        summary = first_summary (found.summary ∷ map (λ at. summary_in (block_at b at) b at media) blocks);
        reporting = any (found.reporting ∷ map (λ at. is_report (header_at b at)) packets);
      }

  unfoldable pub left : List Check → List ℕ → List ℕ → Compound → Result Compound Refusal
  left tests packets blocks found = unless_faulty (first_fault tests) (behind packets blocks found)

  left_passed : (front rest : List Check) (ps bs : List ℕ) (found : Compound) → first_fault front ≡ (Ok tt) → left (front ++ rest) ps bs found ≡ left rest ps bs found
  unfolding left
  left_passed front rest ps bs found e = ap (λ (v : Result Unit Refusal). unless_faulty v (behind ps bs found)) (fault_behind front rest e)

  left_faulty : (front rest : List Check) (ps bs : List ℕ) (found : Compound) (r : Refusal) → first_fault front ≡ Err r → left (front ++ rest) ps bs found ≡ Err r
  unfolding left
  left_faulty front rest ps bs found r e = ap (λ (v : Result Unit Refusal). unless_faulty v (behind ps bs found)) (fault_in_front front rest r e)

  left_packet : (tests : List Check) (at : ℕ) (ps bs : List ℕ) (found : Compound) → left tests (at ∷ ps) bs found ≡ left tests ps bs (with_packet b media at found (header_at b at))
  unfolding left with_packet
  left_packet tests at ps bs found =
      λ i.
      unless_faulty (first_fault tests)
      (record {
        report = first_first found.report (report_in (header_at b at) b at media) (map (λ p. report_in (header_at b p) b p media) ps) i;
        feedback = first_first found.feedback (feedback_in (header_at b at) b at media) (map (λ p. feedback_in (header_at b p) b p media) ps) i;
        summary = first_summary (found.summary ∷ map (λ p. summary_in (block_at b p) b p media) bs);
        reporting = any_first found.reporting (is_report (header_at b at)) (map (λ p. is_report (header_at b p)) ps) i;
      })

  left_blocks : (tests : List Check) (ms ns ps : List ℕ) (found : Compound) → left tests ps (ms ++ ns) found ≡ left tests ps ns (with_summary b media 0 found (first_summary (found.summary ∷ map (λ at. summary_in (block_at b at) b at media) ms)))
  unfolding left
  left_blocks tests ms ns ps found =
      λ i.
      unless_faulty (first_fault tests)
      (record {
        report = first_report (found.report ∷ map (λ p. report_in (header_at b p) b p media) ps);
        feedback = first_feedback (found.feedback ∷ map (λ p. feedback_in (header_at b p) b p media) ps);
        summary = first_behind (λ at. summary_in (block_at b at) b at media) found.summary ms ns i;
        reporting = any (found.reporting ∷ map (λ p. is_report (header_at b p)) ps);
      })

  -- ---- from the packet at `at` on

  abbrev left_of : List ℕ → Compound → Result Compound Refusal
  left_of ps found = left (flat_map (checks_of b profile) ps) ps (flat_map (blocks b) ps) found

  unfoldable pub from_packet : ℕ → Compound → Result Compound Refusal
  from_packet at found = left_of (begins b at (length b)) found

  abbrev left_in : ℕ → List ℕ → List ℕ → Compound → Result Compound Refusal
  left_in end bs ps found = left (map (block_check b end) bs ++ flat_map (checks_of b profile) ps) ps (bs ++ flat_map (blocks b) ps) found

  module _ (at : ℕ) (found : Compound) where
    -- ---- a packet, with the header that was read

    pub packets_done : length b ≤ at → from_packet at found ≡ Ok found
    unfolding from_packet left flat_map
    packets_done past =
        ap (λ (ps : List ℕ). left_of ps found) (begins_done b (length b) at past)
        ∙ (λ i. Ok (record {
          report = first_last found.report [] refl i;
          feedback = first_last found.feedback [] refl i;
          summary = first_last found.summary [] refl i;
          reporting = any_last found.reporting false refl i;
        }))

    module _ (here : at < length b) (h : Header) (read : h ≡ header_at b at) where
      abbrev rest : List ℕ
      rest = begins b (at + h.size) (length b)

      at_packet : from_packet at found
          ≡ left (packet_checks profile h b at ++ (map (block_check b (body_end h b at)) (blocks b at) ++ flat_map (checks_of b profile) rest)) (at ∷ rest) (blocks b at ++ flat_map (blocks b) rest) found
      unfolding from_packet flat_map header_at
      at_packet = rw read (ap (λ (ps : List ℕ). left_of ps found) (begins_next b (length b) at here))

      pub packet_faulty : (r : Refusal) → packet_verdict profile h b at ≡ Err r → from_packet at found ≡ Err r
      unfolding packet_verdict
      packet_faulty r e = at_packet ∙ left_faulty (packet_checks profile h b at) _ _ _ _ r e

      module _ (sound : packet_verdict profile h b at ≡ (Ok tt)) where
        packet_passed : from_packet at found ≡ left_in (body_end h b at) (blocks b at) rest (with_packet b media at found h)
        unfolding packet_verdict
        packet_passed =
            at_packet ∙ left_passed (packet_checks profile h b at) _ _ _ _ sound ∙ left_packet _ at rest _ found
            ∙ ap (λ (g : Header). left_in (body_end h b at) (blocks b at) rest (with_packet b media at found g)) (sym read)

        pub packet_other : (h.kind ≡ xr → ⊥) → from_packet at found ≡ from_packet (at + h.size) (with_packet b media at found h)
        unfolding blocks from_packet
        packet_other k = rw (← read, ne_eqb h.kind xr k) at packet_passed

        packet_blocks : h.kind ≡ xr → from_packet at found ≡ left_in (body_end h b at) (begins b (at + xr_head) (body_end h b at)) rest found
        unfolding blocks
        packet_blocks k = rw (← read, eq-eqb h.kind xr k, xr_adds_none b media at found h k) at packet_passed

        module _ (k : h.kind ≡ xr) where
          pub packet_xr : (s : Option Counts) → from_block b media (body_end h b at) (at + xr_head) found.summary ≡ Ok s → from_packet at found ≡ from_packet (at + h.size) (with_summary b media at found s)
          unfolding from_block from_packet
          packet_xr s e =
              let bs = begins b (at + xr_head) (body_end h b at) in
              let ends = read_of _ _ s e in
              packet_blocks k ∙ left_passed (map (block_check b (body_end h b at)) bs) _ _ _ found ends.0 ∙ left_blocks _ bs _ rest found
              ∙ ap (λ s. left_of rest (with_summary b media at found s)) ends.1

          pub packet_xr_faulty : (r : Refusal) → from_block b media (body_end h b at) (at + xr_head) found.summary ≡ Err r → from_packet at found ≡ Err r
          unfolding from_block
          packet_xr_faulty r e = packet_blocks k ∙ left_faulty (map (block_check b (body_end h b at)) (begins b (at + xr_head) (body_end h b at))) _ _ _ found r (verdict_of _ _ r e)

  -- ---- the whole compound

  abbrev pub nothing : Compound
  nothing = record { report = None; feedback = None; summary = None; reporting = false }

  pub all_left : from_packet 0 nothing ≡ unless_faulty (first_fault (flat_map (checks_of b profile) (packets b))) (found b media)
  unfolding from_packet left
  all_left = refl
