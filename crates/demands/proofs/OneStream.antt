-- For a trace of one source, ecnstreams prints ecntable's last row. Assumes nothing.
use Rattle.std.specs.Prelude.{Result, Ok}
use Rattle.answers.specs.declared.Refusal.{Refusal}
use mathlib.Core.Path.{◌≡◌, refl, sym, ap, ap₂, ◌∙◌}
use mathlib.Core.List.{List, [], ◌∷◌, ◌++◌, append-nil, append_assoc}
use Prim.Native.Nat.{ℕ, suc, ◌≤◌}
use native.Mathlib.Omega.{arith}
use borrow.Author.Tests.{eq-eqb}
use lib.ListN.{length, take}
use Rattle.numbers.proofs.BigEndian.{Octets}
use Rattle.format.specs.Blocks.{block_bytes}
use Rattle.format.specs.Forms.{shape_of}
use Rattle.format.specs.declared.Form.{Form}
use Rattle.source.specs.declared.Totals.{Totals}
use Rattle.source.specs.Blocks.{count_all}
use Rattle.source.specs.Totals.{fresh_totals, with_block}
use Rattle.trace.specs.Layout.{body_of}
use Rattle.trace.specs.Reading.{block_of}
use Rattle.trace.specs.declared.Block.{Block}
use Rattle.trace.specs.declared.Block.TheVariants.{Arrivals}
use Rattle.trace.specs.declared.Record.{Record}
use Rattle.trace.proofs.Accepted.{accepted}
use Rattle.numbers.proofs.Octets.{octets_drop}
use Rattle.table.specs.Lines.{head_bytes, row_bytes}
use Rattle.walk.specs.Blocks.{blocks_of}
use Rattle.walk.specs.Programs.{both, to_output, walk, closed}
use Rattle.walk.specs.Steps.{Next, goes}
use Rattle.walk.proofs.Cuts.{Each}
use Rattle.walk.proofs.Pieces.{octets_blocks}
use Rattle.mixed.specs.declared.Line.{Line}
use Rattle.mixed.specs.Places.{found_by, renewed_by, added_by}
use Rattle.mixed.specs.Lines.{by_value}
use Rattle.mixed.specs.Blocks.{counted, next_by, next_of, settled}
use Rattle.mixed.specs.Tables.{rows_of, printed}
use Rattle.mixed.proofs.Restored.{Good}
use Rattle.mixed.proofs.Kept.{fresh_good, counted_good}
use Rattle.mixed.proofs.Onward.{rest, rest_goes, begun, printed_started}
use Rattle.demands.specs.PrintedTable.{records_by, together, AllArrivals}
use Rattle.demands.specs.BothForms.{label_in, records_totals}
use Rattle.demands.specs.OneStream.{OneStream}
use Rattle.demands.specs.Witnesses.{text, whole}
use Rattle.demands.proofs.Traces.{records_counted}
use Rattle.demands.proofs.SameRun.{same_run}
use Rattle.demands.proofs.LastRow.{totals_parts, last_row_lem}
use Rattle.demands.proofs.OneRow.{one_last_row}
use Rattle.demands.proofs.Witnesses.{met}

pub none_counted : records_totals [] ≡ fresh_totals
unfolding records_totals count_all
none_counted = refl

module _ (form : Form) (ssrc : ℕ) where
  -- the line with the totals over the first records
  abbrev line_with : List Record → Line
  line_with us = record { ssrc = ssrc; totals = records_totals us }

  module _ (b : List ℕ) (n : ℕ) (is : block_of b ≡ Ok (Arrivals form n ssrc)) where
    abbrev own : List Record
    own = records_by b (Ok (Arrivals form n ssrc))

    pub counts_own : (us : List Record) → Good (records_totals us) → counted form n b (records_totals us) ≡ records_totals (us ++ own)
    unfolding counted
    counts_own us g = ap (with_block (records_totals us)) (records_counted b form n ssrc is (records_totals us).source g.sound.good) ∙ sym (totals_parts us own)

    pub still_good : (us : List Record) → Octets b → Good (records_totals us) → Good (records_totals (us ++ own))
    still_good us o g = rw (counts_own us g) at (counted_good form n b (records_totals us) o g)

    next_is : (ls : List Line) {next : Next (List Line)} → settled by_value (counted form n b) ssrc ls ≡ next → next_of by_value form b ls ≡ next
    unfolding next_of
    next_is ls e = ap (next_by by_value form b ls) is ∙ rw (eq-eqb (shape_of form).label (shape_of form).label refl) e

    -- the first block gives the line, and each later one renews it
    first_goes : next_of by_value form b [] ≡ goes (line_with own ∷ [])
    unfolding settled found_by added_by
    first_goes = next_is [] (ap (λ (t : Totals). goes (record { ssrc = ssrc; totals = t } ∷ [])) (ap (counted form n b) (sym none_counted) ∙ counts_own [] (rw none_counted fresh_good)))

    later_goes : (us : List Record) → Good (records_totals us) → next_of by_value form b (line_with us ∷ []) ≡ goes (line_with (us ++ own) ∷ [])
    unfolding settled found_by renewed_by
    later_goes us g =
        let same = eq-eqb ssrc ssrc refl in
        next_is (line_with us ∷ []) (rw (same, same) (ap (λ (t : Totals). goes (record { ssrc = ssrc; totals = t } ∷ [])) (counts_own us g)))

  -- what is printed behind the first block is one row
  row_alone : (label : List ℕ) (i : ℕ) (bs : List (List ℕ)) (us : List Record) → AllArrivals form ssrc bs → Each Octets bs → Good (records_totals us)
      → rest i bs (record { form = form; label = label; lines = line_with us ∷ [] }) ≡ to_output (row_bytes label ssrc (records_totals (us ++ together bs)))
  unfolding walk closed rows_of
  row_alone label i [] us a o g =
      ap to_output (append-nil (row_bytes label ssrc (records_totals us))) ∙ ap (λ (rs : List Record). to_output (row_bytes label ssrc (records_totals rs))) (sym (append-nil us))
  row_alone label i (b ∷ bs) us a o g =
      let more = own b a.0 a.1 in
      let all : us ++ together (b ∷ bs) ≡ (us ++ more) ++ together bs = ap (λ (r : Result Block Refusal). us ++ (records_by b r ++ together bs)) a.1 ∙ sym (append_assoc us more (together bs)) in
      rest_goes i b bs (record { form = form; label = label; lines = line_with us ∷ [] }) (later_goes b a.0 a.1 us g)
      ∙ row_alone label (suc i) bs (us ++ more) a.2 o.1 (still_good b a.0 a.1 us o.0 g)
      ∙ ap (λ (rs : List Record). to_output (row_bytes label ssrc (records_totals rs))) (sym all)

pub one_stream : OneStream
one_stream trace form n ssrc o label a some =
    let behind = octets_drop block_bytes trace o in
    (same_run trace o ∙ go (blocks_of trace).others refl some (octets_blocks trace behind) a, last_row_lem trace form n ssrc behind label some a)
  where
    zeroth : List ℕ
    zeroth = (blocks_of trace).zeroth

    text : (begun zeroth form n).label ≡ take n (body_of zeroth)
    text = sym (accepted zeroth label).block.place

    by_blocks : (b : List ℕ) (bs : List (List ℕ)) → Each Octets (b ∷ bs) → AllArrivals form ssrc (b ∷ bs)
        → rest 1 (b ∷ bs) (begun zeroth form n) ≡ to_output (row_bytes (take n (body_of zeroth)) ssrc (records_totals (together (b ∷ bs))))
    by_blocks b bs o a =
        let first = records_by b (Ok (Arrivals form a.0 ssrc)) in
        let good = still_good form ssrc b a.0 a.1 [] o.0 (rw none_counted fresh_good) in
        rest_goes 1 b bs (begun zeroth form n) (first_goes form ssrc b a.0 a.1)
        ∙ row_alone form ssrc (begun zeroth form n).label 2 bs first a.2 o.1 good
        ∙ ap₂ (λ (l : List ℕ) (r : Result Block Refusal). to_output (row_bytes l ssrc (records_totals (records_by b r ++ together bs)))) text (sym a.1)

    go : (bs : List (List ℕ)) → (blocks_of trace).others ≡ bs → 1 ≤ length bs → Each Octets bs → AllArrivals form ssrc bs
        → printed trace ≡ to_output (head_bytes ++ row_bytes (take n (body_of zeroth)) ssrc (records_totals (together bs)))
    go [] e some o a = absurd (omega arith)
    go (b ∷ bs) e some o a =
        printed_started trace form n ssrc label ∙ ap (λ (l : List (List ℕ)). both (to_output head_bytes) (rest 1 l (begun zeroth form n))) e
        ∙ ap (both (to_output head_bytes)) (by_blocks b bs o a)

-- the hypotheses are met
used : Unit {0}
used =
    let streams = one_stream whole met.held.form (length text) 1 met.whole_bytes met.held.zeroth met.held.others met.some_blocks in
    let totals = records_totals (together (blocks_of whole).others) in
    let last = one_last_row whole (label_in whole (length text)) 1 totals totals (accepted (blocks_of whole).zeroth met.held.zeroth).label streams.1 streams.1 in
    tt
