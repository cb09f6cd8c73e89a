-- Demand 3 in what ecntable prints. Assumes nothing.
use Rattle.std.specs.Prelude.{Result, Ok}
use Rattle.answers.specs.declared.Refusal.{Refusal}
use mathlib.Core.Path.{◌≡◌, refl, sym, ap, ap₂, ◌∙◌, subst}
use mathlib.Core.Bool.{true}
use mathlib.Core.List.{List, [], ◌∷◌, ◌++◌, map, append-nil, append_assoc, map-append}
use Prim.Native.Nat.{ℕ, suc, ◌+◌, ◌≤◌}
use native.Mathlib.Omega.{arith}
use lib.ListN.{length, take, drop, length-append}
use lib.Seq.{take-append_seam}
use Rattle.format.specs.Blocks.{body_at}
use Rattle.format.specs.declared.Form.{Form}
use Rattle.source.specs.declared.Source.{Source}
use Rattle.source.specs.declared.BlockCount.{BlockCount}
use Rattle.source.specs.declared.Totals.{Totals}
use Rattle.source.specs.Record.{fresh_record, sound}
use Rattle.source.specs.Totals.{with_block}
use Rattle.source.proofs.Facts.{fresh_sound}
use Rattle.trace.specs.Contents.{label_ok}
use Rattle.trace.specs.Reading.{count_in, block_of}
use Rattle.trace.specs.declared.Block.{Block}
use Rattle.trace.specs.declared.Block.TheVariants.{Arrivals}
use Rattle.trace.specs.declared.Record.{Record}
use Rattle.trace.proofs.Accepted.{accepted}
use Rattle.trace.proofs.Placed.{own_later}
use Rattle.table.specs.Lines.{row_bytes}
use Rattle.walk.specs.Blocks.{blocks_of, joined}
use Rattle.walk.specs.Programs.{Printed, both, to_output, walk, closed}
use Rattle.walk.specs.Steps.{goes}
use Rattle.convert.specs.declared.Run.{Run}
use Rattle.convert.specs.Runs.{row_of, arrived, next_of}
use Rattle.convert.specs.Tables.{printed}
use Rattle.table.specs.Lines.{head_bytes}
use Rattle.convert.proofs.Steps.{start_label, next_by_lem}
use Rattle.convert.proofs.Whole.{rest, rest_goes, printed_started}
use Rattle.demands.specs.Calls.{TruePacket, run, AnsweredFrom, arrivals, Steady, Described}
use Rattle.demands.specs.TableRow.{count_row}
use Rattle.demands.specs.PrintedTable.{in_record, of_arrival, records_by, together, AllArrivals, Holds, rows, rows_then, EndsIn, TableHoldsCount, SameLastRow}
use Rattle.demands.proofs.Members.{Marks}
use Rattle.demands.proofs.Order.{same_perm, perm_length}
use Rattle.demands.proofs.Runs.{run_sound}
use Rattle.demands.proofs.Demand.{demand3}
use Rattle.demands.proofs.Traces.{Split, split, run_parts, answers_behind, answers_front, steady_front, marks_parts, all_arrivals, block_marks, block_length, block_counted}

-- ---- the arrivals of the first block, and the others

split_records : (xs ys : List Record) (vs : List TruePacket) → map in_record (xs ++ ys) ≡ map of_arrival vs → Split (map in_record xs) (map in_record ys) vs
split_records xs ys vs e = split (map in_record xs) (map in_record ys) vs (sym (map-append in_record xs ys) ∙ e)

-- all marks of a trace's records are at most 3
trace_marks : (form : Form) (ssrc : ℕ) (bs : List (List ℕ)) (vs : List TruePacket) → AllArrivals form ssrc bs → map in_record (together bs) ≡ map of_arrival vs → Marks vs
trace_marks form ssrc [] [] a e = tt
trace_marks form ssrc [] (v ∷ vs) a e = let z : ◌≡◌ {A = ℕ} 0 1 = cc in absurd (omega arith)
trace_marks form ssrc (b ∷ bs) vs a e =
    let is = a.1 in
    let s = split_records (records_by b (block_of b)) (together bs) vs e in
    subst Marks (sym s.is)
    (marks_parts s.front s.back
    (block_marks b form a.0 ssrc is s.front (ap (λ (r : Result Block Refusal). map in_record (records_by b r)) (sym is) ∙ s.first))
    (trace_marks form ssrc bs s.back a.2 s.more))

-- ---- the rows

module _ (form : Form) (zeroth label : List ℕ) (ssrc : ℕ) (Label-is : take (length label) (drop body_at zeroth) ≡ label) (ok : label_ok label ≡ true)
    (ps : List TruePacket) (m : Marks ps) (d : Described ps) where
  -- the run with the first arrivals
  abbrev with : List TruePacket → Run
  with us = record { form = form; length = length label; ssrc = ssrc; totals = record { source = run us; jumped = 0; restarts = 0 } }

  front_described : (us vs : List TruePacket) → us ++ vs ≡ ps → Marks us → Described us
  front_described us vs e mu =
      let all : arrivals us ≡ us = all_arrivals us mu in
      let whole : arrivals ps ≡ us ++ vs = all_arrivals ps m ∙ sym e in
      record {
        few = rw all (omega (arith, length-append us vs, ap length whole, d.few));
        steady = rw all (steady_front us vs (subst Steady whole d.steady));
      }

  row_counts : (us vs : List TruePacket) → us ++ vs ≡ ps → Marks us → row_bytes label ssrc (with us).totals ≡ count_row label ssrc us 0 0
  row_counts us vs e mu =
      ((demand3 us (front_described us vs e mu)).row label ssrc 0 0 ok (omega arith) (omega arith)).bytes
      ∙ ap (λ (l : List TruePacket). count_row label ssrc l 0 0) (all_arrivals us mu)

  row_is : (us vs : List TruePacket) → us ++ vs ≡ ps → Marks us → row_of (with us) zeroth ≡ count_row label ssrc us 0 0
  unfolding row_of
  row_is us vs e mu = ap (λ (l : List ℕ). row_bytes l ssrc (with us).totals) Label-is ∙ row_counts us vs e mu

  -- a block of `vs` leads from `us` to `us ++ vs`
  next_is : (us vs ws : List TruePacket) → us ++ (vs ++ ws) ≡ ps → (b : List ℕ) (n : ℕ) → block_of b ≡ Ok (Arrivals form n ssrc)
      → map in_record (records_by b (Ok (Arrivals form n ssrc))) ≡ map of_arrival vs → next_of (with us) b ≡ goes (with (us ++ vs))
  unfolding arrived
  next_is us vs ws e b n is same =
      let good : sound (run us) ≡ true = run_sound fresh_record us fresh_sound in
      let answered : AnsweredFrom (run us) vs = answers_front (run us) vs ws (answers_behind fresh_record us (vs ++ ws) (subst (AnsweredFrom fresh_record) (sym e) (demand3 ps d).answers)) in
      let counted = block_counted b form n ssrc is vs same (run us) good answered in
      next_by_lem (with us) b (own_later form ssrc b is)
      ∙ ap (λ (c : BlockCount). goes (record { form = form; length = length label; ssrc = ssrc; totals = with_block (record { source = run us; jumped = 0; restarts = 0 }) c })) counted
      ∙ ap (λ (s : Source). goes (record { form = form; length = length label; ssrc = ssrc; totals = record { source = s; jumped = 0; restarts = 0 } })) (sym (run_parts fresh_record us vs))

  -- the last row of some blocks, behind those of `us`
  Last : List (List ℕ) → List TruePacket → Type 0
  Last [] us = us ≡ ps
  Last (b ∷ bs) us = (front : List Totals) × (joined (rows label ssrc ps (length us) (b ∷ bs)) ≡ rows_then label ssrc front (count_row label ssrc ps 0 0))

  record Rows (i : ℕ) (bs : List (List ℕ)) (us : List TruePacket) : Type 0 where
    lines : rest i bs (with us) zeroth ≡ to_output (joined (rows label ssrc ps (length us) bs))
    last : Last bs us

  last_next : (b : List ℕ) (bs : List (List ℕ)) (us next : List TruePacket) → length us + count_in b ≡ length next → take (length next) ps ≡ next
      → row_bytes label ssrc (with next).totals ≡ count_row label ssrc next 0 0 → Last bs next → Last (b ∷ bs) us
  unfolding rows Last
  last_next b [] us next n t r l = ([], rw (n, t, l) (append-nil (count_row label ssrc ps 0 0)))
  last_next b (c ∷ cs) us next n t r l =
      let row : List ℕ = count_row label ssrc next 0 0 in
      ((with next).totals ∷ l.0, rw (n, t, l.1, r) (sym (append_assoc row (joined (map (row_bytes label ssrc) l.0)) (count_row label ssrc ps 0 0))))

  rest_rows : (i : ℕ) (bs : List (List ℕ)) (us vs : List TruePacket) → us ++ vs ≡ ps → Marks us → AllArrivals form ssrc bs → map in_record (together bs) ≡ map of_arrival vs → Rows i bs us
  unfolding rows walk closed Last
  rest_rows i [] us [] e mu a same = record { lines = refl; last = sym (append-nil us) ∙ e }
  rest_rows i [] us (v ∷ vs) e mu a same = let z : ◌≡◌ {A = ℕ} 0 1 = cc in absurd (omega arith)
  rest_rows i (b ∷ bs) us vs e mu a same =
      let n = a.0 in
      let is = a.1 in
      let s = split_records (records_by b (block_of b)) (together bs) vs same in
      let first : map in_record (records_by b (Ok (Arrivals form n ssrc))) ≡ map of_arrival s.front = ap (λ (r : Result Block Refusal). map in_record (records_by b r)) (sym is) ∙ s.first in
      let next : List TruePacket = us ++ s.front in
      let parts : us ++ (s.front ++ s.back) ≡ ps = ap (λ (l : List TruePacket). us ++ l) (sym s.is) ∙ e in
      let whole : next ++ s.back ≡ ps = append_assoc us s.front s.back ∙ parts in
      let mn : Marks next = marks_parts us s.front mu (block_marks b form n ssrc is s.front first) in
      let long : length us + count_in b ≡ length next = omega (arith, length-append us s.front, block_length b form n ssrc is s.front first, (accepted b is).block.its_count) in
      let cut : take (length next) ps ≡ next = ap (take (length next)) (sym whole) ∙ take-append_seam next s.back in
      let more = rest_rows (suc i) bs next s.back whole mn a.2 s.more in
      record {
        lines =
            rest_goes zeroth i b bs (with us) (next_is us s.front s.back parts b n is first)
            ∙ ap₂ (λ (row : List ℕ) (p : Printed). both (to_output row) p) (row_is next s.back whole mn) more.lines
            ∙ rw (long, cut);
        last = last_next b bs us next long cut (row_counts next s.back whole mn) more.last;
      }

-- ---- the theorems

module _ (trace label : List ℕ) (ssrc : ℕ) (ps : List TruePacket) (d : Described ps) (h : Holds trace label ssrc ps) where
  held_marks : Marks ps
  held_marks = trace_marks h.form ssrc (blocks_of trace).others ps h.others h.records

  held_label : take (length label) (drop body_at (blocks_of trace).zeroth) ≡ label
  held_label = sym (accepted (blocks_of trace).zeroth h.zeroth).block.place ∙ h.text

  label_ok_lem : label_ok label ≡ true
  label_ok_lem = ap label_ok (sym h.text) ∙ (accepted (blocks_of trace).zeroth h.zeroth).label

  all_rows : Rows h.form (blocks_of trace).zeroth label ssrc held_label label_ok_lem ps held_marks d 1 (blocks_of trace).others []
  all_rows = rest_rows h.form (blocks_of trace).zeroth label ssrc held_label label_ok_lem ps held_marks d 1 (blocks_of trace).others [] ps refl tt h.others h.records

  all_lines : printed trace ≡ to_output (head_bytes ++ joined (rows label ssrc ps 0 (blocks_of trace).others))
  all_lines = printed_started trace _ (start_label (blocks_of trace).zeroth h.zeroth) ∙ ap (both (to_output head_bytes)) all_rows.lines

  last_line : (bs : List (List ℕ)) → printed trace ≡ to_output (head_bytes ++ joined (rows label ssrc ps 0 bs))
      → Last h.form (blocks_of trace).zeroth label ssrc held_label label_ok_lem ps held_marks d bs [] → 1 ≤ length ps → EndsIn trace label ssrc (count_row label ssrc ps 0 0)
  unfolding Last
  last_line [] lines last some = absurd (omega (arith, ap length last))
  last_line (b ∷ bs) lines last some = (last.0, lines ∙ ap (λ (l : List ℕ). to_output (head_bytes ++ l)) last.1)

  -- the row of the record at the end
  row_of_lem : count_row label ssrc ps 0 0 ≡ row_bytes label ssrc (record { source = run ps; jumped = 0; restarts = 0 })
  row_of_lem =
      ap (λ (l : List TruePacket). count_row label ssrc l 0 0) (sym (all_arrivals ps held_marks))
      ∙ sym ((demand3 ps d).row label ssrc 0 0 label_ok_lem (omega arith) (omega arith)).bytes

pub table_holds_count : TableHoldsCount
table_holds_count trace label ssrc ps d h =
    record {
      lines = all_lines trace label ssrc ps d h;
      last = last_line trace label ssrc ps d h (blocks_of trace).others (all_lines trace label ssrc ps d h) (all_rows trace label ssrc ps d h).last;
    }

pub same_last_row : SameLastRow
same_last_row trace other label ssrc ps qs d e h k same first some =
    let mp = all_arrivals ps (held_marks trace label ssrc ps d h) in
    let mq = all_arrivals qs (held_marks other label ssrc qs e k) in
    let end : run ps ≡ run qs = (demand3 ps d).order qs e (rw (mp, mq) same) (rw (mp, mq) first) in
    let row : count_row label ssrc qs 0 0 ≡ count_row label ssrc ps 0 0 =
    row_of_lem other label ssrc qs e k ∙ ap (λ (s : Source). row_bytes label ssrc (record { source = s; jumped = 0; restarts = 0 })) (sym end) ∙ sym (row_of_lem trace label ssrc ps d h) in
    let more : 1 ≤ length qs = omega (arith, perm_length (same_perm ps qs same)) in (
      (table_holds_count trace label ssrc ps d h).last some,
      subst (EndsIn other label ssrc) row ((table_holds_count other label ssrc qs e k).last more),
    )
