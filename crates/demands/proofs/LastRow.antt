-- The last row of a trace is that of the totals over all its records, however they are cut into blocks. Assumes nothing.
use Rattle.std.specs.Prelude.{Result, Ok}
use Rattle.answers.specs.declared.Refusal.{Refusal}
use mathlib.Core.Path.{◌≡◌, refl, sym, ap, ap₂, ◌∙◌}
use mathlib.Core.List.{List, [], ◌∷◌, ◌++◌, map, append-nil, append_assoc}
use Prim.Native.Nat.{ℕ, suc, ◌+◌, ◌≤◌, min}
use native.Mathlib.Nat.{add-zero, add_assoc}
use native.Mathlib.Omega.{arith}
use borrow.Table.Elements.{map_app}
use lib.ListN.{length, take, drop}
use Rattle.format.specs.Blocks.{body_at, block_bytes}
use Rattle.format.specs.declared.Form.{Form}
use Rattle.numbers.proofs.BigEndian.{Octets}
use Rattle.source.specs.declared.Source.{Source}
use Rattle.source.specs.declared.BlockCount.{BlockCount}
use Rattle.source.specs.declared.BlockCount.TheVariants.{Counted, Refused}
use Rattle.source.specs.declared.Totals.{Totals}
use Rattle.source.specs.Record.{fresh_record}
use Rattle.source.specs.Arrivals.{arrival, after}
use Rattle.source.specs.Blocks.{Packet, jump, restart, count_all}
use Rattle.source.specs.Totals.{most_told, with_block}
use Rattle.trace.specs.Reading.{block_of}
use Rattle.trace.specs.declared.Block.{Block}
use Rattle.trace.specs.declared.Block.TheVariants.{Label, Arrivals}
use Rattle.trace.specs.declared.Record.{Record}
use Rattle.trace.proofs.Accepted.{accepted}
use Rattle.trace.proofs.Placed.{own_later}
use Rattle.table.specs.Lines.{head_bytes, row_bytes}
use Rattle.walk.specs.Blocks.{blocks_of, joined}
use Rattle.walk.specs.Programs.{both, to_output, walk, closed}
use Rattle.walk.specs.Steps.{goes}
use Rattle.walk.proofs.Cuts.{Each}
use Rattle.convert.specs.declared.Run.{Run}
use Rattle.convert.specs.Runs.{start_of, row_of, arrived, next_of}
use Rattle.convert.proofs.Kept.{Good, next_good, start_good}
use Rattle.convert.proofs.Steps.{start_label, next_by_lem}
use Rattle.convert.proofs.Whole.{rest, rest_goes, printed_started}
use Rattle.walk.proofs.Pieces.{octets_blocks}
use Rattle.demands.specs.PrintedTable.{in_record, records_by, together, AllArrivals, rows_then, EndsIn}
use Rattle.demands.specs.BothForms.{label_in, records_totals}
use Rattle.demands.proofs.Traces.{records_counted}

-- ---- counting in two parts

record Counts (c : BlockCount) : Type 0 where
  state : Source
  jumps : ℕ
  restarts : ℕ
  is : c ≡ Counted state jumps restarts

counts : (ps : List Packet) (s : Source) (jumps restarts : ℕ) → Counts (count_all ps s jumps restarts)
unfolding count_all
counts [] s jumps restarts = record { state = s; jumps = jumps; restarts = restarts; is = refl }
counts (p ∷ ps) s jumps restarts = counts ps (after (arrival s p.wire p.mark)) (jumps + jump (arrival s p.wire p.mark)) (restarts + restart (arrival s p.wire p.mark))

count_parts : (ps qs : List Packet) (s : Source) (jumps restarts : ℕ) {t : Source} {j r : ℕ} → count_all ps s jumps restarts ≡ Counted t j r → count_all (ps ++ qs) s jumps restarts ≡ count_all qs t j r
unfolding count_all
count_parts [] qs s jumps restarts {t} {j} {r} e =
    let a : s ≡ t = cc in
    let b : jumps ≡ j = cc in
    let c : restarts ≡ r = cc in
    rw (a, b, c)
count_parts (p ∷ ps) qs s jumps restarts e =
    count_parts ps qs (after (arrival s p.wire p.mark)) (jumps + jump (arrival s p.wire p.mark)) (restarts + restart (arrival s p.wire p.mark)) e

-- what was counted before is added
abbrev onto : ℕ → ℕ → BlockCount → BlockCount
onto j r (Counted s jumps restarts) = Counted s (j + jumps) (r + restarts)
onto j r (Refused refusal s) = Refused refusal s

count_onto : (ps : List Packet) (s : Source) (j r jumps restarts : ℕ) → count_all ps s (j + jumps) (r + restarts) ≡ onto j r (count_all ps s jumps restarts)
unfolding count_all
count_onto [] s j r jumps restarts = refl
count_onto (p ∷ ps) s j r jumps restarts =
    let a = arrival s p.wire p.mark in
    ap₂ (λ (x y : ℕ). count_all ps (after a) x y) (add_assoc j jumps (jump a)) (add_assoc r restarts (restart a))
    ∙ count_onto ps (after a) j r (jumps + jump a) (restarts + restart a)

capped : (a b : ℕ) → min (0 + (a + b)) most_told ≡ min (min (0 + a) most_told + b) most_told
capped a b = omega arith

pub totals_parts : (us vs : List Record) → records_totals (us ++ vs) ≡ with_block (records_totals us) (count_all (map in_record vs) (records_totals us).source 0 0)
unfolding records_totals
totals_parts us vs =
    let c = counts (map in_record us) fresh_record 0 0 in
    let d = counts (map in_record vs) c.state 0 0 in
    let onward : count_all (map in_record vs) c.state c.jumps c.restarts ≡ Counted d.state (c.jumps + d.jumps) (c.restarts + d.restarts) =
    ap₂ (λ (x y : ℕ). count_all (map in_record vs) c.state x y) (sym (add-zero c.jumps)) (sym (add-zero c.restarts))
    ∙ count_onto (map in_record vs) c.state c.jumps c.restarts 0 0 ∙ ap (onto c.jumps c.restarts) d.is in
    let whole : count_all (map in_record (us ++ vs)) fresh_record 0 0 ≡ Counted d.state (c.jumps + d.jumps) (c.restarts + d.restarts) =
    ap (λ (l : List Packet). count_all l fresh_record 0 0) (map_app in_record us vs) ∙ count_parts (map in_record us) (map in_record vs) fresh_record 0 0 c.is ∙ onward in
    rw (whole, c.is, d.is) (λ i. record { source = d.state; jumped = capped c.jumps d.jumps i; restarts = capped c.restarts d.restarts i })

-- ---- the rows

module _ (form : Form) (zeroth : List ℕ) (n ssrc : ℕ) where
  -- the run with the first records
  abbrev with : List Record → Run
  with us = record { form = form; length = n; ssrc = ssrc; totals = records_totals us }

  -- a block leads from `us` to `us` and its records
  next_is : (us : List Record) (b : List ℕ) (k : ℕ) → block_of b ≡ Ok (Arrivals form k ssrc) → Good (with us) zeroth → next_of (with us) b ≡ goes (with (us ++ records_by b (Ok (Arrivals form k ssrc))))
  unfolding arrived
  next_is us b k is g =
      let counted = records_counted b form k ssrc is (records_totals us).source g.totals.good in
      next_by_lem (with us) b (own_later form ssrc b is)
      ∙ ap (λ (t : Totals). goes (record { form = form; length = n; ssrc = ssrc; totals = t })) (ap (with_block (records_totals us)) counted ∙ sym (totals_parts us (records_by b (Ok (Arrivals form k ssrc)))))

  label : List ℕ
  label = take n (drop body_at zeroth)

  -- the rows of some blocks, behind the first records, as rows of totals
  Rows : ℕ → List (List ℕ) → List Record → Type 0
  Rows i bs us = (front : List Totals) × (rest i bs (with us) zeroth ≡ to_output (rows_then label ssrc front (row_bytes label ssrc (records_totals (us ++ together bs)))))

  rest_rows : (i : ℕ) (b : List ℕ) (bs : List (List ℕ)) (us : List Record) → AllArrivals form ssrc (b ∷ bs) → Each Octets (b ∷ bs) → Good (with us) zeroth → Rows i (b ∷ bs) us
  unfolding walk closed Rows row_of label
  rest_rows i b [] us a o g =
      let more = records_by b (Ok (Arrivals form a.0 ssrc)) in
      let next = next_is us b a.0 a.1 g in
      let all : us ++ (records_by b (block_of b) ++ []) ≡ us ++ more = ap (λ (l : List Record). us ++ l) (append-nil (records_by b (block_of b)) ∙ ap (records_by b) a.1) in
      ([], rest_goes zeroth i b [] (with us) next ∙ rw all (ap to_output (append-nil (row_of (with (us ++ more)) zeroth))))
  rest_rows i b (c ∷ cs) us a o g =
      let more = records_by b (Ok (Arrivals form a.0 ssrc)) in
      let next = next_is us b a.0 a.1 g in
      let later = rest_rows (suc i) c cs (us ++ more) a.2 o.1 (next_good (with us) zeroth b (with (us ++ more)) o.0 g next) in
      let row = row_of (with (us ++ more)) zeroth in
      let all : us ++ together (b ∷ c ∷ cs) ≡ (us ++ more) ++ together (c ∷ cs) = ap (λ (r : Result Block Refusal). us ++ (records_by b r ++ together (c ∷ cs))) a.1 ∙ sym (append_assoc us more (together (c ∷ cs))) in (
        records_totals (us ++ more) ∷ later.0,
        rest_goes zeroth i b (c ∷ cs) (with us) next ∙ ap (both (to_output row)) later.1
            ∙ rw all (ap to_output (sym (append_assoc row (joined (map (row_bytes label ssrc) later.0)) (row_of (with ((us ++ more) ++ together (c ∷ cs))) zeroth)))),
      )

-- ---- the last line

module _ (trace : List ℕ) (form : Form) (n ssrc : ℕ) (o : Octets (drop block_bytes trace)) (isLabel : block_of (blocks_of trace).zeroth ≡ Ok (Label form n ssrc)) where
  begun : start_of (blocks_of trace).zeroth ≡ Ok (with form (blocks_of trace).zeroth n ssrc [])
  unfolding records_totals count_all
  begun = start_label (blocks_of trace).zeroth isLabel

  by_blocks : (b : List ℕ) (bs : List (List ℕ)) → (blocks_of trace).others ≡ b ∷ bs → Each Octets (b ∷ bs) → AllArrivals form ssrc (b ∷ bs)
      → EndsIn trace (label_in trace n) ssrc (row_bytes (label_in trace n) ssrc (records_totals (together (b ∷ bs))))
  unfolding Rows label
  by_blocks b bs e o a =
      let zeroth = (blocks_of trace).zeroth in
      let rows = rest_rows form zeroth n ssrc 1 b bs [] a o (start_good zeroth (with form zeroth n ssrc []) begun) in (
        rows.0,
        printed_started trace (with form zeroth n ssrc []) begun ∙ ap (λ (l : List (List ℕ)). both (to_output head_bytes) (rest 1 l (with form zeroth n ssrc []) zeroth)) e
            ∙ ap (both (to_output head_bytes)) rows.1
            ∙ ap (λ (l : List ℕ). to_output (head_bytes ++ rows_then l ssrc rows.0 (row_bytes l ssrc (records_totals (together (b ∷ bs)))))) (sym (accepted zeroth isLabel).block.place),
      )

  pub last_row_lem : 1 ≤ length (blocks_of trace).others → AllArrivals form ssrc (blocks_of trace).others
      → EndsIn trace (label_in trace n) ssrc (row_bytes (label_in trace n) ssrc (records_totals (together (blocks_of trace).others)))
  unfolding blocks_of
  last_row_lem some a = go (blocks_of trace).others refl some (octets_blocks trace o) a
    where
      go : (bs : List (List ℕ)) → (blocks_of trace).others ≡ bs → 1 ≤ length bs → Each Octets bs → AllArrivals form ssrc bs
          → EndsIn trace (label_in trace n) ssrc (row_bytes (label_in trace n) ssrc (records_totals (together bs)))
      go [] e some o a = absurd (omega arith)
      go (b ∷ bs) e some o a = by_blocks b bs e o a
