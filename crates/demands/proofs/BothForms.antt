-- Both forms give the same final row. Assumes nothing.
use Rattle.std.specs.Prelude.{Ok}
use mathlib.Core.Path.{◌≡◌, refl, sym, ap, ap₂, ◌∙◌, subst}
use mathlib.Core.List.{List, [], ◌∷◌, ◌++◌}
use Prim.Native.Nat.{ℕ, ◌≤◌}
use native.Mathlib.Omega.{arith}
use lib.ListN.{length, drop, length-append}
use Rattle.format.specs.Blocks.{block_bytes}
use Rattle.format.specs.Forms.{other_form}
use Rattle.format.specs.declared.Form.{Form}
use Rattle.numbers.proofs.BigEndian.{Octets}
use Rattle.trace.specs.Reading.{block_of}
use Rattle.trace.specs.declared.Block.TheVariants.{Label}
use Rattle.trace.specs.declared.Record.{Record}
use Rattle.trace.proofs.Accepted.{accepted}
use Rattle.numbers.proofs.Octets.{octets_drop}
use Rattle.table.specs.Lines.{row_bytes}
use Rattle.walk.specs.Blocks.{blocks_of}
use Rattle.walk.specs.Programs.{Printed}
use Rattle.walk.specs.Steps.{Next}
use Rattle.walk.proofs.Cuts.{Each}
use Rattle.forms.specs.Conversions.{next_of}
use Rattle.forms.specs.Converted.{converted}
use Rattle.forms.specs.Theorems.{taken_from, records_taken}
use Rattle.forms.proofs.Returns.{going_on, converted_octets, converted_reads, same_records}
use Rattle.forms.proofs.Traces.{Goes}
use Rattle.forms.proofs.Whole.{brings, many_brought, converted_started}
use Rattle.demands.specs.PrintedTable.{records_by, together, AllArrivals, EndsIn}
use Rattle.demands.specs.BothForms.{label_in, records_totals, BothForms}
use Rattle.demands.proofs.LastRow.{last_row_lem}

-- blocks that go hold arrivals, and their records taken together are those that the converter takes
module _ (form : Form) (ssrc : ℕ) where
  arrivals_go : (bs : List (List ℕ)) → Each (Goes form ssrc) bs → AllArrivals form ssrc bs
  arrivals_go [] g = tt
  arrivals_go (b ∷ bs) g = let br = brings form ssrc b g.0.goes_on_lem in (br.count, br.block, arrivals_go bs g.1)

  together_go : (bs : List (List ℕ)) → Each (Goes form ssrc) bs → together bs ≡ records_taken form ssrc bs
  unfolding records_taken
  together_go [] g = refl
  together_go (b ∷ bs) g =
      let br = brings form ssrc b g.0.goes_on_lem in
      ap₂ (λ (us vs : List Record). us ++ vs) (ap (records_by b) br.block ∙ sym br.are) (together_go bs g.1)
      ∙ ap (λ (n : Next (List Record)). taken_from n (records_taken form ssrc bs)) (sym g.0.goes_on_lem)

-- a trace that no block is refused of
module _ (trace : List ℕ) (form : Form) (n ssrc : ℕ) (o : Octets (drop block_bytes trace)) (label : block_of (blocks_of trace).zeroth ≡ Ok (Label form n ssrc)) (none_told : (converted trace).err ≡ []) where
  going : Each (Goes form ssrc) (blocks_of trace).others
  going = going_on 1 (blocks_of trace).others (record { form = form; ssrc = ssrc; held = [] }) (sym (ap (λ (p : Printed). p.err) (converted_started trace label)) ∙ none_told)

  ends : 1 ≤ length (blocks_of trace).others
      → EndsIn trace (label_in trace n) ssrc (row_bytes (label_in trace n) ssrc (records_totals (records_taken form ssrc (blocks_of trace).others)))
  ends some =
      subst (λ (rs : List Record). EndsIn trace (label_in trace n) ssrc (row_bytes (label_in trace n) ssrc (records_totals rs)))
      (together_go form ssrc (blocks_of trace).others going)
      (last_row_lem trace form n ssrc o label some (arrivals_go form ssrc (blocks_of trace).others going))

  -- each block brings a record at least
  some_records : (bs : List (List ℕ)) → Each (Goes form ssrc) bs → 1 ≤ length bs → 1 ≤ length (records_taken form ssrc bs)
  unfolding records_taken
  some_records [] g some = absurd (omega arith)
  some_records (b ∷ bs) g some =
      let br = brings form ssrc b g.0.goes_on_lem in
      let rs = g.0.records in
      let is : taken_from (next_of form ssrc b) (records_taken form ssrc bs) ≡ rs ++ records_taken form ssrc bs = ap (λ (n : Next (List Record)). taken_from n (records_taken form ssrc bs)) g.0.goes_on_lem in
      omega (arith, ap length is, length-append rs (records_taken form ssrc bs), many_brought br, (accepted b br.block).least)

-- where there are records there is a block
some_blocks : (form : Form) (ssrc : ℕ) (bs : List (List ℕ)) → 1 ≤ length (records_taken form ssrc bs) → 1 ≤ length bs
unfolding records_taken
some_blocks form ssrc [] h = absurd (omega arith)
some_blocks form ssrc (b ∷ bs) h = omega arith

pub both_forms : BothForms
both_forms trace form n ssrc o label none_told some =
    let r = converted_reads trace form n ssrc o label in
    let records = records_taken form ssrc (blocks_of trace).others in
    let others = (blocks_of (converted trace).out).others in
    let there : 1 ≤ length others = some_blocks (other_form form) ssrc others (subst (λ (rs : List Record). 1 ≤ length rs) (sym r.records) (some_records trace form n ssrc (octets_drop block_bytes trace o) label none_told (blocks_of trace).others (going trace form n ssrc (octets_drop block_bytes trace o) label none_told) some)) in (
      ends trace form n ssrc (octets_drop block_bytes trace o) label none_told some,
      subst (λ (x : List ℕ × List ℕ). EndsIn (converted trace).out x.0 ssrc x.1) (ap₂ (λ (l : List ℕ) (rs : List Record). (l, row_bytes l ssrc (records_totals rs))) r.text r.records)
          (ends (converted trace).out (other_form form) n ssrc (converted_octets trace form n ssrc o label) r.label (same_records trace form n ssrc o label).accepted there),
    )
