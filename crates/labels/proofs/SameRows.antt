-- ecntable's rows before and after. Assumes nothing.
use Rattle.std.specs.Prelude.{None}
use mathlib.Core.Path.{◌≡◌, refl, sym, ap, ap₂, ◌∙◌}
use mathlib.Core.List.{List, [], ◌∷◌, ◌++◌}
use Prim.Native.Nat.{ℕ, suc}
use lib.ListN.{length}
use Rattle.format.specs.declared.Form.{Form}
use Rattle.source.specs.declared.Totals.{Totals}
use Rattle.source.specs.Totals.{fresh_totals}
use Rattle.table.specs.Lines.{head_bytes, row_bytes}
use Rattle.trace.proofs.Accepted.{accepted}
use Rattle.trace.proofs.Placed.{zeroth_label}
use Rattle.walk.specs.Blocks.{Blocks, blocks_of}
use Rattle.walk.specs.Programs.{Printed, walk, closed}
use Rattle.walk.specs.Steps.{Next, goes, refuses}
use Rattle.convert.specs.declared.Run.{Run}
use Rattle.convert.specs.Runs.{label_of, row_of, arrived, next_of}
use Rattle.convert.specs.Tables.{printed}
use Rattle.convert.proofs.Steps.{start_by_lem, next_by_lem}
use Rattle.convert.proofs.Whole.{rest, rest_goes, printed_started}
use Rattle.copies.specs.Fronts.{fault_of}
use Rattle.copies.specs.Theorems.{AllOwn, SoundTrace}
use Rattle.copies.proofs.Accepted.{own_read}
use Rattle.labels.specs.Labelled.{labelled}
use Rattle.labels.specs.Theorems.{label_in, rows_of, SameRows}
use Rattle.labels.proofs.Theorems.{output_blocks, output_sound, output_text}

-- the run after a block, and the totals after each of some
abbrev after : Run → Next Run → Run
after run (goes next) = next
after run (refuses refusal) = run

unfoldable totals_of : Run → List (List ℕ) → List Totals
totals_of run [] = []
totals_of run (b ∷ bs) = (after run (next_of run b)).totals ∷ totals_of (after run (next_of run b)) bs

totals_many : (run : Run) (bs : List (List ℕ)) → length (totals_of run bs) ≡ length bs
unfolding totals_of
totals_many run [] = refl
totals_many run (b ∷ bs) = ap suc (totals_many (after run (next_of run b)) bs)

-- a trace's own block brings its arrivals
own_next : (run : Run) (b : List ℕ) → fault_of run.form run.ssrc b ≡ None → (n : ℕ) × (next_of run b ≡ goes (arrived run n b))
own_next run b e = let r = own_read run.form run.ssrc b e in (r.0, next_by_lem run b r.1)

-- form, length and SSRC stay
row_of_lem : (run : Run) (n : ℕ) (b zeroth : List ℕ) → row_of (arrived run n b) zeroth ≡ row_bytes (label_of run zeroth) run.ssrc (arrived run n b).totals
unfolding row_of arrived
row_of_lem run n b zeroth = refl

own_same : (run : Run) (n : ℕ) (b : List ℕ) (bs : List (List ℕ)) → AllOwn run.form run.ssrc bs → AllOwn (arrived run n b).form (arrived run n b).ssrc bs
unfolding arrived
own_same run n b bs own = own

rows_same : (run : Run) (n : ℕ) (b zeroth : List ℕ) (ts : List Totals) → rows_of (label_of (arrived run n b) zeroth) (arrived run n b).ssrc ts ≡ rows_of (label_of run zeroth) run.ssrc ts
unfolding arrived
rows_same run n b zeroth ts = refl

rows : (i : ℕ) (bs : List (List ℕ)) (run : Run) (zeroth : List ℕ) → AllOwn run.form run.ssrc bs
    → (rest i bs run zeroth).out ≡ rows_of (label_of run zeroth) run.ssrc (totals_of run bs)
unfolding totals_of rows_of walk closed
rows i [] run zeroth own = refl
rows i (b ∷ bs) run zeroth own =
    let r = own_next run b own.0 in
    let next = arrived run r.0 b in
    let is : after run (next_of run b) ≡ next = ap (after run) r.1 in
    ap (λ (p : Printed). p.out) (rest_goes zeroth i b bs run r.1)
    ∙ ap₂ (λ (first behind : List ℕ). first ++ behind) (row_of_lem run r.0 b zeroth)
    (rows (suc i) bs next zeroth (own_same run r.0 b bs own.1) ∙ rows_same run r.0 b zeroth (totals_of next bs))
    ∙ ap (λ (next : Run). row_bytes (label_of run zeroth) run.ssrc next.totals ++ rows_of (label_of run zeroth) run.ssrc (totals_of next bs)) (sym is)

-- a table, by its label and the totals of its blocks
table : (trace : List ℕ) (form : Form) (n ssrc : ℕ) → SoundTrace trace form n ssrc
    → let run : Run = record { form = form; length = n; ssrc = ssrc; totals = fresh_totals } in
    (printed trace).out ≡ head_bytes ++ rows_of (label_in n trace) ssrc (totals_of run (blocks_of trace).others)
table trace form n ssrc s =
    let run : Run = record { form = form; length = n; ssrc = ssrc; totals = fresh_totals } in
    let place = (accepted (blocks_of trace).zeroth (zeroth_label (blocks_of trace).zeroth s.label)).block.place in
    ap (λ (p : Printed). p.out) (printed_started trace run (start_by_lem (blocks_of trace).zeroth s.label))
    ∙ ap (λ (behind : List ℕ). head_bytes ++ behind) (rows 1 (blocks_of trace).others run (blocks_of trace).zeroth s.own
    ∙ ap (λ (l : List ℕ). rows_of l ssrc (totals_of run (blocks_of trace).others)) (sym place))

pub same_rows : SameRows
same_rows trace form n ssrc o s =
    let run : Run = record { form = form; length = n; ssrc = ssrc; totals = fresh_totals } in
    let ts = totals_of run (blocks_of trace).others in
    record {
      totals = ts;
      many = totals_many run (blocks_of trace).others;
      before = table trace form n ssrc s;
      after = table (labelled trace).out form n ssrc (output_sound trace form n ssrc s o)
          ∙ ap₂ (λ (l : List ℕ) (bs : List (List ℕ)). head_bytes ++ rows_of l ssrc (totals_of run bs)) (output_text trace form n ssrc s o) (ap (λ (bs : Blocks). bs.others) (output_blocks trace form n ssrc s));
    }
