-- Demand 3 over a trace that arrives bit by bit. Assumes nothing.
use Rattle.std.specs.Prelude.{None, Result}
use Rattle.answers.specs.declared.Refusal.{Refusal}
use mathlib.Core.Path.{◌≡◌, refl, sym, ap, ap₂, ◌∙◌}
use mathlib.Core.List.{List, [], ◌∷◌, ◌++◌, append-nil}
use Prim.Native.Nat.{ℕ, suc}
use Rattle.format.specs.declared.Form.{Form}
use Rattle.table.specs.Lines.{head_bytes}
use Rattle.trace.specs.Places.{later_of}
use Rattle.trace.proofs.Placed.{own_later}
use Rattle.walk.specs.Blocks.{blocks_of, joined}
use Rattle.walk.specs.Programs.{to_output, turned, onward, walk, walked}
use Rattle.walk.specs.Steps.{Next, goes}
use Rattle.convert.specs.declared.Run.{Run}
use Rattle.convert.specs.declared.feeds.FeedAnswer.{FeedAnswer}
use Rattle.convert.specs.Runs.{arrived, next_of}
use Rattle.convert.specs.Tables.{Kept, begun, taken, closing, ecntable, printed}
use Rattle.convert.specs.FeedTheorems.{unfed, feed_all, ending_in, closed_as}
use Rattle.convert.proofs.FeedPrints.{feeds_print}
use Rattle.convert.proofs.Steps.{start_label, next_by_lem}
use Rattle.demands.specs.PrintedTable.{AllArrivals, Holds}
use Rattle.demands.specs.FedTables.{FedHoldsCount}
use Rattle.demands.proofs.OneRow.{after_head}
use Rattle.demands.proofs.PrintedTable.{table_holds_count}

-- no block of such a trace is refused
walk_none : (form : Form) (ssrc i : ℕ) (bs : List (List ℕ)) (k : Kept) → k.run.form ≡ form → k.run.ssrc ≡ ssrc → AllArrivals form ssrc bs → (walk ecntable i bs k).ended ≡ None
unfolding walk onward arrived
walk_none form ssrc i [] k f s a = refl
walk_none form ssrc i (b ∷ bs) k f s a =
    let next : next_of k.run b ≡ goes (arrived k.run a.0 b) = next_by_lem k.run b (ap₂ (λ (f : Form) (s : ℕ). later_of f s b) f s ∙ own_later form ssrc b a.1) in
    ap (λ (n : Next Run). (onward (turned i (taken k n)) (walk ecntable (suc i) bs)).ended) next
    ∙ walk_none form ssrc (suc i) bs (record { run = arrived k.run a.0 b; zeroth = k.zeroth }) f s a.2

walked_none : (trace label : List ℕ) (ssrc : ℕ) → {ps : _} → Holds trace label ssrc ps → (walked ecntable (blocks_of trace)).ended ≡ None
unfolding walked onward
walked_none trace label ssrc h =
    let bs = blocks_of trace in
    ap (λ (r : Result Run Refusal). (onward (turned 0 (begun bs.zeroth r)) (walk ecntable 1 bs.others)).ended) (start_label bs.zeroth h.zeroth)
    ∙ walk_none h.form ssrc 1 bs.others (record { run = _; zeroth = bs.zeroth }) refl refl h.others

pub fed_holds_count : FedHoldsCount
fed_holds_count rooms lent xs label ssrc ps f o few enough d h =
    let trace = joined xs in
    let fed = feed_all rooms 0 (unfed lent) xs in
    let r = feeds_print rooms lent xs f o few enough in
    let t = table_holds_count trace label ssrc ps d h in
    let answer = r.answer ∙ ap closed_as (walked_none trace label ssrc h) in
    let prints : printed trace ≡ to_output (head_bytes ++ fed.rows) =
    r.prints ∙ ap (λ (a : FeedAnswer). to_output (head_bytes ++ (fed.rows ++ (closing (ending_in a)).out))) answer ∙ ap (λ (l : List ℕ). to_output (head_bytes ++ l)) (append-nil fed.rows) in
    record {
      table = after_head fed.rows _ (sym prints ∙ t.lines);
      last = λ some. let e = t.last some in (e.0, after_head fed.rows _ (sym prints ∙ e.1));
      answer = answer;
    }
