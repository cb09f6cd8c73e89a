-- The calls for one block each, and then for the rows, give what the whole run prints; the order of its lines. Assumes nothing.
use Rattle.std.specs.Prelude.{Option, Some, None, Result, Ok, Err}
use mathlib.Core.Path.{◌≡◌, refl, sym, ap, ap₂, ◌∙◌, subst, subst⁻¹}
use mathlib.Core.Bool.{true}
use mathlib.Core.List.{List, [], ◌∷◌, ◌++◌, map, append-nil}
use Prim.Native.Nat.{ℕ, zero, suc, ◌+◌, ◌≤◌, ◌<◌}
use native.Mathlib.Numerals.{add-one}
use native.Mathlib.Omega.{arith}
use lib.ListN.{length, drop, length-take}
use Rattle.answers.specs.declared.Refusal.{Refusal}
use Rattle.trace.specs.Reading.{block_of}
use Rattle.trace.specs.declared.Block.{Block}
use Rattle.trace.specs.declared.Block.TheVariants as read
use Rattle.table.specs.Lines.{head_bytes}
use Rattle.numbers.proofs.Octets.{octets_drop}
use Rattle.format.specs.Blocks.{block_bytes}
use Rattle.walk.specs.Blocks.{blocks_of}
use Rattle.walk.specs.Programs.{Printed, nothing, both, to_output, Ending, Run as Runs, turned, onward, walk, walked, closed, printed_by}
use Rattle.walk.specs.Pieces.{Octets}
use Rattle.walk.specs.Steps.{Next, goes, refuses}
use Rattle.walk.specs.Singles.{Starts, Turns, Mirrors}
use Rattle.walk.proofs.Cuts.{Each}
use Rattle.walk.proofs.Pieces.{octets_blocks}
use Rattle.walk.proofs.Singles.{singles_print}
use Rattle.sources.specs.declared.Place.{Place}
use Rattle.sources.specs.declared.runs.Tally.{Tally}
use Rattle.sources.specs.declared.runs.Run.{Run}
use Rattle.sources.specs.Places.{held_of}
use Rattle.sources.specs.Rules.{most_places, rising}
use Rattle.sources.specs.Tables.{lent}
use Rattle.sources.specs.Runs.{no_run, start_by, start_of, next_of}
use Rattle.sources.specs.Rows.{lines_from, lines_of, label_of, rows_of, row_of, Judged}
use Rattle.sources.specs.Streams.{Kept, begun, taken, closing, ecnstreams, printed}
use Rattle.sources.specs.RunTheorems.{started_on, next_on, row_by, rows_from, end_on, block_calls, CallsPrint, Rising, InOrder, LinesRise, HeadThenRows}
use Rattle.sources.proofs.Found.{rising_first, rising_rest}
use Rattle.sources.proofs.Checking.{kept, kept_rises}
use Rattle.sources.proofs.RunFaults.{rows_good, row_goes}
use Rattle.sources.proofs.RunSteps.{call_goes}
use Rattle.sources.proofs.HeldHere.{table_good}
use Rattle.sources.proofs.NextRuns.{Whole, empty_whole, start_whole, start_rows, next_whole}
use Rattle.sources.proofs.LineLaws.{lines_long, rows_next, rows_over}
use Rattle.sources.proofs.Fronts.{front_le}
use Rattle.sources.proofs.Streamed.{short_turn, Sound, turn_keeps}

-- ---- the rows

module _ (k : Kept) (s : Sound k.zeroth k) where
  abbrev n : ℕ
  n = length (held_of (lent k.run.table))

  j : Judged k.run k.zeroth n
  j = record { good = s.rows; count = refl }

  rows_from_lem : (m i : ℕ) → i + m ≡ n → rows_from k i m ≡ rows_of (label_of k.run k.zeroth) (drop i (lines_of k.run))
  unfolding rows_from
  rows_from_lem zero i e = sym (rows_over k.run k.zeroth n j i (omega arith))
  rows_from_lem (suc m) i e =
      let h : i < n = omega arith in
      ap₂ (λ (a b : List ℕ). a ++ b)
      (ap (λ (o : Option Refusal). row_by o (row_of k.run i k.zeroth)) (row_goes k.run k.zeroth i j h))
      (rows_from_lem m (suc i) (omega arith) ∙ ap (λ (a : ℕ). rows_of (label_of k.run k.zeroth) (drop a (lines_of k.run))) (sym (add-one i)))
      ∙ sym (rows_next k.run k.zeroth n j i h)

  ends : (e : Option Ending) → end_on k e ≡ closing k e
  ends None = ap to_output (rows_from_lem n 0 (omega arith))
  ends (Some e) = refl

-- ---- the blocks

-- what is handed on is the program's state, and is sound
abbrev Same : Kept → Kept → Type 0
Same k s = (k ≡ s) × Sound k.zeroth k

starts : (b : List ℕ) (r : Result Block Refusal) → block_of b ≡ r
    → Starts Same block_calls ecnstreams (begun b (start_by r)) (started_on b (start_by r).run (start_by r).answer) × ((begun b (start_by r)).printed ≡ to_output head_bytes)
starts b (Ok (read.Label form n ssrc)) e = (((refl, record { whole = start_whole b e; rows = start_rows b e; same = refl }), refl), refl)
starts b (Ok (read.Arrivals form n ssrc)) e = ((refl, refl), refl)
starts b (Err refusal) e = ((refl, refl), refl)

turns : (i : ℕ) (k : Kept) (b : List ℕ) → Sound k.zeroth k → Octets b → (n : Next Run) → next_of k.run b ≡ n → Sound k.zeroth (taken k n).state
    → Turns Same k k [] (taken k n) (next_on k.zeroth n)
turns i k b s o (goes next) e keeps = ((refl, keeps), refl, refl)
turns i k b s o (refuses refusal) e keeps = refl

pub mirrors : Mirrors block_calls ecnstreams
unfolding start_of
mirrors = record {
  Stands = Same;
  starts = λ b o. starts b (block_of b) refl;
  turns = λ i k s b same o.
      subst (λ (s : Kept). Turns Same k s [] (ecnstreams.step i s b) (block_calls.next k b)) same.0
      (subst⁻¹ (λ (n : Next Run). Turns Same k k [] (taken k (next_of k.run b)) (next_on k.zeroth n))
      (call_goes k.run b (rows_good k.run k.zeroth same.1.rows).0)
      (turns i k b same.1 o (next_of k.run b) refl (turn_keeps k.zeroth i k b same.1 o)));
  ends = λ k s e same. ends k same.1 e ∙ ap (λ (s : Kept). closing s e) same.0;
  parts = λ i s b more less. short_turn i s b less;
}

pub calls_print : CallsPrint
unfolding printed
calls_print trace q o few session = singles_print Kept Kept block_calls ecnstreams trace q mirrors o few session

-- ---- the order of the lines

rises : (least : ℕ) (ps : List Place) (ts : List Tally) → rising least ps ≡ true → Rising (map (λ l. l.ssrc) (lines_from ps ts))
unfolding lines_from
rises least [] ts r = tt
rises least (p ∷ []) ts r = tt
rises least (p ∷ q ∷ ps) ts r =
    let rest = rising_rest least p (q ∷ ps) r in
    let above = rising_first (p.ssrc + 1) q ps rest in
    (omega arith, rises (p.ssrc + 1) (q ∷ ps) (drop 1 ts) rest)

whole_order : (run : Run) → Whole run → InOrder (lines_of run)
unfolding lines_of
whole_order run w =
    let good = table_good run w.good w.long in
    record {
      rising = rises 0 (held_of (lent run.table)) run.tallies (kept_rises (lent run.table) (kept (lent run.table) good).ruled);
      few = few;
    }
  where
    few : length (lines_from (held_of (lent run.table)) run.tallies) ≤ most_places
    few = omega (arith, lines_long (held_of (lent run.table)) run.tallies, front_le (lent run.table), length-take run.table.count run.table.places, w.good.count)

-- a run stays whole
walk_whole : (i : ℕ) (bs : List (List ℕ)) (k : Kept) → Each Octets bs → Whole k.run → Whole (walk ecnstreams i bs k).state.run
unfolding walk onward
walk_whole i [] k o w = w
walk_whole i (b ∷ bs) k o w = go (next_of k.run b) refl (λ s. walk_whole (suc i) bs s o.1)
  where
    go : (n : Next Run) → next_of k.run b ≡ n → ((s : Kept) → Whole s.run → Whole (walk ecnstreams (suc i) bs s).state.run)
        → Whole (onward (turned i (taken k n)) (walk ecnstreams (suc i) bs)).state.run
    go (goes next) e later = later (record { run = next; zeroth = k.zeroth }) (next_whole k.run b next o.0 w e)
    go (refuses refusal) e later = w

pub lines_rise : LinesRise
unfolding walked onward start_of
lines_rise trace o = go (block_of (blocks_of trace).zeroth) refl
  where
    rest : Kept → Runs Kept
    rest = walk ecnstreams 1 (blocks_of trace).others

    each : Each Octets (blocks_of trace).others
    each = octets_blocks trace (octets_drop block_bytes trace o)

    go : (r : Result Block Refusal) → block_of (blocks_of trace).zeroth ≡ r → InOrder (lines_of (onward (turned 0 (begun (blocks_of trace).zeroth (start_by r))) rest).state.run)
    go (Ok (read.Label form n ssrc)) e = whole_order _ (walk_whole 1 (blocks_of trace).others _ each (start_whole (blocks_of trace).zeroth e))
    go (Ok (read.Arrivals form n ssrc)) e = whole_order no_run (empty_whole _ 0 (omega arith))
    go (Err refusal) e = whole_order no_run (empty_whole _ 0 (omega arith))

-- ---- what is printed

walk_silent : (i : ℕ) (bs : List (List ℕ)) (k : Kept) → (walk ecnstreams i bs k).printed ≡ nothing
unfolding walk onward
walk_silent i [] k = refl
walk_silent i (b ∷ bs) k = go (next_of k.run b) (λ s. walk_silent (suc i) bs s)
  where
    go : (n : Next Run) → ((s : Kept) → (walk ecnstreams (suc i) bs s).printed ≡ nothing) → (onward (turned i (taken k n)) (walk ecnstreams (suc i) bs)).printed ≡ nothing
    go (goes next) later = later (record { run = next; zeroth = k.zeroth })
    go (refuses refusal) later = refl

pub head_then_rows : HeadThenRows
unfolding printed_by closed walked onward start_of
head_then_rows bs = ap (λ (p : Printed). both p (closing (walked ecnstreams bs).state (walked ecnstreams bs).ended)) (go (block_of bs.zeroth))
  where
    go : (r : Result Block Refusal) → (onward (turned 0 (begun bs.zeroth (start_by r))) (walk ecnstreams 1 bs.others)).printed ≡ to_output head_bytes
    go (Ok (read.Label form n ssrc)) =
        ap (both (to_output head_bytes)) (walk_silent 1 bs.others (begun bs.zeroth (start_by (Ok (read.Label form n ssrc)))).state) ∙ λ i. record { out = append-nil head_bytes i; err = [] }
    go (Ok (read.Arrivals form n ssrc)) = refl
    go (Err refusal) = refl
