-- The calls for one block each, and then for the rows, give what the whole run prints. Assumes nothing.
use Rattle.std.specs.Prelude.{Option, Some, None, Result, Ok, Err}
use mathlib.Core.Path.{◌≡◌, refl, sym, ap, ap₂, ◌∙◌, subst⁻¹}
use mathlib.Core.List.{List, [], ◌∷◌, ◌++◌, map}
use Prim.Native.Nat.{ℕ, zero, suc, ◌+◌, ◌*◌, ◌^◌, ◌≤◌, ◌<◌}
use native.Mathlib.Nat.{add-zero}
use native.Mathlib.Numerals.{add-one}
use native.Mathlib.Omega.{arith}
use borrow.Author.Tests.{lt-leb, lt-ltb}
use lib.ListN.{length, drop, get_or}
use lib.Seq.{get_or-drop, drop-drop}
use Rattle.answers.specs.declared.Refusal.{Refusal}
use Rattle.answers.specs.declared.Refusal.TheVariants.{Incomplete}
use Rattle.format.specs.Blocks.{block_bytes}
use Rattle.trace.specs.Reading.{block_of}
use Rattle.trace.specs.declared.Block.{Block}
use Rattle.trace.specs.declared.Block.TheVariants as read
use Rattle.trace.proofs.Decisions.{not_whole}
use Rattle.table.specs.Lines.{head_bytes, row_bytes}
use Rattle.walk.specs.Programs.{nothing, to_output, Ending}
use Rattle.walk.specs.Steps.{Next, goes, refuses}
use Rattle.walk.specs.Singles.{Starts, Turns, Mirrors}
use Rattle.walk.proofs.Singles.{singles_print}
use Rattle.mixed.specs.declared.Line.{Line}
use Rattle.mixed.specs.declared.Run.{Run}
use Rattle.mixed.specs.Lines.{by_value}
use Rattle.mixed.specs.Blocks.{most_lines, next_by, next_of}
use Rattle.mixed.specs.Runs.{start_by, start_of, carried_by}
use Rattle.mixed.specs.Rows.{line_at, totals_at, row_fault, row_of}
use Rattle.mixed.specs.Tables.{Kept, begun_by, taken, rows_of, ended, ecnstreams, printed}
use Rattle.mixed.specs.Theorems.{Lent, started_on, next_on, row_in, row_at, rows_from, end_on, block_calls, CallsPrint}
use Rattle.mixed.proofs.Restored.{totals_back, words_of}
use Rattle.mixed.proofs.Kept.{Each, GoodLine, Keeps, next_keeps}
use Rattle.mixed.proofs.InWords.{next_words, ssrc_of_lem}
use Rattle.mixed.proofs.Beside.{Holds, sound, call_next_lem, still_holds, start_holds}

-- ---- the rows

map-drop : (n : ℕ) (ls : List Line) → drop n (map words_of ls) ≡ map words_of (drop n ls)
map-drop zero ls = refl
map-drop (suc n) [] = refl
map-drop (suc n) (l ∷ ls) = map-drop n ls

module _ {zeroth : List ℕ} {run : Run} {ws : List ℕ} {k : Kept} (h : Holds zeroth run ws k) where
  module _ (i : ℕ) (l : Line) (back : List Line) (here : drop i k.lines ≡ l ∷ back) (g : GoodLine l) where
    line_at_lem : line_at run i ws ≡ words_of l
    line_at_lem =
        ap (λ (ls : List (List ℕ)). get_or ls i []) h.words
        ∙ ap (λ (n : ℕ). get_or (map words_of k.lines) n []) (sym (add-zero i))
        ∙ sym (get_or-drop i (map words_of k.lines) 0 [])
        ∙ ap (λ (ls : List (List ℕ)). get_or ls 0 []) (map-drop i k.lines ∙ ap (map words_of) here)

    totals_at_lem : totals_at (line_at run i ws) ≡ Some l.totals
    totals_at_lem = ap totals_at line_at_lem ∙ rw (ssrc_of_lem l, lt-ltb l.ssrc (2 ^ 32) g.ssrc) (totals_back l.ssrc l.totals g.totals)

    no_fault : i < run.held → row_fault run i ws zeroth ≡ None
    unfolding row_fault
    no_fault less = rw (sound h, h.own, lt-leb run.held i less, totals_at_lem)

    row_is : row_of run i ws zeroth ≡ row_bytes k.label l.ssrc l.totals
    unfolding row_of
    row_is = rw (totals_at_lem, line_at_lem, ssrc_of_lem l, h.label)

abbrev Stands : Lent → Kept → Type 0
Stands h k = Holds h.zeroth h.run h.words k

module _ (h : Lent) (k : Kept) (s : Stands h k) where
  row_at_lem : (i : ℕ) (l : Line) (back : List Line) → drop i k.lines ≡ l ∷ back → GoodLine l → i < h.run.held → row_at h i ≡ row_bytes k.label l.ssrc l.totals
  row_at_lem i l back here g less =
      ap (λ (o : Option Refusal). row_in o (row_of h.run i h.words h.zeroth)) (no_fault s i l back here g less) ∙ row_is s i l back here g

  rows_from_lem : (i : ℕ) (back : List Line) → drop i k.lines ≡ back → i + length back ≡ h.run.held → Each GoodLine back
      → rows_from h i (length back) ≡ rows_of k.label back
  unfolding rows_from rows_of
  rows_from_lem i [] here end g = refl
  rows_from_lem i (l ∷ back) here end g =
      let next : drop (suc i) k.lines ≡ back = ap (λ (n : ℕ). drop n k.lines) (sym (add-one i)) ∙ sym (drop-drop 1 i k.lines) ∙ ap (drop 1) here in
      ap₂ (λ (s t : List ℕ). s ++ t) (row_at_lem i l back here g.0 (omega arith)) (rows_from_lem (suc i) back next (omega arith) g.1)

  ends : (e : Option Ending) → end_on h e ≡ ended k e
  ends None = ap to_output (ap (rows_from h 0) s.held ∙ rows_from_lem 0 k.lines refl (omega (arith, s.held)) s.good)
  ends (Some e) = refl

-- ---- the blocks

starts : (ws b : List ℕ) → 13 * most_lines ≤ length ws → (r : Result Block Refusal) → block_of b ≡ r
    → Starts Stands (block_calls ws) ecnstreams (begun_by b r) (started_on ws b (start_by r)) × ((begun_by b r).printed ≡ to_output head_bytes)
starts ws b room (Ok (read.Label form n ssrc)) e = ((start_holds b ws form n ssrc room e, refl), refl)
starts ws b room (Ok (read.Arrivals form n ssrc)) e = ((refl, refl), refl)
starts ws b room (Err refusal) e = ((refl, refl), refl)

turns : (h : Lent) (k : Kept) → Stands h k → (n : Next (List Line)) → Keeps n
    → Turns Stands h k [] (taken k n) (next_on h.zeroth (carried_by h.run h.words (next_words n)))
turns h k s (goes ls) keeps = (still_holds s ls keeps, refl, refl)
turns h k s (refuses refusal) keeps = refl

-- a part of a block is refused with 1
short_turn : (i : ℕ) (k : Kept) (b : List ℕ) → length b < block_bytes → ecnstreams.step i k b ≡ record { state = k; printed = nothing; refusal = Some Incomplete }
unfolding next_of
short_turn i k b less = ap (λ (r : Result Block Refusal). taken k (next_by by_value k.form b k.lines r)) (sym (not_whole b (λ e. omega (arith, e))))

pub mirrors : (ws : List ℕ) → 13 * most_lines ≤ length ws → Mirrors (block_calls ws) ecnstreams
unfolding start_of
mirrors ws room = record {
  Stands = Stands;
  starts = λ b o. starts ws b room (block_of b) refl;
  turns = λ i h k b s o.
      subst⁻¹ (λ (n : Next (List (List ℕ))). Turns Stands h k [] (ecnstreams.step i k b) (next_on h.zeroth (carried_by h.run h.words n))) (call_next_lem s b)
      (turns h k s (next_of by_value k.form b k.lines) (next_keeps k.form b k.lines o s.good s.few));
  ends = λ h k e s. ends h k s e;
  parts = λ i k b more less. short_turn i k b less;
}

pub calls_print : CallsPrint
unfolding printed
calls_print trace ws q o few room session = singles_print Lent Kept (block_calls ws) ecnstreams trace q (mirrors ws room) o few session
