-- A run of ecnstreams in lent words, or their refusal, and how long its rows are. Assumes nothing.
use Rattle.std.specs.Prelude.{Option, Some, None, Result, Ok, Err}
use Rattle.answers.specs.declared.Unwritten.{Unwritten}
use mathlib.Core.Path.{◌≡◌, refl, sym, ap, ◌∙◌, subst₂}
use mathlib.Core.Bool.{Bool, true, false, cond}
use mathlib.Core.List.{List, []}
use Prim.Native.Nat.{ℕ, ◌≤◌, ◌<◌}
use native.Mathlib.Omega.{arith}
use borrow.Author.Tests.{leb-false}
use lib.Dec.{leb}
use lib.ListN.{length}
use Rattle.answers.specs.Refusals.{number_of}
use Rattle.answers.specs.Writers.{Wrote}
use Rattle.answers.specs.declared.Refusal.{Refusal}
use Rattle.answers.specs.declared.Refusal.TheVariants.{Limits}
use Rattle.answers.proofs.Stores.{wrote_refused, wrote_same}
use Rattle.table.specs.Theorems.{row_most}
use Rattle.walk.specs.Steps.{Next, refuses}
use Rattle.sources.specs.declared.runs.Run.{Run}
use Rattle.sources.specs.declared.runs.Step.{Step}
use Rattle.sources.specs.Places.{held_of}
use Rattle.sources.specs.Tables.{lent}
use Rattle.sources.specs.Answers.{or_else}
use Rattle.sources.specs.Runs.{call_next, TakesBlock}
use Rattle.sources.specs.Rows.{rows_fault, row_fault, row_of}
use Rattle.sources.proofs.LineLaws as lines
use Rattle.lent.specs.StreamWords.{run_words, stored_lines, run_of, loaded}
use Rattle.lent.proofs.StreamTaking.{none_sound, taken, not_taken}
use Rattle.lent.proofs.StreamLaws.{ssrc_fits}
use Rattle.capi.specs.Codes.{refusal_code, Leaves}
use Rattle.capi.specs.StepCalls.{words_after, Takes}
use Rattle.capi.specs.StreamsCalls.{streams_next, TakesStreams, line_fault}
use Rattle.capi.proofs.StepLaws.{takes_step, takes_none}

-- ---- a later block

module _ (words ws block : List ℕ) where
  pub streams_refused : {r : Refusal} → loaded words ws ≡ Err r → TakesStreams words ws block (number_of r) words ws
  unfolding streams_next
  streams_refused {r} e =
      let f : streams_next words ws block ≡ refuses r = rw (not_taken words ws e) in
      record { takes = takes_none refusal_code run_words words f; holds = takes_none refusal_code (stored_lines ws) ws f }

  module _ {run : Run} (e : loaded words ws ≡ Ok run) where
    given : run ≡ run_of words ws
    given = (taken words ws e).1

    next_is : call_next run block ≡ streams_next words ws block
    unfolding streams_next
    next_is = rw (taken words ws e).0 (ap (λ (x : Run). call_next x block) given)

    pub streams_stepped : {s : Step} {r : ℕ} {left kept : List ℕ} → TakesBlock run (call_next run block) s
        → kept ≡ words_after ws (stored_lines ws s.run) s.answer
        → Leaves (refusal_code s.answer) (words_after words (run_words s.run) s.answer) r left → TakesStreams words ws block r left kept
    streams_stepped {s} {r} {left} {kept} w k l = record {
      takes = subst₂ (λ (x : Run) (n : Next Run). Takes refusal_code run_words words x n [] [] r left []) given next_is
          (takes_step refusal_code run_words words w l);
      holds = subst₂ (λ (x : Run) (n : Next Run). Takes refusal_code (stored_lines ws) ws x n [] [] r kept []) given next_is
          (takes_step refusal_code (stored_lines ws) ws w (record { answers = l.answers; stores = k }));
    }

-- ---- a row

-- a row that is written is of a held line
held_line_lem : (run : Run) (i : ℕ) (zeroth : List ℕ) → row_fault run i zeroth ≡ None → (rows_fault run zeroth ≡ None) × (i < length (held_of (lent run.table)))
unfolding row_fault
held_line_lem run i zeroth e = go (rows_fault run zeroth) refl (leb (length (held_of (lent run.table))) i) refl e
  where
    go : (f : Option Refusal) → rows_fault run zeroth ≡ f → (b : Bool) → leb (length (held_of (lent run.table))) i ≡ b
        → or_else f (cond b (Some Limits) None) ≡ None
        → (f ≡ None) × (i < length (held_of (lent run.table)))
    go None rf false rb e = (refl, leb-false (length (held_of (lent run.table))) i rb)
    go None rf true rb e = let z : ◌≡◌ {A = ℕ} 0 1 = cc in absurd (omega arith)
    go (Some r) rf b rb e = let z : ◌≡◌ {A = ℕ} 0 1 = cc in absurd (omega arith)

module _ (words : List ℕ) (i : ℕ) (ws zeroth old : List ℕ) where
  pub row_refused : {r : Refusal} → loaded words ws ≡ Err r
      → Wrote (line_fault words i ws zeroth) (row_of (run_of words ws) i zeroth) old (Err (Unwritten.Refused r)) old
  unfolding line_fault
  row_refused e = wrote_refused (row_of (run_of words ws) i zeroth) old (rw (not_taken words ws e))

  module _ {run : Run} (e : loaded words ws ≡ Ok run) where
    its_run : run ≡ run_of words ws
    its_run = (taken words ws e).1

    pub row_held : {answer : Result ℕ Unwritten} {out : List ℕ} → Wrote (row_fault run i zeroth) (row_of run i zeroth) old answer out
        → Wrote (line_fault words i ws zeroth) (row_of (run_of words ws) i zeroth) old answer out
    unfolding line_fault
    row_held w =
        let fault : row_fault run i zeroth ≡ line_fault words i ws zeroth = rw (taken words ws e).0 (ap (λ (x : Run). row_fault x i zeroth) its_run) in
        wrote_same fault (ap (λ (x : Run). row_of x i zeroth) its_run) w

    -- it is short
    pub row_long : row_fault run i zeroth ≡ None → length (row_of run i zeroth) ≤ row_most
    row_long f =
        let given = run_of words ws in
        let held = held_line_lem given i zeroth (ap (λ (x : Run). row_fault x i zeroth) (sym its_run) ∙ f) in
        let small = ssrc_fits words ws (none_sound words ws (taken words ws e).0) i in
        let many = length (held_of (lent given.table)) in
        let most = lines.row_long given zeroth many (record { good = held.0; count = refl }) i held.1 small in
        omega (arith, most, ap (λ (x : Run). length (row_of x i zeroth)) its_run)
