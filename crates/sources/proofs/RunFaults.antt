-- The refusals of a run, case by case, and what is known of one that none meets. Assumes nothing.
use Rattle.std.specs.Prelude.{Option, Some, None, Ok, Err}
use mathlib.Core.Path.{◌≡◌, refl, sym, ap, ◌∙◌}
use mathlib.Core.Bool.{Bool, true, false, cond, and-true}
use mathlib.Core.List.{List, map}
use Prim.Native.Nat.{ℕ, ◌≤◌, ◌<◌}
use native.Mathlib.Omega.{arith}
use borrow.Author.Tests.{eqb-true, leb-true, eq-eqb, le-leb, lt-leb}
use lib.ListN.{length}
use Rattle.answers.specs.Conditions.{all}
use Rattle.answers.specs.declared.Refusal.{Refusal}
use Rattle.answers.specs.declared.Refusal.TheVariants.{Malformed, Limits}
use Rattle.answers.proofs.Conditions.{all_true}
use Rattle.format.specs.Blocks.{block_bytes, body_bytes}
use Rattle.format.specs.Forms.{shape_of}
use Rattle.numbers.specs.BigEndian.{word}
use Rattle.trace.specs.Contents.{label_ok}
use Rattle.sources.specs.declared.runs.Run.{Run}
use Rattle.sources.specs.Places.{held_of}
use Rattle.sources.specs.Rules.{most_places}
use Rattle.sources.specs.Answers.{or_else}
use Rattle.sources.specs.Checks.{checked_by, Good}
use Rattle.sources.specs.Tables.{lent, fault_in}
use Rattle.sources.specs.Tallies.{sound_tally}
use Rattle.sources.specs.Runs.{own_fields, run_fault, judged}
use Rattle.sources.specs.Rows.{label_of, own_conditions, rows_fault, row_fault, judged_with, Judged}

-- a first refusal, or the second
either : (f g : Option Refusal) → or_else f g ≡ None → (f ≡ None) × (g ≡ None)
either (Some r) g e = let z : ◌≡◌ {A = ℕ} 0 1 = cc in absurd (omega arith)
either None g e = (refl, e)

chosen : (b : Bool) (r : Refusal) → cond b None (Some r) ≡ None → b ≡ true
chosen true r e = refl
chosen false r e = let z : ◌≡◌ {A = ℕ} 0 1 = cc in absurd (omega arith)

-- ---- a run that neither 16 nor 9 refuses

pub record GoodRun (run : Run) : Type 0 where
  pub table : fault_in run.table ≡ None
  pub count : run.table.count ≡ most_places
  pub short : run.length ≤ body_bytes
  pub tallies : all (map sound_tally run.tallies) ≡ true

module _ (run : Run) where
  pub good_run : run_fault run ≡ None → GoodRun run
  unfolding run_fault
  good_run e =
      let both = either (fault_in run.table) (cond (all (own_fields run)) None (Some Malformed)) e in
      let own = chosen (all (own_fields run)) Malformed both.1 in
      record {
        table = both.0;
        count = eqb-true run.table.count most_places (all_true (own_fields run) 0 own);
        short = leb-true run.length body_bytes (all_true (own_fields run) 1 own);
        tallies = all_true (own_fields run) 2 own;
      }

  pub run_good : GoodRun run → run_fault run ≡ None
  unfolding run_fault
  run_good g = rw (g.table, eq-eqb run.table.count most_places g.count, le-leb run.length body_bytes g.short, g.tallies)

  -- ---- what the check tells

  pub judged_refused : {r : Refusal} → fault_in run.table ≡ Some r → Err r ≡ judged run
  unfolding run_fault
  judged_refused e = rw e

  module _ {n : ℕ} (g : Good run.table n) where
    pub judged_own : all (own_fields run) ≡ false → Err Malformed ≡ judged run
    unfolding run_fault
    judged_own e = rw (g.kept, e)

    pub judged_held : all (own_fields run) ≡ true → Ok n ≡ judged run
    unfolding run_fault
    judged_held e = rw (g.kept, e) (ap Ok g.count)

  -- the last of the fields decides
  pub fields_last : run.table.count ≡ most_places → run.length ≤ body_bytes → all (map sound_tally run.tallies) ≡ all (own_fields run)
  fields_last c l = rw (eq-eqb run.table.count most_places c, le-leb run.length body_bytes l) (sym (and-true (all (map sound_tally run.tallies))))

-- ---- with block 0

pub record Own (run : Run) (zeroth : List ℕ) : Type 0 where
  pub whole : length zeroth ≡ block_bytes
  pub label : label_ok (label_of run zeroth) ≡ true

module _ (run : Run) (zeroth : List ℕ) where
  pub rows_good : rows_fault run zeroth ≡ None → (run_fault run ≡ None) × Own run zeroth
  unfolding rows_fault
  rows_good e =
      let both = either (run_fault run) (cond (all (own_conditions run zeroth)) None (Some Malformed)) e in
      let own = chosen (all (own_conditions run zeroth)) Malformed both.1 in
      (both.0, record { whole = eqb-true (length zeroth) block_bytes (all_true (own_conditions run zeroth) 0 own); label = all_true (own_conditions run zeroth) 3 own })

  pub good_rows : run_fault run ≡ None → all (own_conditions run zeroth) ≡ true → rows_fault run zeroth ≡ None
  unfolding rows_fault
  good_rows f o = rw (f, o)

  pub rows_own : rows_fault run zeroth ≡ None → all (own_conditions run zeroth) ≡ true
  unfolding rows_fault
  rows_own e =
      let both = either (run_fault run) (cond (all (own_conditions run zeroth)) None (Some Malformed)) e in
      chosen (all (own_conditions run zeroth)) Malformed both.1

  pub with_refused : {r : Refusal} → Err r ≡ judged run → Err r ≡ judged_with run zeroth
  unfolding rows_fault
  with_refused {r} e = go (run_fault run) refl e
    where
      go : (f : Option Refusal) → run_fault run ≡ f → Err r ≡ checked_by f (length (held_of (lent run.table))) → Err r ≡ judged_with run zeroth
      go (Some q) h e = let same : r ≡ q = cc in rw h (ap Err same)
      go None h e = let z : ◌≡◌ {A = ℕ} 0 1 = cc in absurd (omega arith)

  module _ {n : ℕ} (e : Ok n ≡ judged run) where
    held_none : (f : Option Refusal) (m : ℕ) → Ok n ≡ checked_by f m → (f ≡ None) × (n ≡ m)
    held_none (Some q) m e = let z : ◌≡◌ {A = ℕ} 0 1 = cc in absurd (omega arith)
    held_none None m e = (refl, cc)

    pub judged_none : (run_fault run ≡ None) × (n ≡ length (held_of (lent run.table)))
    judged_none = held_none (run_fault run) (length (held_of (lent run.table))) e

    pub with_own : all (own_conditions run zeroth) ≡ false → Err Malformed ≡ judged_with run zeroth
    unfolding rows_fault
    with_own o = rw (judged_none.0, o)

    pub with_held : all (own_conditions run zeroth) ≡ true → Ok n ≡ judged_with run zeroth
    unfolding rows_fault
    with_held o = rw (judged_none.0, o) (ap Ok judged_none.1)

  -- what the check with block 0 tells
  pub told_refused : {r : Refusal} → Err r ≡ judged_with run zeroth → rows_fault run zeroth ≡ Some r
  told_refused {r} e = go (rows_fault run zeroth) refl e
    where
      go : (f : Option Refusal) → rows_fault run zeroth ≡ f → Err r ≡ checked_by f (length (held_of (lent run.table))) → rows_fault run zeroth ≡ Some r
      go (Some q) h e = let same : q ≡ r = cc in h ∙ ap Some same
      go None h e = let z : ◌≡◌ {A = ℕ} 0 1 = cc in absurd (omega arith)

  pub told_held : {n : ℕ} → Ok n ≡ judged_with run zeroth → Judged run zeroth n
  told_held {n} e = go (rows_fault run zeroth) refl e
    where
      go : (f : Option Refusal) → rows_fault run zeroth ≡ f → Ok n ≡ checked_by f (length (held_of (lent run.table))) → Judged run zeroth n
      go (Some q) h e = let z : ◌≡◌ {A = ℕ} 0 1 = cc in absurd (omega arith)
      go None h e = record { good = h; count = cc }

  pub own_last : length zeroth ≡ block_bytes → word 2 zeroth 0 ≡ (shape_of run.form).label → word 2 zeroth 2 ≡ run.length
      → label_ok (label_of run zeroth) ≡ all (own_conditions run zeroth)
  own_last h k n =
      rw (eq-eqb (length zeroth) block_bytes h, eq-eqb (word 2 zeroth 0) (shape_of run.form).label k, eq-eqb (word 2 zeroth 2) run.length n)
      (sym (and-true (label_ok (label_of run zeroth))))

  -- ---- the row of a line

  module _ (i : ℕ) where
    pub row_refused : {r : Refusal} → rows_fault run zeroth ≡ Some r → row_fault run i zeroth ≡ Some r
    unfolding row_fault
    row_refused e = rw e

    module _ {n : ℕ} (j : Judged run zeroth n) where
      pub row_behind : n ≤ i → row_fault run i zeroth ≡ Some Limits
      unfolding row_fault
      row_behind h = rw (j.good, ← j.count, le-leb n i h)

      pub row_goes : i < n → row_fault run i zeroth ≡ None
      unfolding row_fault
      row_goes h = rw (j.good, ← j.count, lt-leb n i h)
