-- The row of a line, case by case. Assumes nothing.
use Rattle.std.specs.Prelude.{Some, None}
use mathlib.Core.Path.{◌≡◌, sym, ap, ◌∙◌}
use mathlib.Core.Bool.{Bool, true, false, cond, and-true}
use mathlib.Core.List.{List}
use Prim.Native.Nat.{ℕ, ◌*◌, ◌^◌, ◌≤◌, ◌<◌}
use native.Mathlib.Omega.{arith}
use borrow.Author.Tests.{eqb-true, leb-true, eq-eqb, le-leb, lt-leb, lt-ltb, le-ltb}
use lib.ListN.{length, take, drop, get_or}
use Rattle.numbers.specs.BigEndian.{word}
use Rattle.answers.specs.declared.Refusal.TheVariants.{Malformed, Limits}
use Rattle.answers.proofs.Conditions.{all_true}
use Rattle.format.specs.Blocks.{block_bytes, body_bytes}
use Rattle.format.specs.Forms.{shape_of}
use Rattle.source.specs.declared.Totals.{Totals}
use Rattle.trace.specs.Contents.{label_ok}
use Rattle.table.specs.Lines.{row_bytes}
use Rattle.mixed.specs.declared.Run.{Run}
use Rattle.mixed.specs.Lines.{ssrc_in, totals_in}
use Rattle.mixed.specs.Runs.{sound_run}
use Rattle.mixed.specs.Rows.{label_of, own_conditions, own_label, totals_at, fault_by, row_by, row_fault, row_of}
use Rattle.mixed.proofs.Cuts.{line_at_lem, ssrc_at_lem}

-- ---- block 0 is the run's own

pub record Own (run : Run) (zeroth : List ℕ) : Type 0 where
  pub whole : length zeroth ≡ block_bytes
  pub short : run.length ≤ body_bytes
  pub label : label_ok (label_of run zeroth) ≡ true

module _ (run : Run) (zeroth : List ℕ) where
  pub is_own : own_label run zeroth ≡ true → Own run zeroth
  unfolding own_label
  is_own e = record {
    whole = eqb-true (length zeroth) block_bytes (all_true (own_conditions run zeroth) 0 e);
    short = leb-true run.length body_bytes (all_true (own_conditions run zeroth) 3 e);
    label = all_true (own_conditions run zeroth) 4 e;
  }

  pub own_last : length zeroth ≡ block_bytes → word 2 zeroth 0 ≡ (shape_of run.form).label → word 2 zeroth 2 ≡ run.length → run.length ≤ body_bytes
      → label_ok (label_of run zeroth) ≡ own_label run zeroth
  unfolding own_label
  own_last h k n l =
      rw (
        eq-eqb (length zeroth) block_bytes h,
        eq-eqb (word 2 zeroth 0) (shape_of run.form).label k,
        eq-eqb (word 2 zeroth 2) run.length n,
        le-leb run.length body_bytes l,
      )
      (sym (and-true (label_ok (label_of run zeroth))))

-- ---- the refusals in their order

module _ (run : Run) (i : ℕ) (ws zeroth : List ℕ) where
  pub row_malformed : sound_run run ws ≡ false → row_fault run i ws zeroth ≡ Some Malformed
  unfolding row_fault
  row_malformed s = rw s

  module _ (s : sound_run run ws ≡ true) where
    pub row_foreign : own_label run zeroth ≡ false → row_fault run i ws zeroth ≡ Some Malformed
    unfolding row_fault
    row_foreign o = rw (s, o)

    module _ (o : own_label run zeroth ≡ true) where
      pub row_behind : run.held ≤ i → row_fault run i ws zeroth ≡ Some Limits
      unfolding row_fault
      row_behind h = rw (s, o, le-leb run.held i h)

      module _ (h : i < run.held) where
        abbrev line : List ℕ
        line = take 13 (drop (13 * i) ws)

        by_totals : row_fault run i ws zeroth ≡ fault_by (totals_at line)
        unfolding row_fault
        by_totals = rw (s, o, lt-leb run.held i h) (ap (λ (l : List ℕ). fault_by (totals_at l)) (line_at_lem i run.held ws h))

        pub row_wide : 0xffff_ffff < get_or ws (13 * i) 0 → row_fault run i ws zeroth ≡ Some Malformed
        row_wide w =
            let wide : 2 ^ 32 ≤ ssrc_in line = omega (arith, ssrc_at_lem i ws) in
            by_totals ∙ ap (λ (b : Bool). fault_by (cond b (totals_in line) None)) (le-ltb (ssrc_in line) (2 ^ 32) wide)

        module _ (w : get_or ws (13 * i) 0 ≤ 0xffff_ffff) where
          narrow : totals_at line ≡ totals_in line
          narrow =
              let few : ssrc_in line < 2 ^ 32 = omega (arith, ssrc_at_lem i ws) in
              ap (λ (b : Bool). cond b (totals_in line) None) (lt-ltb (ssrc_in line) (2 ^ 32) few)

          pub row_no_line : totals_in line ≡ None → row_fault run i ws zeroth ≡ Some Malformed
          row_no_line e = by_totals ∙ ap fault_by (narrow ∙ e)

          pub row_goes : (t : Totals) → totals_in line ≡ Some t → row_fault run i ws zeroth ≡ None
          row_goes t e = by_totals ∙ ap fault_by (narrow ∙ e)

          pub row_is : (t : Totals) → totals_in line ≡ Some t → row_of run i ws zeroth ≡ row_bytes (label_of run zeroth) (get_or ws (13 * i) 0) t
          unfolding row_of
          row_is t e =
              ap (λ (l : List ℕ). row_by (label_of run zeroth) (ssrc_in l) (totals_at l)) (line_at_lem i run.held ws h)
              ∙ ap (row_by (label_of run zeroth) (ssrc_in line)) (narrow ∙ e)
              ∙ ap (λ (ssrc : ℕ). row_bytes (label_of run zeroth) ssrc t) (ssrc_at_lem i ws)
