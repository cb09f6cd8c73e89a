-- The totals in the words of a line, case by case. Assumes nothing.
use Rattle.std.specs.Prelude.{Option, Some, None}
use mathlib.Core.Path.{◌≡◌, refl, sym, ap, ◌∙◌, subst}
use mathlib.Core.Bool.{Bool, true, false, cond}
use mathlib.Core.List.{List}
use Prim.Native.Nat.{ℕ, ◌≤◌}
use native.Mathlib.Omega.{arith}
use borrow.Author.Tests.{le-leb, leb-true}
use lib.ListN.{get_or}
use Rattle.answers.specs.Conditions.{all}
use Rattle.answers.proofs.Conditions.{all_true}
use Rattle.source.specs.declared.Source.{Source}
use Rattle.source.specs.declared.Totals.{Totals}
use Rattle.source.specs.Record.{sound}
use Rattle.source.specs.Totals.{most_told}
use Rattle.source.proofs.Totalled.{SoundTotals}
use Rattle.lent.specs.SourceWords.{is_source, source_of, loaded}
use Rattle.lent.proofs.SourceLaws.{held}
use Rattle.mixed.specs.Lines.{record_in, line_conditions, totals_in}

abbrev totals_with : List ℕ → Source → Totals
totals_with line s = record { source = s; jumped = get_or line 11 0; restarts = get_or line 12 0 }

-- no record's words
pub no_record : (ws : List ℕ) → loaded ws ≡ None → is_source ws ≡ false
unfolding loaded
no_record ws e = go (is_source ws) refl e
  where
    go : (b : Bool) → is_source ws ≡ b → cond b (Some (source_of ws)) None ≡ None → is_source ws ≡ false
    go true f e = let z : ◌≡◌ {A = ℕ} 0 1 = cc in absurd (omega arith)
    go false f e = f

module _ (line : List ℕ) where
  abbrev totals_by : Bool → Option Totals
  totals_by b = cond b (Some (totals_with line (source_of (record_in line)))) None

  pub totals_none : false ≡ all (line_conditions line) → None ≡ totals_in line
  unfolding totals_in
  totals_none e = ap totals_by e

  pub totals_some : (s : Source) → loaded (record_in line) ≡ Some s → sound s ≡ true → get_or line 11 0 ≤ most_told → get_or line 12 0 ≤ most_told
      → Some (totals_with line s) ≡ totals_in line
  unfolding totals_in
  totals_some s e g j r =
      let h = held (record_in line) e in
      let good : sound (source_of (record_in line)) ≡ true = ap sound (sym h.2) ∙ g in
      let ok : all (line_conditions line) ≡ true = rw (h.1, good, le-leb (get_or line 11 0) most_told j, le-leb (get_or line 12 0) most_told r) in
      ap (λ (s : Source). Some (totals_with line s)) h.2 ∙ ap totals_by (sym ok)

  -- totals that are taken are sound
  pub taken_sound : (t : Totals) → totals_in line ≡ Some t → SoundTotals t
  unfolding totals_in
  taken_sound t e = go (all (line_conditions line)) refl e
    where
      go : (b : Bool) → all (line_conditions line) ≡ b → totals_by b ≡ Some t → SoundTotals t
      go true f e =
          let same : totals_with line (source_of (record_in line)) ≡ t = cc in
          subst SoundTotals same
          (record {
            good = all_true (line_conditions line) 1 f;
            jumped = leb-true (get_or line 11 0) most_told (all_true (line_conditions line) 2 f);
            restarts = leb-true (get_or line 12 0) most_told (all_true (line_conditions line) 3 f);
          })
      go false f e = let z : ◌≡◌ {A = ℕ} 0 1 = cc in absurd (omega arith)
