-- The calls over pieces, case by case. Assumes nothing.
use Rattle.std.specs.Prelude.{Option, Some, None, Result, Ok, Err}
use Rattle.answers.specs.declared.Unwritten.{Unwritten}
use Rattle.convert.specs.declared.Run.{Run}
use mathlib.Core.Path.{◌≡◌, refl, ap, ◌∙◌}
use mathlib.Core.List.{List, [], ◌∷◌}
use Prim.Native.Nat.{ℕ, ◌≤◌}
use native.Mathlib.Omega.{arith}
use lib.ListN.{length}
use Rattle.answers.specs.Refusals.{number_of}
use Rattle.answers.specs.Writers.{Wrote}
use Rattle.answers.specs.declared.Refusal.{Refusal}
use Rattle.answers.specs.declared.Refusal.TheVariants.{Incomplete}
use Rattle.answers.proofs.Stores.{wrote_all}
use Rattle.table.specs.Lines.{refused_line}
use Rattle.walk.specs.Programs.{nothing, to_output}
use Rattle.walk.specs.Machines.{ending_by}
use Rattle.walk.specs.declared.Closed.{Closed}
use Rattle.convert.specs.declared.pieces.Progress.{Progress}
use Rattle.convert.specs.Runs.{start_of}
use Rattle.convert.specs.Tables.{begun, closing}
use Rattle.convert.specs.Pieces.{begin_by, begin_of, not_begun, begun_in, end_of, Ends}

-- ---- block 0

pub begin_by_lem : (b : List ℕ) {r : Result Run Refusal} → start_of b ≡ r → begin_of b ≡ begin_by (begun b r)
unfolding begin_of
begin_by_lem b e = ap (λ (r : Result Run Refusal). begin_by (begun b r)) e

pub begun_none : (b : List ℕ) {w : Result ℕ Unwritten} {why : Unwritten} → w ≡ Err why → begun_in b w ≡ not_begun
begun_none b e = ap (begun_in b) e

-- ---- the end

module _ (p : Progress) (rest : List ℕ) where
  end_by_lem : {e : Option Refusal} → p.ended ≡ e → end_of p rest ≡ closing (ending_by p.block e rest)
  unfolding end_of
  end_by_lem e = ap (λ (e : Option Refusal). closing (ending_by p.block e rest)) e

  pub end_refused : {refusal : Refusal} → p.ended ≡ Some refusal → end_of p rest ≡ to_output (refused_line (number_of refusal) p.block)
  end_refused e = end_by_lem e

  pub end_whole : p.ended ≡ None → length rest ≡ 0 → end_of p rest ≡ nothing
  end_whole e h = end_by_lem e ∙ go rest h
    where
      go : (rest : List ℕ) → length rest ≡ 0 → closing (ending_by p.block None rest) ≡ nothing
      go [] h = refl
      go (c ∷ rest) h = absurd (omega arith)

  pub end_part : p.ended ≡ None → 1 ≤ length rest → end_of p rest ≡ to_output (refused_line (number_of Incomplete) p.block)
  end_part e h = end_by_lem e ∙ go rest h
    where
      go : (rest : List ℕ) → 1 ≤ length rest → closing (ending_by p.block None rest) ≡ to_output (refused_line (number_of Incomplete) p.block)
      go [] h = absurd (omega arith)
      go (c ∷ rest) h = refl

  -- nothing is written
  wrote_none : (old : List ℕ) → Wrote None [] old (Ok 0) old
  wrote_none old = wrote_all [] old refl (omega arith) refl refl

  pub ends_none : (out err : List ℕ) → end_of p rest ≡ nothing → Ends p rest out err (record { out = Ok 0; err = Ok 0 }) out err
  ends_none out err e = record { printed = rw e (wrote_none out); told = rw e (wrote_none err) }

  pub ends_line : {line out now err : List ℕ} {r : Closed} → end_of p rest ≡ to_output line → (r.err ≡ Ok 0) × Wrote None line out r.out now → Ends p rest out err r now err
  ends_line {line} {out} {now} {err} e w = record { printed = rw e w.1; told = rw (e, w.0) (wrote_none err) }
