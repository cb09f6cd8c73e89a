-- A table has one last row. Assumes nothing.
use Rattle.std.specs.Prelude.{Option, Some, None}
use mathlib.Core.Path.{◌≡◌, sym, ap, ◌∙◌}
use mathlib.Core.Bool.{true}
use mathlib.Core.List.{List, [], ◌∷◌, ◌++◌, map, append-nil, append_assoc}
use Prim.Native.Nat.{ℕ, ◌≤◌}
use native.Mathlib.Omega.{arith}
use lib.ListN.{length, drop, length-append}
use lib.Seq.{drop-append_seam}
use Rattle.source.specs.declared.Totals.{Totals}
use Rattle.trace.specs.Contents.{label_ok}
use Rattle.table.specs.Field.{as_field, line}
use Rattle.table.specs.Lines.{head_bytes, numbers, row_bytes}
use Rattle.table.specs.Rfc4180.{Split, split}
use Rattle.table.proofs.RowSplits.{row_splits}
use Rattle.walk.specs.Blocks.{joined}
use Rattle.walk.specs.Programs.{Printed, to_output}
use Rattle.demands.specs.PrintedTable.{rows_then, OneLastRow}

-- what stands after the head line
pub after_head : (a b : List ℕ) → to_output (head_bytes ++ a) ≡ to_output (head_bytes ++ b) → a ≡ b
after_head a b e = sym (drop-append_seam head_bytes a) ∙ ap (λ (q : Printed). drop (length head_bytes) q.out) e ∙ drop-append_seam head_bytes b

-- a line has its CR LF
line_least : (field : List ℕ) (ts : List (List ℕ)) → 2 ≤ length (line field ts)
unfolding line
line_least field [] = omega (arith, length-append field (13 ∷ 10 ∷ []))
line_least field (t ∷ ts) = omega (arith, length-append field (44 ∷ line t ts), line_least t ts)

rest_in : Option Split → List ℕ
rest_in None = []
rest_in (Some s) = s.rest

module _ (label : List ℕ) (ssrc : ℕ) (ok : label_ok label ≡ true) where
  abbrev row : Totals → List ℕ
  row t = row_bytes label ssrc t

  row_least : (t : Totals) → 2 ≤ length (row t)
  unfolding row_bytes
  row_least t = line_least (as_field label) (numbers ssrc t)

  -- what stands behind the first row
  behind : (x y : Totals) (r s : List ℕ) → row x ++ r ≡ row y ++ s → r ≡ s
  unfolding rest_in
  behind x y r s e = ap rest_in (sym (row_splits label ssrc x r ok).1 ∙ ap split e ∙ (row_splits label ssrc y s ok).1)

  -- a first row, and the others
  first : (x : Totals) (f : List Totals) (t : Totals) → rows_then label ssrc (x ∷ f) (row t) ≡ row x ++ rows_then label ssrc f (row t)
  first x f t = append_assoc (row x) (joined (map (row_bytes label ssrc) f)) (row t)

  -- a row has no rows behind it
  none_behind : (t x : Totals) (f : List Totals) (u : Totals) → row t ≡ rows_then label ssrc (x ∷ f) (row u) → ⊥
  none_behind t x f u e =
      let rest = behind t x [] (rows_then label ssrc f (row u)) (append-nil (row t) ∙ e ∙ first x f u) in
      omega (arith, ap length rest, length-append (joined (map (row_bytes label ssrc) f)) (row u), row_least u)

  same_row : (f g : List Totals) (t u : Totals) → rows_then label ssrc f (row t) ≡ rows_then label ssrc g (row u) → row t ≡ row u
  same_row [] [] t u e = e
  same_row [] (y ∷ g) t u e = absurd (none_behind t y g u e)
  same_row (x ∷ f) [] t u e = absurd (none_behind u x f t (sym e))
  same_row (x ∷ f) (y ∷ g) t u e =
      same_row f g t u (behind x y (rows_then label ssrc f (row t)) (rows_then label ssrc g (row u)) (sym (first x f t) ∙ e ∙ first y g u))

pub one_last_row : OneLastRow
one_last_row trace label ssrc t u ok a b = same_row label ssrc ok a.0 b.0 t u (after_head _ _ (sym a.1 ∙ b.1))
