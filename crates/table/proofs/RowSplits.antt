-- The table's lines, split by RFC 4180. Assumes nothing.
use mathlib.Core.Path.{◌≡◌, refl, sym, ap, ◌∙◌}
use mathlib.Core.Bool.{Bool, true, false, ◌||◌, ◌&&◌}
use mathlib.Core.List.{List, [], ◌∷◌, ◌++◌, map}
use Prim.Native.Nat.{ℕ}
use lib.Dec.{leb, eqb}
use lib.ListN.{length}
use Rattle.answers.proofs.Conditions.{and_left, and_right, all_true}
use Rattle.source.specs.declared.Totals.{Totals}
use Rattle.source.specs.Record.{lost}
use Rattle.trace.specs.Contents.{every, label_byte, label_ok}
use Rattle.table.specs.Field.{special, any_special, as_field, line}
use Rattle.table.specs.Lines.{label_name, names, numbers, head_bytes, row_bytes}
use Rattle.table.specs.Rfc4180.{split}
use Rattle.table.specs.Theorems.{plain, all_plain, HeadSplits, Says, RowSplits}
use Rattle.table.proofs.Splitting.{line_splits, decimal_field, signed_field}

pub head_splits : HeadSplits
unfolding head_bytes as_field any_special special plain all_plain
head_splits rest = line_splits label_name names rest refl

-- ---- a row

-- a label is a text that a field can hold
label_plain : (label : List ℕ) → every label_byte label ≡ true → plain label ≡ true
unfolding every label_byte plain
label_plain [] e = refl
label_plain (c ∷ label) e =
    let test = (leb 32 c && leb c 126) || (eqb c 10 || eqb c 13) in
    both (leb 32 c && leb c 126) (eqb c 10) (eqb c 13) (plain label) (and_left test (every label_byte label) e)
    (label_plain label (and_right test (every label_byte label) e))
  where
    both : (a b c p : Bool) → (a || (b || c)) ≡ true → p ≡ true → ((a || (c || b)) && p) ≡ true
    both true b c p e f = f
    both false true true p e f = f
    both false true false p e f = f
    both false false true p e f = f
    both false false false p e f = e

module _ (ssrc : ℕ) (t : Totals) where
  bare : map as_field (numbers ssrc t) ≡ numbers ssrc t
  bare =
      rw (
        (decimal_field ssrc).0.bare,
        (signed_field t.source.highest.0).0.bare,
        (decimal_field t.source.ect0).0.bare,
        (decimal_field t.source.ect1).0.bare,
        (decimal_field t.source.ce).0.bare,
        (decimal_field t.source.notect).0.bare,
        (signed_field (lost t.source)).0.bare,
        (decimal_field t.source.duplicates).0.bare,
        (decimal_field t.jumped).0.bare,
        (decimal_field t.restarts).0.bare,
      )

  readable : (label : List ℕ) → plain label ≡ true → all_plain (label ∷ numbers ssrc t) ≡ true
  unfolding all_plain
  readable label e =
      rw (
        e,
        (decimal_field ssrc).0.plain,
        (signed_field t.source.highest.0).0.plain,
        (decimal_field t.source.ect0).0.plain,
        (decimal_field t.source.ect1).0.plain,
        (decimal_field t.source.ce).0.plain,
        (decimal_field t.source.notect).0.plain,
        (signed_field (lost t.source)).0.plain,
        (decimal_field t.source.duplicates).0.plain,
        (decimal_field t.jumped).0.plain,
        (decimal_field t.restarts).0.plain,
      )

  says : (label : List ℕ) → Says label ssrc t (label ∷ numbers ssrc t)
  says label = record {
    eleven = refl;
    label = refl;
    ssrc = (decimal_field ssrc).1;
    highest = (signed_field t.source.highest.0).1;
    ect0 = (decimal_field t.source.ect0).1;
    ect1 = (decimal_field t.source.ect1).1;
    ce = (decimal_field t.source.ce).1;
    notect = (decimal_field t.source.notect).1;
    lost = (signed_field (lost t.source)).1;
    duplicates = (decimal_field t.source.duplicates).1;
    jumped = (decimal_field t.jumped).1;
    restarts = (decimal_field t.restarts).1;
  }

pub row_splits : RowSplits
unfolding row_bytes label_ok
row_splits label ssrc t rest e =
    let ok = all_true (leb (length label) 502 ∷ every label_byte label ∷ []) 1 e in
    let texts = numbers ssrc t in (
      label ∷ texts,
      ap (λ (l : List (List ℕ)). split (line (as_field label) l ++ rest)) (sym (bare ssrc t))
          ∙ line_splits label texts rest (readable ssrc t label (label_plain label ok)),
      says ssrc t label,
    )
