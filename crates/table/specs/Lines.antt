-- Document 01, "Table": the head line, a row, and the line of a refused block; request L14: the line of a number.
use Rattle.std.specs.Prelude.{ℕ, cond, not, ◌&&◌, List, [], ◌∷◌, ◌++◌, leb, Option, Some, None}
use Rattle.answers.specs.declared.Refusal.{Refusal}
use Rattle.answers.specs.declared.Refusal.TheVariants.{Malformed, Limits}
use Rattle.source.specs.declared.Totals.{Totals}
use Rattle.source.specs.Record.{sound, lost}
use Rattle.source.specs.Totals.{most_told}
use Rattle.trace.specs.Contents.{label_ok}
use Rattle.answers.specs.Texts.{codes}
use Rattle.table.specs.Decimal.{decimal, signed}
use Rattle.table.specs.Field.{as_field, line}

-- the name of the first column, and of the others
abbrev pub label_name : List ℕ
label_name = codes "label"

abbrev pub names : List (List ℕ)
names =
    codes "ssrc"
    ∷ codes "highest"
    ∷ codes "ect0"
    ∷ codes "ect1"
    ∷ codes "ce"
    ∷ codes "notect"
    ∷ codes "lost"
    ∷ codes "dup"
    ∷ codes "jumped"
    ∷ codes "restarts"
    ∷ []

unfoldable pub head_bytes : List ℕ
head_bytes = line label_name names

-- the texts of a row's ten numbers
abbrev pub numbers : ℕ → Totals → List (List ℕ)
numbers ssrc t =
    decimal ssrc
    ∷ signed t.source.highest.0
    ∷ decimal t.source.ect0
    ∷ decimal t.source.ect1
    ∷ decimal t.source.ce
    ∷ decimal t.source.notect
    ∷ signed (lost t.source)
    ∷ decimal t.source.duplicates
    ∷ decimal t.jumped
    ∷ decimal t.restarts
    ∷ []

unfoldable pub row_bytes : List ℕ → ℕ → Totals → List ℕ
row_bytes label ssrc t = line (as_field label) (numbers ssrc t)

-- the refusals of a row's values: 9 a malformed record, 10 a label outside the trace rules or more than 2^48 jumps or restarts
unfoldable pub row_fault : List ℕ → Totals → Option Refusal
row_fault label t =
    cond (not (sound t.source)) (Some Malformed)
    (cond (not (label_ok label && (leb t.jumped most_told && leb t.restarts most_told))) (Some Limits)
    None)

-- `refused N block I`
unfoldable pub refused_line : ℕ → ℕ → List ℕ
refused_line number block = codes "refused " ++ (decimal number ++ (codes " block " ++ (decimal block ++ (13 ∷ 10 ∷ []))))

-- a number in decimal
unfoldable pub number_line : ℕ → List ℕ
number_line n = decimal n ++ (13 ∷ 10 ∷ [])
