-- What holds between writing a line and splitting it by RFC 4180 (document 01, "Table").
use Rattle.std.specs.Prelude.{◌≡◌, Bool, true, ◌||◌, ◌&&◌, List, [], ◌∷◌, ◌++◌, map, ℕ, ◌^◌, ◌≤◌, ◌<◌, leb, eqb, ℤ, length, get_or, Some, None}
use Rattle.source.specs.declared.Totals.{Totals}
use Rattle.source.specs.Record.{lost as lost_of}
use Rattle.trace.specs.Contents.{label_ok}
use Rattle.table.specs.Decimal.{decimal, signed, number_in, signed_in}
use Rattle.table.specs.Field.{as_field, line}
use Rattle.table.specs.Rfc4180.{split}
use Rattle.table.specs.Lines.{label_name, names, head_bytes, row_fault, row_bytes, refused_line, number_line}

-- a text that a field can hold: bytes 32 to 126, CR and LF
unfoldable pub plain : List ℕ → Bool
plain [] = true
plain (c ∷ s) = ((leb 32 c && leb c 126) || (eqb c 13 || eqb c 10)) && plain s

unfoldable pub all_plain : List (List ℕ) → Bool
all_plain [] = true
all_plain (t ∷ ts) = plain t && all_plain ts

-- splitting a line gives the texts that it was made of, and what follows the line is left over
abbrev pub LineSplits : Type 0
LineSplits =
    (first : List ℕ) (more : List (List ℕ)) (rest : List ℕ) → all_plain (first ∷ more) ≡ true
    → split (line (as_field first) (map as_field more) ++ rest) ≡ Some (record { fields = first ∷ more; rest = rest })

-- a number is a field as it stands, and reads back
pub record IsNumber (text : List ℕ) : Type 0 where
  pub bare : as_field text ≡ text
  pub plain : plain text ≡ true

abbrev pub DecimalField : Type 0
DecimalField = (n : ℕ) → IsNumber (decimal n) × (number_in (decimal n) ≡ Some n)

abbrev pub SignedField : Type 0
SignedField = (z : ℤ) → IsNumber (signed z) × (signed_in (signed z) ≡ Some z)

-- ---- the table's lines

-- the head line splits into the names of the eleven columns
abbrev pub HeadSplits : Type 0
HeadSplits = (rest : List ℕ) → split (head_bytes ++ rest) ≡ Some (record { fields = label_name ∷ names; rest = rest })

-- eleven fields that say the eleven values of a row
pub record Says (text : List ℕ) (from : ℕ) (t : Totals) (fields : List (List ℕ)) : Type 0 where
  pub eleven : length fields ≡ 11
  pub label : get_or fields 0 [] ≡ text
  pub ssrc : number_in (get_or fields 1 []) ≡ Some from
  pub highest : signed_in (get_or fields 2 []) ≡ Some t.source.highest.0
  pub ect0 : number_in (get_or fields 3 []) ≡ Some t.source.ect0
  pub ect1 : number_in (get_or fields 4 []) ≡ Some t.source.ect1
  pub ce : number_in (get_or fields 5 []) ≡ Some t.source.ce
  pub notect : number_in (get_or fields 6 []) ≡ Some t.source.notect
  pub lost : signed_in (get_or fields 7 []) ≡ Some (lost_of t.source)
  pub duplicates : number_in (get_or fields 8 []) ≡ Some t.source.duplicates
  pub jumped : number_in (get_or fields 9 []) ≡ Some t.jumped
  pub restarts : number_in (get_or fields 10 []) ≡ Some t.restarts

-- a row with any label that a trace can have splits into such fields, and what follows the row is left over
abbrev pub RowSplits : Type 0
RowSplits =
    (label : List ℕ) (ssrc : ℕ) (t : Totals) (rest : List ℕ) → label_ok label ≡ true
    → (fields : List (List ℕ))
    × (split (row_bytes label ssrc t ++ rest) ≡ Some (record { fields = fields; rest = rest }))
    × Says label ssrc t fields

-- no row is longer: its label has at most 502 double quotes, its ten numbers at most 21 bytes each, a comma before each, and CR LF
abbrev pub row_most : ℕ
row_most = 1228

abbrev pub RowFits : Type 0
RowFits = (label : List ℕ) (ssrc : ℕ) (t : Totals) → ssrc < 2 ^ 32 → row_fault label t ≡ None → length (row_bytes label ssrc t) ≤ row_most

-- nor is the line of a number: at most 20 digits, and CR LF
abbrev pub number_most : ℕ
number_most = 22

abbrev pub NumberFits : Type 0
NumberFits = (n : ℕ) → n < 2 ^ 64 → length (number_line n) ≤ number_most

-- nor is the line of a refused block: two words of 8 and 7 bytes, at most 3 and 20 digits, and CR LF
abbrev pub refused_most : ℕ
refused_most = 40

abbrev pub RefusedFits : Type 0
RefusedFits = (number block : ℕ) → number < 256 → block < 2 ^ 64 → length (refused_line number block) ≤ refused_most
