-- RFC 4180, section 2: the grammar, each rule as what it takes from the front of a text.
use Rattle.std.specs.Prelude.{ℕ, zero, suc, Bool, true, false, cond, ◌||◌, ◌&&◌, List, [], ◌∷◌, leb, eqb, length, Option, Some, None}

-- TEXTDATA = %x20-21 / %x23-2B / %x2D-7E
unfoldable pub text_data : ℕ → Bool
text_data c = (leb 32 c && leb c 33) || ((leb 35 c && leb c 43) || (leb 45 c && leb c 126))

-- what a rule took, and the text behind it
pub record Taken : Type 0 where
  pub value : List ℕ
  pub rest : List ℕ

abbrev pub with_byte : ℕ → Option Taken → Option Taken
with_byte c None = None
with_byte c (Some t) = Some (record { value = c ∷ t.value; rest = t.rest })

-- non-escaped = *TEXTDATA
unfoldable pub non_escaped : List ℕ → Option Taken
non_escaped [] = Some (record { value = []; rest = [] })
non_escaped (c ∷ s) = let more = with_byte c (non_escaped s) in cond (text_data c) more (Some (record { value = []; rest = c ∷ s }))

-- escaped = DQUOTE *(TEXTDATA / COMMA / CR / LF / 2DQUOTE) DQUOTE, behind its first DQUOTE; `quote` says that another was just taken
unfoldable pub escaped_from : Bool → List ℕ → Option Taken
escaped_from false [] = None
escaped_from true [] = Some (record { value = []; rest = [] })
escaped_from false (c ∷ s) =
    let quote = escaped_from true s in
    let more = with_byte c (escaped_from false s) in
    cond (eqb c 34) quote (cond (text_data c || (eqb c 44 || (eqb c 13 || eqb c 10))) more None)
escaped_from true (c ∷ s) = let more = with_byte 34 (escaped_from false s) in cond (eqb c 34) more (Some (record { value = []; rest = c ∷ s }))

-- field = (escaped / non-escaped)
unfoldable pub field : List ℕ → Option Taken
field [] = non_escaped []
field (c ∷ s) = cond (eqb c 34) (escaped_from false s) (non_escaped (c ∷ s))

-- CRLF = CR LF
unfoldable pub crlf : List ℕ → Option (List ℕ)
crlf [] = None
crlf (c ∷ []) = None
crlf (c ∷ d ∷ s) = cond (eqb c 13 && eqb d 10) (Some s) None

-- the fields of a record, and the text behind its CRLF
pub record Split : Type 0 where
  pub fields : List (List ℕ)
  pub rest : List ℕ

abbrev pub with_field : List ℕ → Option Split → Option Split
with_field v None = None
with_field v (Some s) = Some (record { fields = v ∷ s.fields; rest = s.rest })

abbrev pub last_field : List ℕ → Option (List ℕ) → Option Split
last_field v None = None
last_field v (Some s) = Some (record { fields = v ∷ []; rest = s })

-- behind a field: a COMMA and more fields, or a CRLF
unfoldable pub behind : (List ℕ → Option Split) → List ℕ → List ℕ → Option Split
behind fields v [] = None
behind fields v (c ∷ s) = let more = with_field v (fields s) in cond (eqb c 44) more (last_field v (crlf (c ∷ s)))

abbrev pub go_on : (List ℕ → Option Split) → Option Taken → Option Split
go_on fields None = None
go_on fields (Some t) = behind fields t.value t.rest

-- record = field *(COMMA field), with a CRLF behind it; of at most `most` fields
unfoldable pub record_of : ℕ → List ℕ → Option Split
record_of zero s = None
record_of (suc most) s = go_on (record_of most) (field s)

-- the first record of a text, or none where it does not begin with a whole one
unfoldable pub split : List ℕ → Option Split
split s = record_of (suc (length s)) s
