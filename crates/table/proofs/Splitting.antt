-- A line, split by RFC 4180, gives the texts that it was made of; a number is such a text as it stands. Assumes nothing.
use Rattle.std.specs.Prelude.{Option, Some}
use mathlib.Core.Path.{◌≡◌, refl, sym, ap, ◌∙◌}
use mathlib.Core.Bool.{Bool, true, false, ◌&&◌, ◌||◌}
use mathlib.Core.List.{List, [], ◌∷◌, ◌++◌, append_assoc, map}
use Prim.Native.Nat.{ℕ, suc, zero, ◌+◌, ◌/◌, ◌%◌, ◌≤◌, ◌<◌}
use native.Mathlib.Decide.{ℕ_discrete}
use native.Mathlib.Omega.{arith}
use borrow.Author.Tests.{le-leb, eq-eqb, ne_eqb, leb-true, leb-false, eqb-false, lt-ltb, le-ltb}
use lib.Dec.{eqb, leb}
use lib.IntN.{pos, negsuc}
use lib.ListN.{length, length-append}
use Rattle.answers.proofs.Conditions.{and_left, and_right}
use Rattle.table.specs.Decimal.{digits_of, decimal, signed, is_numeral, number_in, negative, natural, signed_in}
use Rattle.table.specs.Field.{special, any_special, doubled_byte, doubled, as_field, line}
use Rattle.table.specs.Rfc4180.{text_data, Taken, non_escaped, escaped_from, field, crlf, behind, record_of, split}
use Rattle.table.specs.Theorems.{plain, all_plain, LineSplits, IsNumber, DecimalField, SignedField}
use Rattle.table.proofs.Digits.{by_ten, read_decimal}
use Rattle.table.proofs.Texts.{byte_quote, byte_other, field_quoted, field_bare}

-- ---- bytes

-- a byte of a plain text is printable, a CR or a LF
abbrev printable : ℕ → Bool
printable c = (leb 32 c && leb c 126) || (eqb c 13 || eqb c 10)

or-false : (a b : Bool) → (a || b) ≡ false → (a ≡ false) × (b ≡ false)
or-false true b h = let z : ◌≡◌ {A = ℕ} 0 1 = cc in absurd (omega arith)
or-false false b h = (refl, h)

-- from 32 to 126, without the double quote and the comma
text_yes : (c : ℕ) → 32 ≤ c → c ≤ 126 → (c ≡ 34 → ⊥) → (c ≡ 44 → ⊥) → text_data c ≡ true
unfolding text_data
text_yes c l h q k = go (leb c 33) (leb c 43) refl refl
  where
    go : (a b : Bool) → leb c 33 ≡ a → leb c 43 ≡ b → text_data c ≡ true
    go true b e f = rw (le-leb 32 c l, e)
    go false true e f = rw (e, le-leb 35 c (omega (arith, leb-false c 33 e, q)), f) (or-true (leb 32 c && false))
      where
        or-true : (a : Bool) → (a || true) ≡ true
        or-true true = refl
        or-true false = refl
    go false false e f = rw (e, f, le-leb 45 c (omega (arith, leb-false c 43 f, k)), le-leb c 126 h) (or-true (leb 32 c && false) (leb 35 c && false))
      where
        or-true : (a b : Bool) → (a || (b || true)) ≡ true
        or-true true b = refl
        or-true false true = refl
        or-true false false = refl

-- a plain byte that is not special
bare_byte : (c : ℕ) → printable c ≡ true → special c ≡ false → (eqb c 34 ≡ false) × (text_data c ≡ true)
unfolding special
bare_byte c p s =
    let a = or-false (eqb c 44) (eqb c 34 || (eqb c 13 || eqb c 10)) s in
    let b = or-false (eqb c 34) (eqb c 13 || eqb c 10) a.1 in
    let r : ((leb 32 c && leb c 126) || false) ≡ true = rw b.1 at p in
    let range = or_left_true (leb 32 c && leb c 126) r in
    (b.0, text_yes c (leb-true 32 c (and_left (leb 32 c) (leb c 126) range)) (leb-true c 126 (and_right (leb 32 c) (leb c 126) range)) (eqb-false c 34 b.0) (eqb-false c 44 a.0))
  where
    or_left_true : (a : Bool) → (a || false) ≡ true → a ≡ true
    or_left_true true e = refl
    or_left_true false e = e

-- a plain byte that is no double quote stands in an escaped field
inner_byte : (c : ℕ) → printable c ≡ true → (c ≡ 34 → ⊥) → (text_data c || (eqb c 44 || (eqb c 13 || eqb c 10))) ≡ true
inner_byte c p q = go (text_data c) refl
  where
    go : (t : Bool) → text_data c ≡ t → (t || (eqb c 44 || (eqb c 13 || eqb c 10))) ≡ true
    go true e = refl
    go false e = pick (ℕ_discrete c 44)
      where
        pick : Dec (c ≡ 44) → (eqb c 44 || (eqb c 13 || eqb c 10)) ≡ true
        pick (yes k) = rw (eq-eqb c 44 k)
        pick (no k) = rw (ne_eqb c 44 k) (line_byte (leb 32 c && leb c 126) refl)
          where
            line_byte : (r : Bool) → (leb 32 c && leb c 126) ≡ r → (eqb c 13 || eqb c 10) ≡ true
            line_byte true f =
                let z : ◌≡◌ {A = ℕ} 0 1 = cc (sym e ∙ text_yes c (leb-true 32 c (and_left (leb 32 c) (leb c 126) f)) (leb-true c 126 (and_right (leb 32 c) (leb c 126) f)) q k) in
                absurd (omega arith)
            line_byte false f = rw f at p

-- ---- fields

-- a field with a byte c behind it that is neither text nor a double quote
module _ (c : ℕ) (t : List ℕ) (no_text : text_data c ≡ false) (no-quote : eqb c 34 ≡ false) where
  abbrev took : List ℕ → Option Taken
  took v = Some (record { value = v; rest = c ∷ t })

  bare_run : (v : List ℕ) → plain v ≡ true → any_special v ≡ false → non_escaped (v ++ (c ∷ t)) ≡ took v
  unfolding non_escaped plain any_special
  bare_run [] p s = rw no_text
  bare_run (a ∷ v) p s =
      let others = or-false (special a) (any_special v) s in
      let b = bare_byte a (and_left (printable a) (plain v) p) others.0 in
      rw (b.1, bare_run v (and_right (printable a) (plain v) p) others.1)

  bare_field : (v : List ℕ) → plain v ≡ true → any_special v ≡ false → field (v ++ (c ∷ t)) ≡ took v
  unfolding field plain any_special
  bare_field [] p s = rw no-quote (bare_run [] p s)
  bare_field (a ∷ v) p s =
      let b = bare_byte a (and_left (printable a) (plain v) p) (or-false (special a) (any_special v) s).0 in
      rw b.0 (bare_run (a ∷ v) p s)

  inner_step : (a : ℕ) (v : List ℕ) → printable a ≡ true → escaped_from false (doubled v ++ (34 ∷ c ∷ t)) ≡ took v
      → escaped_from false (doubled_byte a ++ (doubled v ++ (34 ∷ c ∷ t))) ≡ took (a ∷ v)
  unfolding escaped_from
  inner_step a v p e = pick (ℕ_discrete a 34)
    where
      pick : Dec (a ≡ 34) → escaped_from false (doubled_byte a ++ (doubled v ++ (34 ∷ c ∷ t))) ≡ took (a ∷ v)
      pick (yes q) = rw (byte_quote a q, q, e)
      pick (no q) = rw (byte_other a q, ne_eqb a 34 q, inner_byte a p q, e)

  inner_run : (v : List ℕ) → plain v ≡ true → escaped_from false (doubled v ++ (34 ∷ c ∷ t)) ≡ took v
  unfolding escaped_from doubled plain
  inner_run [] p = rw no-quote
  inner_run (a ∷ v) p =
      rw (append_assoc (doubled_byte a) (doubled v) (34 ∷ c ∷ t))
      (inner_step a v (and_left (printable a) (plain v) p) (inner_run v (and_right (printable a) (plain v) p)))

  any_field : (v : List ℕ) → plain v ≡ true → field (as_field v ++ (c ∷ t)) ≡ took v
  unfolding field
  any_field v p = go (any_special v) refl
    where
      go : (q : Bool) → any_special v ≡ q → field (as_field v ++ (c ∷ t)) ≡ took v
      go true e = rw (field_quoted v e, append_assoc (doubled v) (34 ∷ []) (c ∷ t)) (inner_run v p)
      go false e = rw (field_bare v e) (bare_field v p e)

-- ---- lines

comma_text : text_data 44 ≡ false
unfolding text_data
comma_text = refl

return_text : text_data 13 ≡ false
unfolding text_data
return_text = refl

line_from : (most : ℕ) (first : List ℕ) (more : List (List ℕ)) (rest : List ℕ) → length more < most → all_plain (first ∷ more) ≡ true
    → record_of most (line (as_field first) (map as_field more) ++ rest) ≡ Some (record { fields = first ∷ more; rest = rest })
unfolding record_of behind crlf line all_plain
line_from zero first more rest h p = absurd (omega arith)
line_from (suc most) first [] rest h p =
    rw (append_assoc (as_field first) (13 ∷ 10 ∷ []) rest, any_field 13 (10 ∷ rest) return_text refl first (and_left (plain first) true p))
line_from (suc most) first (g ∷ gs) rest h p =
    let tail : List ℕ = line (as_field g) (map as_field gs) in
    rw (append_assoc (as_field first) (44 ∷ tail) rest, any_field 44 (tail ++ rest) comma_text refl first (and_left (plain first) (all_plain (g ∷ gs)) p), line_from most g gs rest (omega arith) (and_right (plain first) (all_plain (g ∷ gs)) p))

-- a line is longer than it has commas
line_long : (first : List ℕ) (more : List (List ℕ)) → length more ≤ length (line first more)
unfolding line
line_long first [] = omega arith
line_long first (g ∷ gs) = rw length-append (omega (arith, line_long g gs))

length-map : (ts : List (List ℕ)) → length (map as_field ts) ≡ length ts
length-map [] = refl
length-map (t ∷ ts) = ap suc (length-map ts)

pub line_splits : LineSplits
unfolding split
line_splits first more rest p =
    let long = line_long (as_field first) (map as_field more) in
    line_from (suc (length (line (as_field first) (map as_field more) ++ rest))) first more rest
    (rw length-append (omega (arith, long, length-map more))) p

-- ---- numbers

abbrev Digits : List ℕ → Type 0
Digits [] = Unit {0}
Digits (c ∷ s) = ((48 ≤ c) × (c ≤ 57)) × Digits s

digits_append : (s t : List ℕ) → Digits s → Digits t → Digits (s ++ t)
digits_append [] t a b = b
digits_append (c ∷ s) t a b = (a.0, digits_append s t a.1 b)

all_digits_lem : (more n : ℕ) → n ≤ more → Digits (digits_of more n)
unfolding digits_of
all_digits_lem zero n h = ((omega arith, omega arith), tt)
all_digits_lem (suc more) n h =
    by_ten n (λ small. rw (lt-ltb n 10 small) ((omega arith, omega arith), tt)) λ large.
    rw (le-ltb n 10 large)
    (digits_append (digits_of more (n / 10)) ((48 + n % 10) ∷ []) (all_digits_lem more (n / 10) (omega arith)) ((omega arith, omega arith), tt))

decimal_digits : (n : ℕ) → Digits (decimal n)
unfolding decimal
decimal_digits n = all_digits_lem n n (omega arith)

-- digits, and a "-" before digits, are plain and have nothing special
record Bare (s : List ℕ) : Type 0 where
  pub no_special : any_special s ≡ false
  pub all_plain_lem : plain s ≡ true

bare_cons : (c : ℕ) (s : List ℕ) → 45 ≤ c → c ≤ 57 → Bare s → Bare (c ∷ s)
unfolding any_special special plain
bare_cons c s l h b = record {
  no_special = rw (ne_eqb c 44 (λ e. omega arith), ne_eqb c 34 (λ e. omega arith), ne_eqb c 13 (λ e. omega arith), ne_eqb c 10 (λ e. omega arith)) b.no_special;
  all_plain_lem = rw (le-leb 32 c (omega arith), le-leb c 126 (omega arith)) b.all_plain_lem;
}

bare_digits : (s : List ℕ) → Digits s → Bare s
unfolding any_special plain
bare_digits [] h = record { no_special = refl; all_plain_lem = refl }
bare_digits (c ∷ s) h = bare_cons c s (omega arith) (omega arith) (bare_digits s h.1)

bare_number : (s : List ℕ) → Bare s → IsNumber s
bare_number s b = record { bare = field_bare s b.no_special; plain = b.all_plain_lem }

pub decimal_field : DecimalField
decimal_field n = (bare_number (decimal n) (bare_digits (decimal n) (decimal_digits n)), read_decimal n)

-- digits have no "-" in front
unsigned : (s : List ℕ) → Digits s → {n : ℕ} → number_in s ≡ Some n → signed_in s ≡ Some (pos n)
unfolding signed_in number_in is_numeral
unsigned [] h e = let z : ◌≡◌ {A = ℕ} 0 1 = cc in absurd (omega arith)
unsigned (c ∷ s) h e = rw (ne_eqb c 45 (λ q. omega arith)) (ap natural e)

pub signed_field : SignedField
unfolding signed signed_in
signed_field (pos n) = ((decimal_field n).0, unsigned (decimal n) (decimal_digits n) (read_decimal n))
signed_field (negsuc n) = (
  bare_number (45 ∷ decimal (suc n)) (bare_cons 45 (decimal (suc n)) (omega arith) (omega arith) (bare_digits (decimal (suc n)) (decimal_digits (suc n)))),
  ap negative (read_decimal (suc n)),
)
