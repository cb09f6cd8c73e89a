-- Document 01, "Table": numbers are decimal, a negative one with "-"; and what such a text says.
use Rattle.std.specs.Prelude.{ℕ, zero, suc, ◌+◌, ◌-◌, ◌*◌, ◌/◌, ◌%◌, Bool, true, false, cond, not, ◌&&◌, List, [], ◌∷◌, ◌++◌, leb, ltb, eqb, ℤ, pos, negsuc, Option, Some, None}

-- the digits of n in ASCII, the highest first; n has at most `more` digits before the last
unfoldable pub digits_of : ℕ → ℕ → List ℕ
digits_of zero n = (48 + n) ∷ []
digits_of (suc more) n = let high = digits_of more (n / 10) in cond (ltb n 10) ((48 + n) ∷ []) (high ++ ((48 + n % 10) ∷ []))

-- n in decimal
unfoldable pub decimal : ℕ → List ℕ
decimal n = digits_of n n

unfoldable pub signed : ℤ → List ℕ
signed (pos n) = decimal n
signed (negsuc n) = 45 ∷ decimal (suc n)

-- ---- reading

-- what digits say, behind those of n
unfoldable pub read_on : ℕ → List ℕ → ℕ
read_on n [] = n
read_on n (d ∷ ds) = read_on (n * 10 + (d - 48)) ds

abbrev pub is_digit : ℕ → Bool
is_digit c = leb 48 c && leb c 57

unfoldable pub all_digits : List ℕ → Bool
all_digits [] = true
all_digits (c ∷ s) = is_digit c && all_digits s

-- a number: one digit, or more of which the first is no 0
unfoldable pub is_numeral : List ℕ → Bool
is_numeral [] = false
is_numeral (d ∷ []) = is_digit d
is_numeral (d ∷ e ∷ ds) = not (eqb d 48) && all_digits (d ∷ e ∷ ds)

-- what a text says, if it is a number
unfoldable pub number_in : List ℕ → Option ℕ
number_in s = cond (is_numeral s) (Some (read_on 0 s)) None

-- and with a "-" in front, if it is a negative number
abbrev pub negative : Option ℕ → Option ℤ
negative None = None
negative (Some zero) = None
negative (Some (suc n)) = Some (negsuc n)

abbrev pub natural : Option ℕ → Option ℤ
natural None = None
natural (Some n) = Some (pos n)

unfoldable pub signed_in : List ℕ → Option ℤ
signed_in [] = None
signed_in (c ∷ s) = cond (eqb c 45) (negative (number_in s)) (natural (number_in (c ∷ s)))
