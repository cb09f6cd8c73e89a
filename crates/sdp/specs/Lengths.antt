-- How far a token, a character of a quoted string, a quoted string and a value reach from a place on. The reader's own calls promise these; no public
-- statement rests on them, since proofs/ has them against the grammar.
use Rattle.std.specs.Prelude.{cond, List, [], ◌∷◌, ℕ, zero, suc, ◌+◌, leb, ltb, eqb, length, drop, get_or}
use Rattle.sdp.specs.declared.fronts.Lead.{Lead}
use Rattle.sdp.specs.Grammar.{within, token_char, quotable, tail}

unfoldable pub token_length : List ℕ → ℕ
token_length [] = 0
token_length (c ∷ s) = cond (token_char c) (suc (token_length s)) 0

abbrev pub leads : ℕ → ℕ → ℕ → Lead
leads size least most = record { size = size; least = least; most = most }

-- by the first byte: how many bytes a character has, and the bounds of the second; none fits where it begins no character
unfoldable pub lead_of : ℕ → Lead
lead_of a =
    cond (ltb a 194) (leads 0 1 0)
    (cond (ltb a 224) (leads 2 128 191)
    (cond (eqb a 224) (leads 3 160 191)
    (cond (eqb a 237) (leads 3 128 159)
    (cond (ltb a 240) (leads 3 128 191)
    (cond (eqb a 240) (leads 4 144 191)
    (cond (ltb a 244) (leads 4 128 191)
    (cond (eqb a 244) (leads 4 128 143)
    (leads 0 1 0))))))))

-- its size where the second byte is in the bounds and the others are tails, else 0
unfoldable pub utf8_size : Lead → ℕ → ℕ → ℕ → ℕ
utf8_size l b c d =
    cond (within l.least l.most b)
    (cond (leb l.size 2) l.size
    (cond (tail c)
    (cond (leb l.size 3) l.size
    (cond (tail d) l.size 0)) 0)) 0

-- 0 where no character of two to four bytes stands at a place; past the end a byte reads as 0, which is in none
unfoldable pub utf8_length : List ℕ → ℕ → ℕ
utf8_length s at = utf8_size (lead_of (get_or s at 0)) (get_or s (at + 1) 0) (get_or s (at + 2) 0) (get_or s (at + 3) 0)

-- 0 where no qd stands at a place
unfoldable pub qd_length : List ℕ → ℕ → ℕ
qd_length s at =
    cond (quotable (get_or s at 0)) 1
    (cond (eqb (get_or s at 0) 92)
    (cond (eqb (get_or s (at + 1) 0) 92) 2 (cond (eqb (get_or s (at + 1) 0) 34) 2 0))
    (utf8_length s at))

-- the place behind the closing quote of a string whose rest begins at a place, within so many characters; 0 where it is not closed
unfoldable pub closes : ℕ → List ℕ → ℕ → ℕ
closes zero s at = 0
closes (suc k) s at =
    cond (eqb (get_or s at 0) 34) (at + 1)
    (let later = closes k s (at + qd_length s at) in cond (eqb (qd_length s at) 0) 0 later)

-- the place behind a token
abbrev pub token_end : List ℕ → ℕ → ℕ
token_end s at = at + token_length (drop at s)

-- the place behind a value; 0 or the place itself where there is none
unfoldable pub value_end : List ℕ → ℕ → ℕ
value_end s at = cond (eqb (get_or s at 0) 34) (closes (length s) s (at + 1)) (token_end s at)
