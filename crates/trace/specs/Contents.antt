-- Document 01, "Trace file": the rules on a block's contents.
use Rattle.std.specs.Prelude.{ℕ, zero, suc, ◌+◌, ◌*◌, Bool, true, ◌&&◌, ◌||◌, List, [], ◌∷◌, length, take, drop, ◌==◌, nat_le, nat_lt, slice_index}
use Rattle.answers.specs.Conditions.{all}
use Rattle.format.specs.Blocks.{body_bytes}
use Rattle.format.specs.Forms.{Shape, width, time_limit}

-- whether a rule holds for every number
unfoldable pub every : (ℕ → Bool) → List ℕ → Bool
every rule [] = true
every rule (c ∷ s) = rule c && every rule s

abbrev pub is_zero : ℕ → Bool
is_zero c = c == 0

-- a mark: 0 to 3
abbrev pub is_mark : ℕ → Bool
is_mark mark = nat_le mark 3

-- a time: below 2^32, or 2^48 in form 2
abbrev pub is_time : Shape → ℕ → Bool
is_time shape time = nat_lt time (time_limit shape)

-- a label: 0 to 502 bytes, each 32 to 126, 10 or 13
unfoldable pub label_byte : ℕ → Bool
label_byte c = (nat_le 32 c && nat_le c 126) || (c == 10 || c == 13)

unfoldable pub label_ok : List ℕ → Bool
label_ok label = all (nat_le (length label) body_bytes ∷ every label_byte label ∷ [])

-- the body of a label of n bytes; its unused bytes are zero
abbrev pub label_conditions : ℕ → List ℕ → List Bool
label_conditions n body = nat_le n body_bytes ∷ every label_byte (take n body) ∷ every is_zero (drop n body) ∷ []

unfoldable pub label_body : ℕ → List ℕ → Bool
label_body n body = all (label_conditions n body)

-- a number of records: from 1 to the most
unfoldable pub count_ok : Shape → ℕ → Bool
count_ok shape n = nat_le 1 n && nat_le n shape.most

-- n records, each with a mark and then a zero
unfoldable pub good_records : Shape → ℕ → List ℕ → Bool
good_records shape zero s = true
good_records shape (suc n) s = is_mark (slice_index s (shape.time + 2)) && (is_zero (slice_index s (shape.time + 3)) && good_records shape n (drop (width shape) s))

-- the body of n arrivals; its unused bytes are zero
abbrev pub arrivals_conditions : Shape → ℕ → List ℕ → List Bool
arrivals_conditions shape n body = count_ok shape n ∷ good_records shape n body ∷ every is_zero (drop (n * width shape) body) ∷ []

unfoldable pub arrivals_body : Shape → ℕ → List ℕ → Bool
arrivals_body shape n body = all (arrivals_conditions shape n body)
