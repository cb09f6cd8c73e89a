-- What came between two reports (document 01, "Counting arrivals"), over the counters' width in bits.
use Rattle.std.specs.Prelude.{◌≡◌, ℕ, suc, ◌-◌, ◌^◌, cond, ℤ, pos, ◌-ℤ◌, neg_ℤ, ◌≤ℤ◌, ◌<ℤ◌, nat_lt}
use Rattle.numbers.specs.Integers.{modulo}

-- the later counter minus the earlier one, modulo the width
unfoldable pub since : ℕ → ℕ → ℕ → ℕ
since width later earlier = modulo (2 ^ width) (pos later -ℤ pos earlier)

-- a number of `width` bits read as signed, from -2^(width - 1) to 2^(width - 1) - 1
unfoldable pub signed : ℕ → ℕ → ℤ
signed width n = cond (nat_lt n (2 ^ (width - 1))) (pos n) (pos n -ℤ pos (2 ^ width))

-- what a report carries of a true count, whatever its size
abbrev pub carried : ℕ → ℤ → ℕ
carried width count = modulo (2 ^ width) count

-- it is the true count where that is from 0 to 2^width - 1
abbrev pub SinceExact : Type 0
SinceExact =
    (width : ℕ) (later earlier : ℤ) → pos 0 ≤ℤ (later -ℤ earlier) → (later -ℤ earlier) <ℤ pos (2 ^ width)
    → pos (since width (carried width later) (carried width earlier)) ≡ later -ℤ earlier

-- lost can fall: its difference is read as signed (the width is `suc w`)
abbrev pub SignedExact : Type 0
SignedExact =
    (w : ℕ) (later earlier : ℤ) → neg_ℤ (pos (2 ^ w)) ≤ℤ (later -ℤ earlier) → (later -ℤ earlier) <ℤ pos (2 ^ w)
    → signed (suc w) (since (suc w) (carried (suc w) later) (carried (suc w) earlier)) ≡ later -ℤ earlier
