-- The history of the last 100 numbers (document 01, "Counting arrivals"): place k stands for the number highest - k, and is marked where
-- that number has arrived. A row says of each place whether it is marked; the record packs a row's 100 places into two words.
use Rattle.std.specs.Prelude.{ℕ, zero, suc, ◌+◌, ◌-◌, ◌*◌, ◌/◌, ◌%◌, ◌^◌, Bool, true, false, cond, ◌&&◌, ◌||◌, eqb, leb, ltb}
use Rattle.std.specs.Int.Count.{ones}
use Rattle.source.specs.declared.History.{History}

-- 1 for a test that passes
abbrev pub bit : Bool → ℕ
bit true = 1
bit false = 0

-- whether bit k of a word is set
unfoldable pub place : ℕ → ℕ → Bool
place word k = eqb (word / 2 ^ k % 2) 1

-- the word whose bit k, for each k below n, is set where the row marks place k
unfoldable pub pack : ℕ → (ℕ → Bool) → ℕ
pack zero row = 0
pack (suc n) row = bit (row 0) + 2 * pack n (λ k. row (suc k))

-- a row in a record: places 0 to 63 are the bits of `recent`, places 64 to 99 those of `older`
abbrev pub history : (ℕ → Bool) → History
history row = record { recent = pack 64 row; older = pack 36 (λ k. row (64 + k)) }

-- the row of a record
unfoldable pub marks : History → ℕ → Bool
marks h k = cond (ltb k 64) (place h.recent k) (place h.older (k - 64))

-- how many places are marked
unfoldable pub places : History → ℕ
places h = ones h.recent + ones h.older

-- the row when the highest number has grown by d
unfoldable pub moved : ℕ → (ℕ → Bool) → ℕ → Bool
moved d row k = leb d k && row (k - d)

-- the row with place j marked too
unfoldable pub added : ℕ → (ℕ → Bool) → ℕ → Bool
added j row k = eqb k j || row k
