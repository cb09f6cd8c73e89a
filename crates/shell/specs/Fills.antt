-- How bytes of a trace are read into a lent buffer (document 01, "Trace file": blocks of 512 bytes, a tail under 512). Assumes nothing.
use Rattle.std.specs.Prelude.{◌≡◌, Bool, true, false, cond, ◌&&◌, List, ℕ, ◌+◌, ◌%◌, ◌≤◌, ◌<◌, min, ltb, eqb, ℤ, pos, negsuc, length, take}
use Rattle.format.specs.Blocks.{block_bytes}
use Rattle.shell.specs.Tries.{tries}
use Rattle.shell.specs.declared.reading.Ahead.{Ahead}
use Rattle.shell.specs.declared.reading.Ahead.TheVariants.{More, End, Failure}
use Rattle.shell.specs.declared.reading.Input.{Input}
use Rattle.shell.specs.declared.reading.Reading.{Reading}
use Rattle.shell.specs.declared.retries.Outcome.{Outcome}
use Rattle.shell.specs.declared.retries.Outcome.TheVariants.{Bytes, Nothing, Again, Failed}

abbrev pub is_more : Ahead → Bool
is_more More = true
is_more End = false
is_more Failure = false

-- what is read into a buffer of n bytes after its first: enough are there and more may come, or the input has ended or failed before that
pub record Filled (first enough n : ℕ) (r : Input) : Type 0 where
  pub after : first ≤ r.bytes
  pub inside : r.bytes ≤ n
  pub full : is_more r.ahead ≡ true → enough ≤ r.bytes
  pub short : is_more r.ahead ≡ false → r.bytes < enough

-- one read after the first bytes of a buffer, which stay: a byte is enough, if there is room for it
pub record ReadOn (first : ℕ) (old : List ℕ) (r : Input) (new : List ℕ) : Type 0 where
  pub filled : Filled (min first (length old)) (min (first + 1) (length old)) (length old) r
  pub front : take first new ≡ take first old

-- a filling of so many bytes
abbrev pub filling : ℕ → Ahead → ℕ → Reading
filling bytes ahead left = record { input = record { bytes = bytes; ahead = ahead }; left = left }

-- before the first read into a buffer that has so many bytes
abbrev pub begun : ℕ → Reading
begun bytes = filling bytes More tries

-- whether it is read again, n bytes being enough
unfoldable pub goes_on : Reading → ℕ → Bool
goes_on r n = is_more r.input.ahead && ltb r.input.bytes n

-- after a read: bytes came, and the next one has all tries again; the end; it is made again; or it has failed
abbrev pub reading_after : Reading → Outcome → Reading
reading_after r (Bytes n) = filling (r.input.bytes + n) More tries
reading_after r Nothing = filling r.input.bytes End r.left
reading_after r (Again left) = filling r.input.bytes More left
reading_after r Failed = filling r.input.bytes Failure r.left

-- an input has no place: the number that is told of its place is below 0
abbrev pub is_placeless : ℤ → Bool
is_placeless (pos place) = false
is_placeless (negsuc error) = true

abbrev pub is_failure : Ahead → Bool
is_failure More = false
is_failure End = false
is_failure Failure = true

-- a block that could not be read is not a whole one: after a failed read a byte more counts as read, unless a part of the block was
unfoldable pub unread_of : Input → ℕ
unread_of r = cond (is_failure r.ahead && eqb (r.bytes % block_bytes) 0) 1 0

-- where what is left ends
abbrev pub end_of : Input → ℕ
end_of r = r.bytes + unread_of r
