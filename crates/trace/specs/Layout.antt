-- Document 01, "Trace file": the bytes of a block, by the shape of its form.
use Rattle.std.specs.Prelude.{ℕ, ◌+◌, ◌-◌, ◌/◌, List, [], ◌∷◌, ◌++◌, length, take, drop, replicate, slice_index}
use Rattle.numbers.specs.BigEndian.{word, bytes}
use Rattle.format.specs.Blocks.{body_at, body_bytes}
use Rattle.format.specs.Forms.{Shape, width}
use Rattle.trace.specs.Checksum.{words, ones_sum}
use Rattle.trace.specs.declared.Record.{Record}

-- ---- a record: time, wire number (2), mark (1), zero (1)

unfoldable pub record_bytes : Shape → Record → List ℕ
record_bytes shape r = bytes shape.time r.time ++ (bytes 2 r.number.0 ++ (r.mark ∷ 0 ∷ []))

unfoldable pub records_bytes : Shape → List Record → List ℕ
records_bytes shape [] = []
records_bytes shape (r ∷ rs) = record_bytes shape r ++ records_bytes shape rs

-- the record at a place of a body
unfoldable pub record_at : Shape → List ℕ → ℕ → Record
record_at shape body at = record {
  time = word shape.time body at;
  number = record { 0 = word 2 body (at + shape.time) };
  mark = slice_index body (at + (shape.time + 2));
}

-- ---- a block

-- kind (2), count (2), SSRC (4)
unfoldable pub header : ℕ → ℕ → ℕ → List ℕ
header kind count ssrc = bytes 2 kind ++ (bytes 2 count ++ bytes 4 ssrc)

-- the contents, and zeros in the unused bytes
unfoldable pub filled : List ℕ → List ℕ
filled contents = contents ++ replicate (body_bytes - length contents) 0

-- the check word: with it the ones' complement sum of all words is 65,535
unfoldable pub checked : List ℕ → List ℕ
checked front = front ++ bytes 2 (65535 - ones_sum (words front))

-- the block of a label, and of records
unfoldable pub label_block : Shape → List ℕ → ℕ → List ℕ
label_block shape label ssrc = checked (header shape.label (length label) ssrc ++ filled label)

unfoldable pub arrivals_block : Shape → List Record → ℕ → List ℕ
arrivals_block shape records ssrc = checked (header shape.arrivals (length records) ssrc ++ filled (records_bytes shape records))

-- the same block, from the bytes of its records
unfoldable pub records_block : Shape → List ℕ → ℕ → List ℕ
records_block shape s ssrc = checked (header shape.arrivals (length s / width shape) ssrc ++ filled s)

-- the body of a block
abbrev pub body_of : List ℕ → List ℕ
body_of b = take body_bytes (drop body_at b)
