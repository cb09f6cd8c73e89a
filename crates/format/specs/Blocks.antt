-- Document 01, "Trace file": a block is 512 bytes: kind (2), count (2), SSRC (4), body (502), check (2).
use Rattle.std.specs.Prelude.{ℕ}

abbrev pub block_bytes : ℕ
block_bytes = 512

-- where the body begins, its bytes, and where the check stands
abbrev pub body_at : ℕ
body_at = 8

abbrev pub body_bytes : ℕ
body_bytes = 502

abbrev pub check_at : ℕ
check_at = 510

-- the most records of a block of any form, and the bytes of a record behind its time: wire number (2), mark (1), zero (1)
abbrev pub most_records : ℕ
most_records = 62

abbrev pub behind_time : ℕ
behind_time = 4
