-- Document 01, "Trace file": the numbers of a block's layout, as the code has them (`format::block`).
use Rattle.format.specs.Blocks.{block_bytes, body_at, body_bytes, check_at, most_records, behind_time}
use Rattle.format.specs.declared.block.Layout.{Layout}

-- 512 bytes: kind (2) at the front, count (2), SSRC (4), body (502), check (2)
abbrev pub block_layout : Layout
block_layout = record {
  block = block_bytes;
  kind = 0;
  count = 2;
  ssrc = 4;
  body = body_at;
  check = check_at;
  room = body_bytes;
  records = most_records;
  behind = behind_time;
}
