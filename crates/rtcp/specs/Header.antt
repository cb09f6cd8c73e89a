-- The RTCP header and padding (RFC 3550, section 6.4.1; document 01, "Packets"). `b` is the compound, and a packet begins at `at`.
use Rattle.std.specs.Prelude.{ℕ, ◌+◌, ◌-◌, ◌*◌, ◌/◌, ◌%◌, cond, List, eqb, get_or}
use Rattle.numbers.specs.BigEndian.{word}
use Rattle.rtcp.specs.declared.header.Header.{Header}

-- 16 bits: the length in 32-bit words minus one, here in bytes; an XR block's length stands in the same place and counts the same
abbrev pub size : List ℕ → ℕ → ℕ
size b at = (word 2 b (at + 2) + 1) * 4

-- 2 bits; 1 bit: whether the packet ends with padding; 5 bits: a count of report blocks, or a feedback format; 8 bits: the packet type
unfoldable pub header_at : List ℕ → ℕ → Header
header_at b at =
    record {
      version = get_or b at 0 / 64;
      padded = eqb (get_or b at 0 / 32 % 2) 1;
      count = get_or b at 0 % 32;
      kind = get_or b (at + 1) 0;
      size = size b at;
    }

-- the bytes of padding of a packet with the header `h`, counted by its last byte
unfoldable pub padding : Header → List ℕ → ℕ → ℕ
padding h b at = cond h.padded (get_or b (at + h.size - 1) 0) 0
