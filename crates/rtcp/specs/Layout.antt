-- The numbers of the formats (RFC 3550, sections 6.4 and 12.1; RFC 3611, section 2; RFC 6679, section 5). Sizes are in bytes.
use Rattle.std.specs.Prelude.{ℕ}

-- packet types: sender report, receiver report, transport-layer feedback, extended report
abbrev pub sr : ℕ
sr = 200

abbrev pub rr : ℕ
rr = 201

abbrev pub rtpfb : ℕ
rtpfb = 205

abbrev pub xr : ℕ
xr = 207

-- the format of ECN feedback, and the type of an ECN summary block
abbrev pub ecn_feedback : ℕ
ecn_feedback = 8

abbrev pub ecn_summary : ℕ
ecn_summary = 13

-- a header of a packet or of an XR block
abbrev pub header : ℕ
header = 4

-- where the SSRC of who sent a packet stands in it: in the word behind the header
abbrev pub sender : ℕ
sender = 4

-- what stands before the report blocks of an SR and an RR and before the blocks of an XR packet
abbrev pub sr_head : ℕ
sr_head = 28

abbrev pub rr_head : ℕ
rr_head = 8

abbrev pub xr_head : ℕ
xr_head = 8

-- a report block, an ECN feedback packet, an entry of an ECN summary block (in words too)
abbrev pub report_size : ℕ
report_size = 24

abbrev pub feedback_size : ℕ
feedback_size = 32

abbrev pub entry_size : ℕ
entry_size = 20

abbrev pub entry_words : ℕ
entry_words = 5

-- the largest compound
abbrev pub compound_most : ℕ
compound_most = 65507
