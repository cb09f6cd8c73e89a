-- The two ECN reports as bytes (RFC 6679, sections 5.1 and 5.2; document 01, "Packets").
use Rattle.std.specs.Prelude.{ℕ, ◌+◌, ◌*◌, cond, List, [], ◌∷◌, ◌++◌, Option, Some, None}
use Rattle.numbers.specs.BigEndian.{bytes}
use Rattle.answers.specs.declared.Refusal.{Refusal}
use Rattle.answers.specs.declared.Refusal.TheVariants.{Malformed}
use Rattle.source.specs.declared.Source.{Source}
use Rattle.source.specs.Record.{sound}
use Rattle.format.specs.declared.Counts.{Counts}
use Rattle.report.specs.Carried.{highest_of, counts_of}

-- the counters as both reports have them: ECT(0) and ECT(1) in 32 bits; CE, not-ECT, lost and duplicates in 16
unfoldable pub counts_bytes : Counts → List ℕ
counts_bytes c =
    bytes 4 c.ect0 ++ bytes 4 c.ect1 ++ bytes 2 c.ce ++ bytes 2 c.notect ++ bytes 2 c.lost ++ bytes 2 c.duplicates

-- the feedback packet: version 2, no padding, format 8; type 205; length 7 words after the first; sender, media, highest, counters
unfoldable pub feedback_of : ℕ → ℕ → ℕ → Counts → List ℕ
feedback_of sender media highest c =
    bytes 1 (2 * 64 + 8) ++ bytes 1 205 ++ bytes 2 7 ++ bytes 4 sender ++ bytes 4 media ++ bytes 4 highest ++ counts_bytes c

-- the summary block with one entry: type 13, a reserved byte, length 5 words after the first; SSRC, counters
unfoldable pub summary_of : ℕ → Counts → List ℕ
summary_of media c = bytes 1 13 ++ bytes 1 0 ++ bytes 2 5 ++ bytes 4 media ++ counts_bytes c

-- ---- from a record

-- refusal 9
unfoldable pub fault : Source → Option Refusal
fault s = cond (sound s) None (Some Malformed)

abbrev pub feedback_bytes : ℕ → ℕ → Source → List ℕ
feedback_bytes sender media s = feedback_of sender media (highest_of s) (counts_of s)

abbrev pub summary_bytes : ℕ → Source → List ℕ
summary_bytes media s = summary_of media (counts_of s)

-- ---- 32-bit words

-- the bytes of words one after the other
unfoldable pub words_bytes : List ℕ → List ℕ
words_bytes [] = []
words_bytes (w ∷ ws) = bytes 4 w ++ words_bytes ws
