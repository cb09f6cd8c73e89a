-- The compound of a table (document 02, L1): an RR without report blocks (RFC 3550, section 6.4.2) and one ECN feedback packet for each held place, in table
-- order, all from one sender SSRC.
use Rattle.std.specs.Prelude.{ℕ, ◌*◌, List, [], ◌∷◌, ◌++◌}
use Rattle.numbers.specs.BigEndian.{bytes}
use Rattle.report.specs.Reports.{feedback_bytes}
use Rattle.sources.specs.declared.Place.{Place}
use Rattle.sources.specs.Places.{held_of}

-- version 2, no padding, no report blocks; type 201; length 1 word after the first; sender
unfoldable pub receiver_report : ℕ → List ℕ
receiver_report sender = bytes 1 (2 * 64) ++ bytes 1 201 ++ bytes 2 1 ++ bytes 4 sender

unfoldable pub feedbacks : ℕ → List Place → List ℕ
feedbacks sender [] = []
feedbacks sender (p ∷ ps) = feedback_bytes sender p.ssrc p.source ++ feedbacks sender ps

unfoldable pub compound_bytes : ℕ → List Place → List ℕ
compound_bytes sender ps = receiver_report sender ++ feedbacks sender (held_of ps)
