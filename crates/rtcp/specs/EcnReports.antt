-- ECN feedback packets and ECN summary blocks (RFC 6679, sections 5.1 and 5.2).
use Rattle.std.specs.Prelude.{ℕ, ◌+◌, ◌/◌, ◌%◌, Bool, cond, ◌&&◌, List, eqb, get_or, Option, Some, None}
use Rattle.numbers.specs.BigEndian.{word}
use Rattle.format.specs.declared.Counts.{Counts}
use Rattle.rtcp.specs.declared.Feedback.{Feedback}
use Rattle.rtcp.specs.declared.header.Header.{Header}
use Rattle.rtcp.specs.declared.header.XrBlock.{XrBlock}
use Rattle.rtcp.specs.Layout.{ecn_summary, header, entry_size, entry_words}
use Rattle.rtcp.specs.Packets.{is_feedback}
use Rattle.rtcp.specs.Entries.{entry_for}

-- the counters that end a feedback packet and a summary entry
unfoldable pub counts : List ℕ → ℕ → Counts
counts b at =
    record {
      ect0 = word 4 b at;
      ect1 = word 4 b (at + 4);
      ce = word 2 b (at + 8);
      notect = word 2 b (at + 10);
      lost = word 2 b (at + 12);
      duplicates = word 2 b (at + 14);
    }

-- header, sender SSRC, media SSRC, highest, counters
unfoldable pub feedback : List ℕ → ℕ → Feedback
feedback b at = record { sender = word 4 b (at + 4); highest = word 4 b (at + 12); counts = counts b (at + 16) }

-- the packet at `at`, with the header `h`, where it is ECN feedback about `media`
unfoldable pub feedback_in : Header → List ℕ → ℕ → ℕ → Option Feedback
feedback_in h b at media =
    cond (is_feedback h && eqb (word 4 b (at + 8)) media) (Some (feedback b at)) None

-- the XR block at `at`: its type, and its length in words without its first
unfoldable pub block_at : List ℕ → ℕ → XrBlock
block_at b at = record { kind = get_or b at 0; words = word 2 b (at + 2) }

-- an ECN summary block; one whose length is no multiple of 5 is passed over
unfoldable pub is_summary : XrBlock → Bool
is_summary block = eqb block.kind ecn_summary && eqb (block.words % entry_words) 0

-- an entry is its SSRC and the counters
abbrev pub summary_at : List ℕ → Option ℕ → Option Counts
summary_at b (Some at) = Some (counts b (at + 4))
summary_at b None = None

-- the first entry about `media` in this XR block at `at`
unfoldable pub summary_in : XrBlock → List ℕ → ℕ → ℕ → Option Counts
summary_in block b at media =
    cond (is_summary block) (summary_at b (entry_for entry_size (block.words / entry_words) b (at + header) media)) None
