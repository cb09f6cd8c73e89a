-- Report blocks (RFC 3550, sections 6.4.1 and 6.4.2).
use Rattle.std.specs.Prelude.{ℕ, ◌+◌, cond, List, get_or, Option, Some, None}
use Rattle.numbers.specs.BigEndian.{word}
use Rattle.numbers.specs.Since.{signed}
use Rattle.rtcp.specs.declared.ReportBlock.{ReportBlock}
use Rattle.rtcp.specs.declared.header.Header.{Header}
use Rattle.rtcp.specs.Layout.{sender, report_size}
use Rattle.rtcp.specs.Packets.{is_report, blocks_from}
use Rattle.rtcp.specs.Entries.{entry_for}

-- the fields behind the SSRC of the report block at `at`, and the reporter: the SSRC "for the originator" (RFC 3550, section 6.4.1) of the SR or RR at
-- `packet` in which the block stands
unfoldable pub report_block : List ℕ → ℕ → ℕ → ReportBlock
report_block b packet at =
    record {
      fraction = get_or b (at + 4) 0;
      lost = signed 24 (word 3 b (at + 5));
      highest = word 4 b (at + 8);
      jitter = word 4 b (at + 12);
      lsr = word 4 b (at + 16);
      dlsr = word 4 b (at + 20);
      reporter = word 4 b (packet + sender);
    }

abbrev pub report_at : List ℕ → ℕ → Option ℕ → Option ReportBlock
report_at b packet (Some at) = Some (report_block b packet at)
report_at b packet None = None

-- the first report block about `media` in the packet at `at`, with the header `h`
unfoldable pub report_in : Header → List ℕ → ℕ → ℕ → Option ReportBlock
report_in h b at media =
    cond (is_report h) (report_at b at (entry_for report_size h.count b (at + blocks_from h) media)) None
