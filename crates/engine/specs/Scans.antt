-- The marks of packets, added up.
use Rattle.engine.specs.declared.scans.Scan.{Scan}
use Rattle.std.specs.Prelude.{◌≡◌, cond, List, ℕ, ◌+◌, ◌/◌, Option, Some, None}
use Rattle.source.specs.Blocks.{Packet, marks_fit}
use Rattle.engine.specs.declared.scans.Sums.{Sums}
use Rattle.engine.specs.Windows.{strays}
use Rattle.engine.specs.Settled.{total, numbered}

-- the sums of a part
pub record SumsOf (first : ℕ) (ps : List Packet) (r : Sums) : Type 0 where
  pub whole : r.whole ≡ total (λ t. t) ps
  pub halves : r.halves ≡ total (λ t. t / 2) ps
  pub threes : r.threes ≡ total (λ t. (t + 1) / 4) ps
  pub fours : r.fours ≡ total (λ t. t / 4) ps
  pub strays : r.strays ≡ strays first ps

-- how many packets have each mark, or that some mark is above 3
abbrev pub scan_of : ℕ → List Packet → Option Scan
scan_of first ps =
    cond (marks_fit ps)
    (Some (record { notect = numbered 0 ps; ect1 = numbered 1 ps; ect0 = numbered 2 ps; ce = numbered 3 ps; strays = strays first ps }))
    None
