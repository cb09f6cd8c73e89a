-- The differences between two reports are the true ones where these are in range, and a report of the breaker may always come with them.
use Rattle.rtcp.specs.declared.ReportBlock.{ReportBlock}
use Rattle.answers.specs.declared.Refusal.{Refusal}
use Rattle.between.specs.declared.calls.Kept.{Kept}
use Rattle.std.specs.Prelude.{◌≡◌, Bool, true, ℕ, ◌^◌, leb, ℤ, pos, neg_ℤ, ◌-ℤ◌, ◌≤ℤ◌, ◌<ℤ◌, Option, Some, None, Result, Ok}
use Rattle.numbers.specs.Since.{carried}
use Rattle.format.specs.declared.Counts.{Counts}
use Rattle.breaker.specs.declared.EcnCounts.{EcnCounts}
use Rattle.breaker.specs.declared.Loss.TheVariants as loss
use Rattle.breaker.specs.Limits.{counts_ok, loss_ok}
use Rattle.rtcp.specs.declared.Compound.{Compound}
use Rattle.between.specs.declared.calls.Call.{Call}
use Rattle.between.specs.Differences.{signals_of, expecting_of}
use Rattle.between.specs.PacketCalls.{kept_of, since_kept, call_of}

-- what is true of a source where a report is made, whatever the size: its highest number, the packets marked with CE, the packets lost
pub record Truth : Type 0 where
  pub highest : ℤ
  pub ce : ℤ
  pub lost : ℤ

-- a report's counters carry it, and so does the highest number that goes with them
pub record Carry (c : Counts) (t : Truth) : Type 0 where
  pub ce : c.ce ≡ carried 16 t.ce
  pub lost : c.lost ≡ carried 16 t.lost

abbrev pub Carries : ℕ → Truth → Type 0
Carries highest t = highest ≡ carried 32 t.highest

-- the true differences that the counters can tell: 0 to 65,535 marked, -32,768 to 32,767 lost
pub record Told (later earlier : Truth) : Type 0 where
  pub some_marked : pos 0 ≤ℤ (later.ce -ℤ earlier.ce)
  pub few_marked : (later.ce -ℤ earlier.ce) <ℤ pos (2 ^ 16)
  pub some_lost : neg_ℤ (pos (2 ^ 15)) ≤ℤ (later.lost -ℤ earlier.lost)
  pub few_lost : (later.lost -ℤ earlier.lost) <ℤ pos (2 ^ 15)

-- and those that the highest number can tell: 0 to 2^31 - 1 expected
pub record Ahead (later earlier : Truth) : Type 0 where
  pub some : pos 0 ≤ℤ (later.highest -ℤ earlier.highest)
  pub few : (later.highest -ℤ earlier.highest) <ℤ pos (2 ^ 31)

-- L and C are the true ones
pub record TrueSignals (later earlier : Truth) (lost : ℤ) (marked : ℕ) : Type 0 where
  pub lost_is : lost ≡ later.lost -ℤ earlier.lost
  pub marked_is : pos marked ≡ later.ce -ℤ earlier.ce

abbrev pub SignalsExact : Type 0
SignalsExact =
    (later earlier : Truth) (c d : Counts) → Carry c later → Carry d earlier → Told later earlier
    → TrueSignals later earlier (signals_of c d).lost (signals_of c d).marked

-- L, C and E are given and are the true ones, for two feedbacks as for two summaries with the highest numbers of the report blocks beside them
pub record TrueCounts (later earlier : Truth) (b : Result EcnCounts Refusal) : Type 0 where
  pub counts : EcnCounts
  pub given : b ≡ Ok counts
  pub signals : TrueSignals later earlier counts.lost counts.marked
  pub expected_is : pos counts.expected ≡ later.highest -ℤ earlier.highest

abbrev pub BetweenExact : Type 0
BetweenExact =
    (later earlier : Truth) (c d : Counts) (m n : ℕ) → Carry c later → Carry d earlier → Carries m later → Carries n earlier → Told later earlier
    → Ahead later earlier → TrueCounts later earlier (expecting_of (signals_of c d) m n)

-- whatever the reports, what is given is in the limits of a breaker's report
abbrev pub GivenInLimits : Type 0
GivenInLimits = (c d : Counts) (m n : ℕ) (given : EcnCounts) → expecting_of (signals_of c d) m n ≡ Ok given → counts_ok given ≡ true

-- ---- the call that a packet is for

-- what is kept of two reports is enough to tell what came between them
abbrev pub KeptIsEnough : Type 0
KeptIsEnough = (c d : Counts) (m n : ℕ) → since_kept (kept_of m c) (kept_of n d) ≡ expecting_of (signals_of c d) m n

-- a report block's fraction has 8 bits, as its type says
abbrev pub fraction_fits : Option ReportBlock → Bool
fraction_fits (Some r) = leb r.fraction 255
fraction_fits None = true

abbrev pub loss_fits : Call → Bool
loss_fits (Call.Report highest l) = loss_ok l
loss_fits Call.Heard = true

-- whatever the packet and what is kept, the losses of a report are in the breaker's limits
abbrev pub CallInLimits : Type 0
CallInLimits = (c : Compound) (earlier : Option Kept) → fraction_fits c.report ≡ true → loss_fits (call_of c earlier) ≡ true

-- a packet with an RR and a report block of the greatest fraction
abbrev pub some_block : Compound
some_block =
    record {
      report = Some (record { fraction = 255; lost = pos 9; highest = 70000; jitter = 0; lsr = 0; dlsr = 0; reporter = 0 });
      feedback = None;
      summary = None;
      reporting = true;
    }

-- the hypothesis can be met
pub record SomeCall : Type 0 where
  pub fits : fraction_fits some_block.report ≡ true
  pub call : call_of some_block None ≡ Call.Report 70000 (loss.Fraction 255)
