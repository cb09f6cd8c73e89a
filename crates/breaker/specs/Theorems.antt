-- What holds of every run of the breaker, and what the condition means.
use Rattle.std.specs.Prelude.{◌≡◌, Bool, true, List, [], ◌∷◌, map, ℕ, ◌*◌, ◌^◌, ◌≤◌, ◌<◌, leb, ltb, pos, length, ◌≤ℤ◌}
use Rattle.answers.specs.declared.Refusal.{Refusal}
use Rattle.breaker.specs.declared.Reason.{Reason}
use Rattle.breaker.specs.declared.Reason.TheVariants.{Congestion}
use Rattle.breaker.specs.declared.Settings.{Settings}
use Rattle.breaker.specs.declared.Breaker.{Breaker}
use Rattle.breaker.specs.declared.EcnCounts.{EcnCounts}
use Rattle.breaker.specs.declared.Loss.{Loss}
use Rattle.breaker.specs.declared.Loss.TheVariants as loss
use Rattle.breaker.specs.declared.Report.{Report}
use Rattle.breaker.specs.declared.Answer.{Answer}
use Rattle.breaker.specs.declared.Answer.TheVariants.{Go, Stop, Refused}
use Rattle.breaker.specs.Limits.{loss_ok}
use Rattle.breaker.specs.FractionLost.{fraction_of}
use Rattle.breaker.specs.Soundness.{sound}
use Rattle.breaker.specs.Condition.{condition}
use Rattle.breaker.specs.Calls.{start_of, preset, report_of}
use Rattle.breaker.specs.Runs.{Call, report, tick, heard, called, answers_of, after}
use Rattle.roots.specs.Fractions.{Fraction, whole, ◌times◌, square, above}
use Rattle.breaker.specs.Throughput.{simplified_squared}

-- a start that is not refused makes a sound record
abbrev pub SoundStart : Type 0
SoundStart = (s : Settings) (time : ℕ) → (start_of s time).answer ≡ Go → sound (start_of s time).breaker ≡ true

-- a sound record stays sound under each call (the array has 32 places, as its type says)
abbrev pub SoundCall : Type 0
SoundCall = (b : Breaker) (c : Call) → length b.window.intervals ≡ 32 → sound b ≡ true → sound (called b c).breaker ≡ true

-- so no call of a run from a start is refused with 9
abbrev pub SoundRun : Type 0
SoundRun = (s : Settings) (time : ℕ) (calls : List Call) → (start_of s time).answer ≡ Go → sound (after (start_of s time).breaker calls) ≡ true

-- a record's highest number has 32 bits and its array 32 places, as their types say
pub record Typed (b : Breaker) : Type 0 where
  pub number : b.highest < 2 ^ 32
  pub places : length b.window.intervals ≡ 32

-- a report's highest number has 32 bits
abbrev pub number_fits : Call → Bool
number_fits (report r) = ltb r.highest (2 ^ 32)
number_fits (tick time) = true
number_fits (heard time) = true

-- every start makes such a record, and every call keeps it one
abbrev pub TypedStart : Type 0
TypedStart = (s : Settings) (time : ℕ) → Typed (start_of s time).breaker

abbrev pub TypedCall : Type 0
TypedCall = (b : Breaker) (c : Call) → Typed b → number_fits c ≡ true → Typed (called b c).breaker

-- a refused call hands the record back as it was
abbrev pub RefusedKeeps : Type 0
RefusedKeeps = (b : Breaker) (c : Call) (refusal : Refusal) → (called b c).answer ≡ Refused refusal → (called b c).breaker ≡ b

-- stopped stays stopped: whatever calls follow a stop, each answer is that stop, and the breaker stays as the stop left it
abbrev pub StaysStopped : Type 0
StaysStopped =
    (b : Breaker) (c : Call) (reason : Reason) (later : List Call) → (called b c).answer ≡ Stop reason
    → (answers_of (called b c).breaker later ≡ map (λ (_ : Call). Stop reason) later) × (after (called b c).breaker later ≡ (called b c).breaker)

-- The condition is "rate above ten times the simplified equation", both sides squared: rate² above 10² · X², with s bytes, Tr ms = Tr / 1000 s,
-- b = 1 and p = P / (256 · W), since each fraction f is in 256ths. So 38,400,000,000 is 10² · 1000² · 256 · 3 / 2.
abbrev pub AboveTenTimes : Type 0
AboveTenTimes =
    (rate Tr P s W : ℕ)
    → condition rate Tr P s W
    ≡ above (square (whole rate))
    (square (whole 10) times simplified_squared (whole s) (record { top = Tr; bottom = 1000 }) (whole 1) (record { top = P; bottom = 256 * W }))

-- comparing squares is comparing the numbers
abbrev pub SquaresCompare : Type 0
SquaresCompare = (x y : Fraction) → above (square x) (square y) ≡ above x y

-- ---- the fraction lost (document 02, request L2)

-- f is from 0 to 255
abbrev pub FractionInRange : Type 0
FractionInRange = (l : Loss) → loss_ok l ≡ true → fraction_of l ≤ 255

-- more packets lost, more marked or both, of as many expected, never give a smaller f
abbrev pub MoreIsNoLess : Type 0
MoreIsNoLess =
    (c d : EcnCounts) → c.expected ≡ d.expected → c.lost ≤ℤ d.lost → c.marked ≤ d.marked
    → fraction_of (loss.Counts c) ≤ fraction_of (loss.Counts d)

-- a path that marks every packet and drops none gives 255
abbrev pub AllMarked : Type 0
AllMarked = (n : ℕ) → 0 < n → fraction_of (loss.Counts (record { lost = pos 0; marked = n; expected = n })) ≡ 255

-- a report with another loss
abbrev pub with_loss : Report → Loss → Report
with_loss r l = record { time = r.time; highest = r.highest; loss = l; rtt = r.rtt; size = r.size; rate = r.rate }

-- a report whose losses are in their limits answers, and leaves the breaker, as the same report with the plain f that they give
abbrev pub JudgedByFraction : Type 0
JudgedByFraction = (b : Breaker) (r : Report) → loss_ok r.loss ≡ true → report_of b r ≡ report_of b (with_loss r (loss.Fraction (fraction_of r.loss)))

-- a report without ECN counts has the old f and its limit
abbrev pub PlainFraction : Type 0
PlainFraction = (f : ℕ) → (fraction_of (loss.Fraction f) ≡ f) × (loss_ok (loss.Fraction f) ≡ leb f 255)

-- reports of 1,000 packets each, none lost and so many marked
abbrev pub marked_report : ℕ → ℕ → Call
marked_report marked n =
    report
    (record {
      time = n * 1000;
      highest = n * 1000;
      loss = loss.Counts (record { lost = pos 0; marked = marked; expected = 1000 });
      rtt = 100;
      size = 1000;
      rate = 1000000;
    })

abbrev pub marked_answers : ℕ → List Answer
marked_answers marked = answers_of (start_of preset 0).breaker (map (marked_report marked) (1 ∷ 2 ∷ 3 ∷ 4 ∷ []))

-- a path that marks and never drops does not keep the breaker asleep
pub record MarksStop : Type 0 where
  pub unmarked : marked_answers 0 ≡ Go ∷ Go ∷ Go ∷ Go ∷ []
  pub marked : marked_answers 1000 ≡ Go ∷ Go ∷ Go ∷ Stop Congestion ∷ []
