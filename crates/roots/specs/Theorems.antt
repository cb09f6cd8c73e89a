-- What holds of the two roots, and what the full condition means (document 02, L9).
use Rattle.std.specs.Prelude.{◌≡◌, Bool, true, false, ℕ, ◌+◌, ◌*◌, ◌^◌, ◌<◌, ◌≤◌}
use Rattle.roots.specs.Fractions.{Fraction, whole, ◌plus◌, ◌times◌, ◌over◌, square, ◌equals◌, above}
use Rattle.roots.specs.FullThroughput.{round_trip_radicand, timeout_radicand, denominator, throughput, ratio, throughput_squared}
use Rattle.roots.specs.Roots.{scaled_root, loss, round_trip_root, timeout_root, Floor}
use Rattle.roots.specs.FullCondition.{loss_of, scaled_denominator, condition_at, full_condition}

-- ---- the roots

-- each keeps the rule over squares: A² · 3072 ≤ 2^40 · 2n < (A + 1)² · 3072 and B² · 8192 ≤ 2^40 · 3n < (B + 1)² · 8192
abbrev pub RootsAreFloors : Type 0
RootsAreFloors =
    (n : ℕ) → Floor (record { top = 2 * n; bottom = 3072 }) (round_trip_root n) × Floor (record { top = 3 * n; bottom = 8192 }) (timeout_root n)

-- and no other number does
abbrev pub OneFloor : Type 0
OneFloor = (x : Fraction) (r : ℕ) → Floor x r → r ≡ scaled_root x

-- neither falls as n grows
abbrev pub NeverFall : Type 0
NeverFall = (m n : ℕ) → m ≤ n → (round_trip_root m ≤ round_trip_root n) × (timeout_root m ≤ timeout_root n)

-- ---- the equation: b = 1, and t_RTO = 4 · Tr

-- Tr ms
abbrev pub seconds : ℕ → Fraction
seconds Tr = record { top = Tr; bottom = 1000 }

-- a scaled root
abbrev pub unscaled : ℕ → Fraction
unscaled r = record { top = r; bottom = 2 ^ 20 }

-- rate above ten times the full equation, with p rounded down to n / 1024 and the roots rounded down to 2^20ths
abbrev pub above_ten_times : ℕ → ℕ → ℕ → ℕ → Bool
above_ten_times rate Tr n s =
    above (whole rate)
    (whole 10 times throughput (whole s) (seconds Tr) (whole 4 times seconds Tr) (loss n) (unscaled (round_trip_root n)) (unscaled (timeout_root n)))

-- the condition is just that
abbrev pub FullAboveTenTimes : Type 0
FullAboveTenTimes = (rate Tr n s : ℕ) → condition_at rate Tr n s ≡ above_ten_times rate Tr n s

-- √(3bp/8) is 3/4 · √(2bp/3), over squares: 3/8 = (3/4)² · 2/3
abbrev pub RatioOfRoots : Type 0
RatioOfRoots = (b p : Fraction) → timeout_radicand b p equals square ratio times round_trip_radicand b p

-- whatever the round trip's root, with the timeout's in that ratio it is a factor of the denominator
abbrev pub RootTakenOut : Type 0
RootTakenOut = (Tr tRTO p root : Fraction) → denominator Tr tRTO p root (ratio times root) equals root times denominator Tr tRTO p (whole 1) ratio

-- so, where a fraction is the round trip's root, `throughput_squared` is the square of the equation as it is written
abbrev pub SquaredThroughput : Type 0
SquaredThroughput =
    (s Tr tRTO b p root : Fraction) → 0 < root.bottom → square root equals round_trip_radicand b p
    → square (throughput s Tr tRTO p root (ratio times root)) equals throughput_squared s Tr tRTO b p

-- p = P / (256 · W), since each fraction f is in 256ths
abbrev pub exact_loss : ℕ → ℕ → Fraction
exact_loss P W = record { top = P; bottom = 256 * W }

-- rate above ten times the exact equation at this p, both sides squared
abbrev pub exact_condition : ℕ → ℕ → ℕ → ℕ → ℕ → Bool
exact_condition rate Tr P s W =
    above (square (whole rate))
    (square (whole 10) times throughput_squared (whole s) (seconds Tr) (whole 4 times seconds Tr) (whole 1) (exact_loss P W))

-- rate² · Tr² · (2p/3) · (1 + 9p · (1 + 32p²))² > (10,000 · s)²
abbrev pub one_square : ℕ → ℕ → Fraction → ℕ → Bool
one_square rate Tr p s =
    above
    (square (whole rate) times square (whole Tr) times (whole 2 times p over whole 3) times square (whole 1 plus whole 9 times p times (whole 1 plus whole 32 times p times p)))
    (square (whole 10000 times whole s))

-- the exact condition is this one square
abbrev pub OneSquare : Type 0
OneSquare = (rate Tr P s W : ℕ) → exact_condition rate Tr P s W ≡ one_square rate Tr (exact_loss P W) s

-- where the condition holds, the exact one does too
abbrev pub ExactTriggersToo : Type 0
ExactTriggersToo = (rate Tr P s W : ℕ) → full_condition rate Tr P s W ≡ true → exact_condition rate Tr P s W ≡ true

-- not conversely: an example each where the rounding of the roots and that of p decides
abbrev pub NotConversely : Type 0
NotConversely =
    (exact_condition 94818958 1 640000 30000 10000 ≡ true) × (full_condition 94818958 1 640000 30000 10000 ≡ false)
    × (exact_condition 6175065 100 1000 1000 10000 ≡ true)
    × (full_condition 6175065 100 1000 1000 10000 ≡ false)

-- C10 with the full equation, as docs/BREAKER.md works it through: it goes at the first rate and triggers at the next
abbrev pub FullExample : Type 0
FullExample =
    (round_trip_root 256 ≡ 428079) × (timeout_root 256 ≡ 321059) × (scaled_denominator 256 ≡ 3562256612720640)
    × (full_condition 31606 100 640000 1000 10000 ≡ false)
    × (full_condition 31607 100 640000 1000 10000 ≡ true)

-- ---- how it depends on the loss

-- with no round trip time, or n = 0, the condition never holds
abbrev pub NeverAtZero : Type 0
NeverAtZero = (rate Tr n s : ℕ) → (condition_at rate 0 n s ≡ false) × (condition_at rate Tr 0 s ≡ false)

-- where it holds, it holds at every greater n
abbrev pub GreaterLossTriggers : Type 0
GreaterLossTriggers = (rate Tr m n s : ℕ) → m ≤ n → condition_at rate Tr m s ≡ true → condition_at rate Tr n s ≡ true

-- over some time, n is the floor of 1024 · p with p = P / (256 · W): n ≤ 1024 · p < n + 1, both sides times 256 · W
abbrev pub LossIsFloor : Type 0
LossIsFloor = (P W : ℕ) → 0 < W → (loss_of P W * (256 * W) ≤ 1024 * P) × (1024 * P < (loss_of P W + 1) * (256 * W))

-- n grows with P, and is at most 1,020 where each fraction f is at most 255
abbrev pub LossGrows : Type 0
LossGrows = (P Q W : ℕ) → P ≤ Q → loss_of P W ≤ loss_of Q W

abbrev pub LossAtMost : Type 0
LossAtMost = (P W : ℕ) → P ≤ 255 * W → loss_of P W ≤ 1020

-- ---- the sizes

-- at the limits of a report the factors of the two sides have at most 43, 58, 30 and 51 bits
abbrev pub FactorsFit : Type 0
FactorsFit =
    (rate Tr n s : ℕ) → rate ≤ 125000000 → Tr ≤ 60000 → n ≤ 1024 → s ≤ 65535
    → (rate * Tr < 2 ^ 43) × (scaled_denominator n < 2 ^ 58) × (10000 * s < 2 ^ 30) × (2 ^ 50 < 2 ^ 51)
