-- Document 02, request L9: what the setting of the full equation changes.
use Rattle.std.specs.Prelude.{◌≡◌, Bool, true, false, [], ◌∷◌, ℕ, ◌*◌, ◌<◌}
use Rattle.roots.specs.FullCondition.{loss_of}
use Rattle.roots.specs.Theorems.{above_ten_times, exact_condition}
use Rattle.breaker.specs.declared.Settings.{Settings}
use Rattle.breaker.specs.declared.Interval.{Interval}
use Rattle.breaker.specs.declared.Window.{Window}
use Rattle.breaker.specs.declared.Loss.TheVariants as loss
use Rattle.breaker.specs.declared.Breaker.{Breaker}
use Rattle.breaker.specs.declared.Report.{Report}
use Rattle.breaker.specs.Windows.{W, P}
use Rattle.breaker.specs.Condition.{condition}
use Rattle.breaker.specs.Rules.{last_intervals, holds}
use Rattle.breaker.specs.Calls.{preset}
use Rattle.breaker.specs.Runs.{Call, called}

-- ---- off: the condition is that of the simplified equation, as before

abbrev pub SettingOff : Type 0
SettingOff =
    (s : Settings) (w : Window) (r : Report) → s.full ≡ false
    → holds s w r ≡ condition r.rate r.rtt (P (last_intervals s w)) r.size (W (last_intervals s w))

-- the preset settings have it off, and no call changes a breaker's settings
abbrev pub PresetOff : Type 0
PresetOff = preset.full ≡ false

abbrev pub SettingsKept : Type 0
SettingsKept = (b : Breaker) (c : Call) → (called b c).breaker.settings ≡ b.settings

-- ---- on

-- the condition is "rate above ten times the full equation", with b = 1, t_RTO = 4 · Tr, the roots rounded down to 2^20ths and p = P / (256 · W) to n / 1024
abbrev pub SettingOn : Type 0
SettingOn =
    (s : Settings) (w : Window) (r : Report) → s.full ≡ true
    → holds s w r ≡ above_ten_times r.rate r.rtt (loss_of (P (last_intervals s w)) (W (last_intervals s w))) r.size

-- where the condition holds, rate is above ten times the exact equation at the exact p = P / (256 · W), over the same intervals
abbrev pub TriggersExactToo : Type 0
TriggersExactToo =
    (s : Settings) (w : Window) (r : Report) → s.full ≡ true → holds s w r ≡ true
    → exact_condition r.rate r.rtt (P (last_intervals s w)) r.size (W (last_intervals s w)) ≡ true

-- with n = 0, so p below 1/1024, it never holds
abbrev pub NeverWithoutLoss : Type 0
NeverWithoutLoss =
    (s : Settings) (w : Window) (r : Report) → s.full ≡ true → 4 * P (last_intervals s w) < W (last_intervals s w) → holds s w r ≡ false

-- C10's intervals: from rate 31,607 on it holds with the full equation, and not with the simplified one
abbrev pub settings_c10 : Bool → Settings
settings_c10 full = record { k = 2; m = 3; timeout = 15000; reduce = false; full = full }

abbrev pub interval_c10 : Interval
interval_c10 = record { length = 5000; fraction = 64 }

abbrev pub window_c10 : Window
window_c10 = record { used = 2; intervals = interval_c10 ∷ interval_c10 ∷ [] }

abbrev pub report_c10 : ℕ → Report
report_c10 rate = record { time = 15000; highest = 3; loss = loss.Fraction 64; rtt = 100; size = 1000; rate = rate }

pub record ReactsEarlier : Type 0 where
  pub goes : holds (settings_c10 true) window_c10 (report_c10 31606) ≡ false
  pub triggers : holds (settings_c10 true) window_c10 (report_c10 31607) ≡ true
  pub simplified : holds (settings_c10 false) window_c10 (report_c10 31607) ≡ false
