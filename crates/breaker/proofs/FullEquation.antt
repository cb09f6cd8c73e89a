-- The setting of the full equation: off it changes nothing; on it triggers where that equation says, and only where the exact one does. Assumes nothing.
use mathlib.Core.Path.{◌≡◌, refl, sym, ◌∙◌, ap}
use mathlib.Core.Bool.{Bool}
use Prim.Native.Nat.{ℕ}
use native.Mathlib.Nat.{div-eq_of_lt}
use Rattle.roots.specs.FullCondition.{loss_of, condition_at}
use Rattle.roots.proofs.Equation.{full_above_ten_times}
use Rattle.roots.proofs.Exact.{exact_triggers_too, full_example}
use Rattle.roots.proofs.Losses.{never_at_zero}
use Rattle.breaker.specs.declared.Settings.{Settings}
use Rattle.breaker.specs.declared.Window.{Window}
use Rattle.breaker.specs.declared.Report.{Report}
use Rattle.breaker.specs.Windows.{W, P}
use Rattle.breaker.specs.Condition.{condition_by}
use Rattle.breaker.specs.Rules.{last_intervals, holds}
use Rattle.breaker.specs.FullEquation.{SettingOff, PresetOff, SettingOn, TriggersExactToo, NeverWithoutLoss, ReactsEarlier}

-- the condition by the setting
by_setting : (s : Settings) (w : Window) (r : Report) (full : Bool) → s.full ≡ full
    → holds s w r ≡ condition_by full r.rate r.rtt (P (last_intervals s w)) r.size (W (last_intervals s w))
unfolding holds
by_setting s w r full e = ap (λ (t : Bool). condition_by t r.rate r.rtt (P (last_intervals s w)) r.size (W (last_intervals s w))) e

pub setting_off : SettingOff
setting_off s w r e = by_setting s w r _ e

pub preset_off : PresetOff
preset_off = refl

pub setting_on : SettingOn
setting_on s w r e =
    by_setting s w r _ e ∙ full_above_ten_times r.rate r.rtt (loss_of (P (last_intervals s w)) (W (last_intervals s w))) r.size

pub triggers_exact_too : TriggersExactToo
triggers_exact_too s w r e h =
    exact_triggers_too r.rate r.rtt (P (last_intervals s w)) r.size (W (last_intervals s w)) (sym (by_setting s w r _ e) ∙ h)

pub never_without_loss : NeverWithoutLoss
never_without_loss s w r e l =
    by_setting s w r _ e
    ∙ ap (λ (n : ℕ). condition_at r.rate r.rtt n r.size) (div-eq_of_lt l)
    ∙ (never_at_zero r.rate r.rtt 0 r.size).1

pub reacts_earlier : ReactsEarlier
unfolding holds
reacts_earlier = record { goes = full_example.3; triggers = full_example.4; simplified = refl }
