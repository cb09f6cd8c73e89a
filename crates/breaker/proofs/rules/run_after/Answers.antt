use native.Mathlib.Omega.{arith}
use Rattle.breaker.proofs.Facts.{settings_of_lem, m_high, run_below}
use Rattle.breaker.proofs.rules.run_after.Goals as goal

pub overflow_add-result : goal.overflow_add-result
overflow_add-result c =
    let b = c.args.b in
    let h = c.requires in
    omega (arith, run_below b h.is_sound h.running, m_high b.settings (settings_of_lem b h.is_sound))
