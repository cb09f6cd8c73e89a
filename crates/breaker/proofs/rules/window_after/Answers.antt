use mathlib.Core.Path.{◌∙◌}
use Rattle.breaker.specs.Rules.{window_after}
use Rattle.breaker.specs.Windows.{pushed}
use Rattle.breaker.proofs.Facts.{settings_of_lem, used_of, k_low, k_high, loss_of_lem}
use Rattle.breaker.proofs.rules.window_after.Goals as goal

pub fraction_of-requires : goal.fraction_of-requires
fraction_of-requires c = loss_of_lem c.args.r c.requires.in_limits

pub pushed-requires : goal.pushed-requires
pushed-requires c =
    let b = c.args.b in
    let ok = c.requires.is_sound in
    (k_low b.settings (settings_of_lem b ok), k_high b.settings (settings_of_lem b ok), used_of b ok)

pub returns : goal.returns
unfolding window_after
returns c =
    let b = c.args.b in
    c.pushed.ensures
    ∙ (λ i. pushed b.settings.k (record { length = c.stored_length.ensures i; fraction = c.fraction_of.ensures i }) b.window)
