use mathlib.Core.Path.{◌≡◌, refl}
use mathlib.Core.Bool.{false}
use Rattle.shell.specs.Fills.{goes_on, is_more}
use Rattle.shell.specs.declared.reading.Ahead.{Ahead}
use Rattle.shell.specs.declared.reading.Ahead.TheVariants.{More, End, Failure}
use Rattle.shell.proofs.reading.Reading.goes_on.Goals as goal

none_more : (a : Ahead) → (a ≡ More → ⊥) → is_more a ≡ false
none_more More h = absurd (h refl)
none_more End h = refl
none_more Failure h = refl

pub returns-in_default : goal.returns-in_default
unfolding goes_on
returns-in_default c = rw (none_more c.args.self.input.ahead c.in_default.not-More)

pub returns : goal.returns
unfolding goes_on
returns c = rw c.in-More.is
