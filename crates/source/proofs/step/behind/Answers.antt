use mathlib.Core.Path.{◌≡◌, refl, ap, ap₂, ◌∙◌}
use native.Mathlib.Omega.{arith}
use Prim.Native.Nat.{ℕ, ◌+◌}
use mathlib.Core.Bool.{Bool, true, false}
use mir.Val.{bool_byte}
use Rattle.source.specs.Arrivals.{counted, behind}
use Rattle.source.proofs.Facts.{facts}
use Rattle.source.specs.declared.History.{History}
use Rattle.source.specs.Places.{bit}
use Rattle.source.proofs.Rows.{bit_le}
use Rattle.source.proofs.step.behind.Goals as goal

bit_of : (b : Bool) → bool_byte b ≡ bit b
bit_of true = refl
bit_of false = refl

pub with_mark-added-requires : goal.with_mark-added-requires
with_mark-added-requires c = (c.requires.2, (facts c.args.s c.requires.0).fits)

pub overflow_add-duplicates : goal.overflow_add-duplicates
overflow_add-duplicates c =
    let f = facts c.args.s c.requires.0 in
    let again = c.marked-again.result in
    omega (arith, f.fewer, f.most, bit_of again, bit_le again)

pub returns : goal.returns
unfolding behind
returns c =
    let a = c.args in
    c.counted.ensures
    ∙ ap₂ (λ (n : ℕ) (h : History). counted a.s a.mark a.s.base a.s.highest (a.s.duplicates + n) h)
    (c.from.ensures ∙ bit_of c.marked-again.result ∙ ap bit c.marked-again.ensures) c.with_mark-added.ensures
