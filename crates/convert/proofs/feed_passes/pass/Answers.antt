use mathlib.Core.Path.{◌≡◌, sym, subst}
use native.Mathlib.Omega.{arith}
use Prim.Native.Nat.{ℕ, suc, ◌-◌}
use mathlib.Core.List.{◌∷◌}
use lib.ListN.{length-take}
use Rattle.walk.specs.Pieces.{whole_in}
use Rattle.convert.specs.Feeds.{zeroth_in, part_in, held_by, feeding, through}
use Rattle.convert.specs.Passes.{Passes}
use Rattle.convert.proofs.Lents.{part_long}
use Rattle.convert.proofs.feed_passes.pass.Goals as goal

pub returns-then-u-eq0 : goal.returns-then-u-eq0
returns-then-u-eq0 c =
    let a = c.args in
    let lent = a.lent.now in
    let f = c.from_label in
    let none : 0 ≡ a.u.blocks = sym c.if-u-eq0.true in
    subst (λ (n : ℕ). Passes (through feeding n (part_in lent ∷ whole_in a.rest.now) (held_by a.u lent)) a.out.now f.result f.new.out) none (f.ensures (zeroth_in lent))

pub slice_bounds-from_block-end : goal.slice_bounds-from_block-end
slice_bounds-from_block-end c = omega (arith, c.requires.long, length-take 512 c.args.lent.now)

pub from_block-requires : goal.from_block-requires
from_block-requires c =
    let lent = c.args.lent.now in
    (c.requires.sound (omega (arith, c.if-u-eq0.false)), part_long lent c.requires.long, c.requires.short)

pub returns : goal.returns
returns c =
    let a = c.args in
    let lent = a.lent.now in
    let f = c.from_block in
    let some : suc (a.u.blocks - 1) ≡ a.u.blocks = omega (arith, c.if-u-eq0.false) in
    subst (λ (n : ℕ). Passes (through feeding n (part_in lent ∷ whole_in a.rest.now) (held_by a.u lent)) a.out.now f.result f.new.out) some (f.ensures (a.u.blocks - 1))
