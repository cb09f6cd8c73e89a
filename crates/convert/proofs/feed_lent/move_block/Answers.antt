use mathlib.Core.Path.{◌≡◌, refl, sym, ap, ◌∙◌}
use Prim.Native.Nat.{ℕ, ◌+◌}
use native.Mathlib.Omega.{arith}
use mathlib.Core.List.{List}
use lib.ListN.{length, drop, get_or, set, length-set, length-take, length-drop}
use lib.Seq.{sets, get_or-drop, get_or-take, drop-set-lt}
use Rattle.answers.proofs.Stores.{sets-turn, sets-done}
use Rattle.convert.specs.Feeds.{part_in}
use Rattle.convert.proofs.feed_lent.move_block.Goals as goal

pub loop-i-init : goal.loop-i-init
loop-i-init c = (omega arith, refl, refl, refl)

pub bounds-lent-i : goal.bounds-lent-i
bounds-lent-i c = omega arith

pub bounds-lent-i-in-loop-i : goal.bounds-lent-i-in-loop-i
bounds-lent-i-in-loop-i c = omega arith

pub loop-i-preserved : goal.loop-i-preserved
loop-i-preserved c =
    let loop = c.loop-i in
    let i = loop.i in
    let old = c.args.lent.now in
    let inside = c.loop-i-test.true in
    let long : length (part_in old) ≡ 512 = length-take 512 (drop 512 old) ∙ omega (arith, length-drop 512 old, c.requires) in
    let same : get_or (part_in old) i 0 ≡ get_or loop.lent (512 + i) 0 =
    get_or-take 512 (drop 512 old) i 0 inside ∙ ap (λ (l : List ℕ). get_or l i 0) (sym loop.invariant.2) ∙ get_or-drop 512 loop.lent i 0 in (
      omega arith,
      simp length-set loop.invariant.1,
      drop-set-lt 512 loop.lent i (get_or loop.lent (512 + i) 0) inside ∙ loop.invariant.2,
      ap (λ (a : ℕ). sets (set loop.lent i a) (i + 1) (drop (i + 1) (part_in old))) (sym same) ∙ sets-turn loop.lent i (part_in old) i (omega arith) ∙ loop.invariant.3,
    )

pub shape_of-lent : goal.shape_of-lent
shape_of-lent c = c.loop-i.invariant.1

pub returns : goal.returns
returns c =
    let loop = c.loop-i in
    let old = c.args.lent.now in
    let long : length (part_in old) ≡ 512 = length-take 512 (drop 512 old) ∙ omega (arith, length-drop 512 old, c.requires) in
    sets-done loop.lent loop.i (part_in old) loop.i (omega (arith, c.loop-i-test.false)) ∙ loop.invariant.3
