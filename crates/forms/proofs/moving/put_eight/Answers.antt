use borrow.Author.Rules.{rules}
use mathlib.Core.Path.{◌≡◌, refl, ◌∙◌}
use Prim.Native.Nat.{◌+◌}
use native.Mathlib.Nat.{add-zero, add_assoc}
use native.Mathlib.Omega.{arith}
use lib.ListN.{length, take, drop, get_or, length-set, length-drop}
use lib.Seq.{get_or-drop, get_or-take, length-take-le}
use Rattle.answers.proofs.Stores.{sets-turn, sets-done}
use Rattle.forms.proofs.moving.put_eight.Goals as goal

pub loop-i-init : goal.loop-i-init
loop-i-init c = (search rules, refl, rw add-zero)

pub loop-i-preserved : goal.loop-i-preserved
loop-i-preserved c =
    let a = c.args in
    let loop = c.loop-i in
    let eight = take 8 (drop a.from a.s.now) in
    let long : length eight ≡ 8 = length-take-le 8 (drop a.from a.s.now) (rw length-drop (omega arith)) in
    let same : get_or eight loop.i 0 ≡ get_or a.s.now (a.from + loop.i) 0 =
    get_or-take 8 (drop a.from a.s.now) loop.i 0 c.loop-i-test.true ∙ get_or-drop a.from a.s.now loop.i 0 in (
      search rules,
      simp length-set loop.invariant.1,
      rw (← same, ← add_assoc a.at loop.i 1, sets-turn loop.out (a.at + loop.i) eight loop.i (omega arith)) loop.invariant.2,
    )

pub returns : goal.returns
returns c =
    let a = c.args in
    let loop = c.loop-i in
    let eight = take 8 (drop a.from a.s.now) in
    let long : length eight ≡ 8 = length-take-le 8 (drop a.from a.s.now) (rw length-drop (omega arith)) in
    sets-done loop.out (a.at + loop.i) eight loop.i (omega (arith, c.loop-i-test.false)) ∙ loop.invariant.2
