use borrow.Author.Rules.{rules}
use mathlib.Core.Path.{◌≡◌, refl, ◌∙◌}
use Prim.Native.Nat.{◌-◌}
use native.Mathlib.Omega.{arith}
use lib.ListN.{length, take, drop, length-set, length-drop}
use lib.Seq.{length-take-le}
use Rattle.answers.proofs.Stores.{sets-done}
use Rattle.shell.proofs.Fronts.{front_same, front_turn}
use Rattle.shell.proofs.moving.move_front.Goals as goal

pub loop-i-init : goal.loop-i-init
loop-i-init c = (search rules, refl, refl, refl)

pub loop-i-preserved : goal.loop-i-preserved
loop-i-preserved c =
    let old = c.args.buffer.now in
    let loop = c.loop-i in
    let turn = c.loop-i-test.true in
    let from = c.args.from in
    let n = c.args.to - from in
    (search rules, simp length-set loop.invariant.1, front_same old loop.buffer from n loop.i turn (omega (arith, c.requires)) loop.invariant.2, front_turn old loop.buffer from n loop.i turn (omega (arith, c.requires)) loop.invariant.2 ∙ loop.invariant.3)

pub returns : goal.returns
returns c =
    let loop = c.loop-i in
    let run = take (c.args.to - c.args.from) (drop c.args.from c.args.buffer.now) in
    let long : length run ≡ c.args.to - c.args.from = length-take-le (c.args.to - c.args.from) (drop c.args.from c.args.buffer.now) (rw length-drop (omega (arith, c.requires))) in
    sets-done loop.buffer loop.i run loop.i (omega (arith, long, c.loop-i-test.false)) ∙ loop.invariant.3
