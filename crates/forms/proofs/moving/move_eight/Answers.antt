use mathlib.Core.Path.{◌≡◌, refl, ap, ◌∙◌}
use mathlib.Core.List.{List}
use Prim.Native.Nat.{ℕ}
use native.Mathlib.Omega.{arith}
use lib.ListN.{length, take, drop, replicate, length-drop}
use lib.Seq.{sets, length-take-le}
use Rattle.forms.proofs.Moved.{by_buffer}
use Rattle.forms.proofs.moving.move_eight.Goals as goal

pub returns : goal.returns
returns c =
    let run : List ℕ = take 8 (drop c.args.from c.args.s.now) in
    let long : length run ≡ 8 = length-take-le 8 (drop c.args.from c.args.s.now) (rw length-drop (omega (arith, c.requires.0))) in
    c.put_eight-2.ensures ∙ ap (sets c.args.out.now c.args.at) (by_buffer (replicate 8 0) run refl long c.put_eight.ensures)
