use mathlib.Core.Path.{◌≡◌, ap, ◌∙◌}
use native.Mathlib.Omega.{arith}
use Prim.Native.Nat.{ℕ, ◌-◌, ◌^◌, ◌<◌, ◌≤◌, min}
use borrow.Author.Tests.{ltb-true, leb-true}
use lib.Dec.{ltb, leb}
use lib.ListN.{length, get_or, drop, length-drop}
use lib.Seq.{take_all, get_or-drop}
use Rattle.answers.proofs.Conditions.{and_left, and_right}
use Rattle.lent.specs.SourceWords.{remembered_in, source_with, source_near}
use Rattle.lent.proofs.stream_lines.place_in.Goals as goal

pub overflow_cast-result : goal.overflow_cast-result
overflow_cast-result c =
    let line = c.args.line.now in
    let small : get_or line 0 0 < 2 ^ 32 = ltb-true (get_or line 0 0) (2 ^ 32) (and_left (ltb (get_or line 0 0) (2 ^ 32)) (leb (get_or line 10 0) 65536) c.requires.1) in
    omega (arith, small)

pub returns : goal.returns
returns c =
    let line = c.args.line.now in
    let rest = take_all (length line - 1) (drop 1 line) (omega (arith, length-drop 1 line)) in
    let most : get_or line 10 0 ≤ 65536 = leb-true (get_or line 10 0) 65536 (and_right (ltb (get_or line 0 0) (2 ^ 32)) (leb (get_or line 10 0) 65536) c.requires.1) in
    let last : min (get_or (drop 1 line) 9 0) 65536 ≡ get_or (drop 1 line) 9 0 = omega (arith, most, get_or-drop 1 line 9 0) in
    let near = ap (λ (n : ℕ). source_with (drop 1 line) (remembered_in n)) last in
    λ i. record { ssrc = get_or line 0 0; source = (c.read-source.ensures ∙ ap source_near rest ∙ near) i }
