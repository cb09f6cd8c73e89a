use mathlib.Core.Path.{◌≡◌, sym, ap, ap₂, ◌∙◌}
use mathlib.Core.List.{List}
use Prim.Native.Nat.{ℕ, ◌+◌, ◌-◌, ◌/◌}
use native.Mathlib.Omega.{arith}
use lib.ListN.{length, drop, length-drop}
use lib.Seq.{sets, take_all}
use Rattle.convert.specs.Feeds.{left_by, rest_in, padded}
use Rattle.convert.proofs.feed_blocks.settle.Goals as goal

pub overflow_add-blocks : goal.overflow_add-blocks
overflow_add-blocks c = omega (arith, c.requires.few, c.requires.bytes)

pub keep-requires : goal.keep-requires
keep-requires c =
    let rest = c.args.rest.now in
    let from = c.left_from-from.result in
    let part = take_all (length rest - from) (drop from rest) (omega (arith, length-drop from rest)) in
    (omega (arith, ap length part, length-drop from rest, c.left_from-from.ensures.2), omega (arith, c.requires.long, c.move_label.auto.lent))

pub returns : goal.returns
returns c =
    let a = c.args in
    let rest = a.rest.now in
    let from = c.left_from-from.result in
    let left : drop from rest ≡ left_by (rest_in rest) a.passed.ended = c.left_from-from.ensures.0 rest (omega arith) in
    let part = take_all (length rest - from) (drop from rest) (omega (arith, length-drop from rest)) ∙ left in
    let size : length rest - from ≡ length (left_by (rest_in rest) a.passed.ended) = sym (length-drop from rest) ∙ ap length left in
    record {
      answer = c.answer_of.ensures;
      upload = λ i. record { run = a.passed.run; blocks = a.u.blocks + a.passed.bytes / 512; kept = size i; ended = a.passed.ended };
      keeps = c.keep.ensures ∙ ap₂ (λ (l k : List ℕ). sets l 512 (padded k)) c.move_label.ensures part;
    }
