use mathlib.Core.Path.{◌∙◌, sym}
use native.Mathlib.Omega.{arith}
use Rattle.convert.proofs.Adding.{moved_later, moved_none, moved_some}
use Rattle.convert.proofs.feed_blocks.move_label.Goals as goal

pub returns-then-blocks-gt0 : goal.returns-then-blocks-gt0
returns-then-blocks-gt0 c = let a = c.args in sym (moved_later a.lent.now a.blocks a.bytes (omega (arith, c.if-blocks-gt0.true)))

pub returns-then-bytes-eq0 : goal.returns-then-bytes-eq0
returns-then-bytes-eq0 c = let a = c.args in sym (moved_none a.lent.now a.blocks a.bytes c.if-bytes-eq0.true)

pub returns : goal.returns
returns c =
    let a = c.args in
    c.move_block.ensures ∙ sym (moved_some a.lent.now a.blocks a.bytes (omega (arith, c.if-blocks-gt0.false)) (omega (arith, c.if-bytes-eq0.false)))
