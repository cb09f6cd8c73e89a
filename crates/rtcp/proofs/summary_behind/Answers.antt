use mathlib.Core.Path.{◌≡◌, sym, ap, ◌∙◌}
use mathlib.Core.List.{[], ◌∷◌}
use borrow.Author.Rules.{rules}
use Rattle.rtcp.specs.EcnReports.{summary_in}
use Rattle.rtcp.specs.Compound.{first_summary}
use Prim.Native.Nat.{◌+◌, ◌*◌}
use Rattle.rtcp.proofs.Left.{from_block, blocks_are, blocks_done, block_passes, block_goes}
use Rattle.rtcp.proofs.summary_behind.Goals as goal

pub returns-then-end-next : goal.returns-then-end-next
returns-then-end-next c =
    let a = c.args in
    let l = c.loop-at in
    sym (block_passes a.bytes.now a.media a.end l.at l.summary c.loop-at-test.true c.block_at-block.result c.block_at-block.ensures.value c.if-end-next.true)
    ∙ l.invariant ∙ blocks_are a.bytes.now a.media a.end a.from a.old

pub loop-at-preserved : goal.loop-at-preserved
loop-at-preserved c =
    let a = c.args in
    let l = c.loop-at in
    let x = c.block_at-block in
    let first : c.or_else-summary.result ≡ first_summary (l.summary ∷ summary_in x.result a.bytes.now l.at a.media ∷ []) = search rules in
    ap (from_block a.bytes.now a.media a.end (l.at + (x.result.words + 1) * 4)) first
    ∙ sym (block_goes a.bytes.now a.media a.end l.at l.summary c.loop-at-test.true x.result x.ensures.value c.if-end-next.false) ∙ l.invariant

pub returns : goal.returns
returns c =
    let a = c.args in
    let l = c.loop-at in
    sym (blocks_done a.bytes.now a.media a.end l.at l.summary c.loop-at-test.false) ∙ l.invariant ∙ blocks_are a.bytes.now a.media a.end a.from a.old
