use mathlib.Core.Path.{◌≡◌, sym, ap, ◌∙◌}
use native.Mathlib.Omega.{arith}
use Prim.Native.Nat.{◌+◌}
use borrow.Author.Tests.{le-leb}
use lib.Dec.{ltb}
use lib.ListN.{get_or}
use Rattle.sources.proofs.Held.{last_mark}
use Rattle.lent.proofs.StreamRuns.{held_is, marks}
use Rattle.lent.proofs.stream_lines.is_held.Goals as goal

pub returns-then-word_at-gt0 : goal.returns-then-word_at-gt0
returns-then-word_at-gt0 c = let line = c.args.line.now in sym (held_is line ∙ le-leb 1 (marks line) (omega (arith, c.word_at.ensures, c.if-word_at-gt0.true)))

pub returns-then-word_at-gt0-2 : goal.returns-then-word_at-gt0-2
returns-then-word_at-gt0-2 c = let line = c.args.line.now in sym (held_is line ∙ le-leb 1 (marks line) (omega (arith, c.word_at-2.ensures, c.if-word_at-gt0-2.true)))

pub returns-then-word_at-gt0-3 : goal.returns-then-word_at-gt0-3
returns-then-word_at-gt0-3 c = let line = c.args.line.now in sym (held_is line ∙ le-leb 1 (marks line) (omega (arith, c.word_at-3.ensures, c.if-word_at-gt0-3.true)))

pub returns : goal.returns
returns c =
    let line = c.args.line.now in
    let none : get_or line 3 0 + get_or line 4 0 + get_or line 5 0 ≡ 0 = omega (arith, c.word_at.ensures, c.if-word_at-gt0.false, c.word_at-2.ensures, c.if-word_at-gt0-2.false, c.word_at-3.ensures, c.if-word_at-gt0-3.false) in
    ap (ltb 0) c.word_at-4.ensures ∙ last_mark (get_or line 3 0) (get_or line 4 0) (get_or line 5 0) (get_or line 6 0) none ∙ sym (held_is line)
