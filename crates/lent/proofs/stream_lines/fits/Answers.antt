use mathlib.Core.Path.{ap}
use native.Mathlib.Omega.{arith}
use Prim.Native.Nat.{ℕ, ◌^◌}
use borrow.Author.Tests.{lt-ltb, le-ltb}
use lib.Dec.{leb}
use lib.ListN.{get_or}
use Rattle.lent.proofs.stream_lines.fits.Goals as goal

pub returns-then-word_at-ge-SSRCS : goal.returns-then-word_at-ge-SSRCS
returns-then-word_at-ge-SSRCS c = let line = c.args.line.now in rw (le-ltb (get_or line 0 0) (2 ^ 32) (omega (arith, c.word_at.ensures, c.if-word_at-ge-SSRCS.true)))

pub returns : goal.returns
returns c =
    let line = c.args.line.now in
    rw (lt-ltb (get_or line 0 0) (2 ^ 32) (omega (arith, c.word_at.ensures, c.if-word_at-ge-SSRCS.false))) (ap (λ (n : ℕ). leb n 65536) c.word_at-2.ensures)
