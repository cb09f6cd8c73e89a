use mathlib.Core.Path.{◌≡◌}
use mathlib.Core.Bool.{true, false}
use borrow.Author.Tests.{not-true, not-false}
use Rattle.sources.proofs.finding.judged.Goals as goal

pub returns-then-not-seen : goal.returns-then-not-seen
returns-then-not-seen c = let e : c.args.seen.ruled ≡ false = not-true _ c.if-not-seen.true in rw e

pub returns-then-not-seen-2 : goal.returns-then-not-seen-2
returns-then-not-seen-2 c =
    let s = c.args.seen in
    let e : s.ruled ≡ true = not-false _ c.if-not-seen.false in
    let f : s.sound ≡ false = not-true _ c.if-not-seen-2.true in
    rw (e, f)

pub returns : goal.returns
returns c =
    let s = c.args.seen in
    let e : s.ruled ≡ true = not-false _ c.if-not-seen.false in
    let f : s.sound ≡ true = not-false _ c.if-not-seen-2.false in
    rw (e, f)
