use mathlib.Core.Path.{◌≡◌}
use mathlib.Core.Bool.{true, false}
use native.Mathlib.Omega.{arith}
use borrow.Author.Tests.{eq-eqb, ne_eqb}
use Rattle.convert.specs.Feeds.{ends_whole}
use Rattle.convert.proofs.SoundUploads.{closes_broken, closes_whole}
use Rattle.convert.proofs.feeds.closed.Goals as goal

pub returns-then-u-gt0 : goal.returns-then-u-gt0
returns-then-u-gt0 c = λ lent.
    let u = c.args.u in
    let part : ends_whole u ≡ false = rw (ne_eqb u.kept 0 (λ e. omega (arith, c.if-u-gt0.true, e))) in
    closes_broken u lent part c.broken.ensures

pub returns-then-u-eq0 : goal.returns-then-u-eq0
returns-then-u-eq0 c = λ lent.
    let u = c.args.u in
    let empty : ends_whole u ≡ false = rw (eq-eqb u.kept 0 (omega (arith, c.if-u-gt0.false)), eq-eqb u.blocks 0 c.if-u-eq0.true) in
    closes_broken u lent empty c.broken-then-u-eq0.ensures

pub returns : goal.returns
returns c = λ lent.
    let u = c.args.u in
    let whole : ends_whole u ≡ true = rw (eq-eqb u.kept 0 (omega (arith, c.if-u-gt0.false)), ne_eqb u.blocks 0 c.if-u-eq0.false) in
    closes_whole u lent whole
