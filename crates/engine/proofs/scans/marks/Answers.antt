use mathlib.Core.Path.{refl}
use native.Mathlib.Omega.{arith}
use Rattle.engine.specs.Windows.{held}
use Rattle.engine.proofs.Marked.{some_fours, twice_fit, ones-fit, ones_is, zeros_fit, halves_fit, zeros_is}
use Rattle.engine.proofs.Marked.{threes_fit, twos_is, known_whole, known_halves, known_threes, known_all, scanned_is}
use Rattle.engine.proofs.scans.marks.Goals as goal

pub returns-then-sums-gt0 : goal.returns-then-sums-gt0
returns-then-sums-gt0 c =
    let a = c.args in
    rw (some_fours (held a.width a.records.now) (omega (arith, c.if-sums-gt0.true, c.added-sums.ensures.fours)))

pub overflow_sub-ones : goal.overflow_sub-ones
overflow_sub-ones c =
    let d = c.added-sums in
    let s = c.args.records.now in
    let h = c.requires.0 in
    let none = c.if-sums-gt0.false in
    twice_fit c.args.n d.result.whole d.result.halves d.result.threes _ _ _ _ (known_whole c.args.width s c.args.n c.args.turned d.result h d.ensures none)
    (known_halves c.args.width s c.args.n c.args.turned d.result h d.ensures none)
    (known_threes c.args.width s c.args.n c.args.turned d.result h d.ensures none)
    (known_all c.args.width s c.args.n c.args.turned d.result h d.ensures none)

pub overflow_sub-ones-2 : goal.overflow_sub-ones-2
overflow_sub-ones-2 c =
    let d = c.added-sums in
    let s = c.args.records.now in
    let h = c.requires.0 in
    let none = c.if-sums-gt0.false in
    ones-fit c.args.n d.result.whole d.result.halves d.result.threes _ _ _ _ (known_whole c.args.width s c.args.n c.args.turned d.result h d.ensures none)
    (known_halves c.args.width s c.args.n c.args.turned d.result h d.ensures none)
    (known_threes c.args.width s c.args.n c.args.turned d.result h d.ensures none)
    (known_all c.args.width s c.args.n c.args.turned d.result h d.ensures none)

pub overflow_sub-result : goal.overflow_sub-result
overflow_sub-result c =
    let d = c.added-sums in
    let s = c.args.records.now in
    let h = c.requires.0 in
    let none = c.if-sums-gt0.false in
    zeros_fit c.args.n d.result.whole d.result.halves d.result.threes _ _ _ _ (known_whole c.args.width s c.args.n c.args.turned d.result h d.ensures none)
    (known_halves c.args.width s c.args.n c.args.turned d.result h d.ensures none)
    (known_threes c.args.width s c.args.n c.args.turned d.result h d.ensures none)
    (known_all c.args.width s c.args.n c.args.turned d.result h d.ensures none)

pub overflow_sub-result-2 : goal.overflow_sub-result-2
overflow_sub-result-2 c =
    let d = c.added-sums in
    let s = c.args.records.now in
    let h = c.requires.0 in
    let none = c.if-sums-gt0.false in
    halves_fit c.args.n d.result.whole d.result.halves d.result.threes _ _ _ _ (known_whole c.args.width s c.args.n c.args.turned d.result h d.ensures none)
    (known_halves c.args.width s c.args.n c.args.turned d.result h d.ensures none)
    (known_threes c.args.width s c.args.n c.args.turned d.result h d.ensures none)
    (known_all c.args.width s c.args.n c.args.turned d.result h d.ensures none)

pub overflow_sub-result-3 : goal.overflow_sub-result-3
overflow_sub-result-3 c =
    let d = c.added-sums in
    let s = c.args.records.now in
    let h = c.requires.0 in
    let none = c.if-sums-gt0.false in
    threes_fit c.args.n d.result.whole d.result.halves d.result.threes _ _ _ _ (known_whole c.args.width s c.args.n c.args.turned d.result h d.ensures none)
    (known_halves c.args.width s c.args.n c.args.turned d.result h d.ensures none)
    (known_threes c.args.width s c.args.n c.args.turned d.result h d.ensures none)
    (known_all c.args.width s c.args.n c.args.turned d.result h d.ensures none)

pub returns : goal.returns
returns c =
    let d = c.added-sums in
    let s = c.args.records.now in
    let h = c.requires.0 in
    let none = c.if-sums-gt0.false in
    let w = known_whole c.args.width s c.args.n c.args.turned d.result h d.ensures none in
    let v = known_halves c.args.width s c.args.n c.args.turned d.result h d.ensures none in
    let t = known_threes c.args.width s c.args.n c.args.turned d.result h d.ensures none in
    let all = known_all c.args.width s c.args.n c.args.turned d.result h d.ensures none in
    scanned_is c.args.width s c.args.n c.args.turned d.result h d.ensures none
    (zeros_is c.args.n d.result.whole d.result.halves d.result.threes _ _ _ _ w v t all)
    (ones_is c.args.n d.result.whole d.result.halves d.result.threes _ _ _ _ w v t all)
    (twos_is c.args.n d.result.whole d.result.halves d.result.threes _ _ _ _ w v t all)
    t
    refl
