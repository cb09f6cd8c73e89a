use mathlib.Core.Path.{◌≡◌, sym, ap, ◌∙◌}
use native.Mathlib.Omega.{arith}
use Prim.Native.Nat.{ℕ, ◌-◌, ◌*◌}
use lib.ListN.{drop}
use Rattle.lent.specs.TableWords.{each_below}
use Rattle.lent.proofs.PlaceRuns.{below_ends, below_goes, none_below}
use Rattle.lent.proofs.table_words.each_below.Goals as goal

pub loop-i-init : goal.loop-i-init
loop-i-init c =
    let a = c.args in
    let all : a.n - 0 ≡ a.n = omega arith in
    ap (λ (j : ℕ). each_below a.limit a.k j a.words.now) all

pub returns-then-limit-word_at : goal.returns-then-limit-word_at
returns-then-limit-word_at c =
    let l = c.loop-i in
    let a = c.args in
    sym (below_ends a.n l.i a.words.now c.loop-i-test.true a.limit a.k (omega (arith, c.word_at.ensures, c.if-limit-word_at.true))) ∙ l.invariant

pub loop-i-preserved : goal.loop-i-preserved
loop-i-preserved c =
    let l = c.loop-i in
    let a = c.args in
    sym (below_goes a.n l.i a.words.now c.loop-i-test.true a.limit a.k (omega (arith, c.word_at.ensures, c.if-limit-word_at.false))) ∙ l.invariant

pub returns : goal.returns
returns c =
    let l = c.loop-i in
    let a = c.args in
    sym (none_below a.limit a.k a.n l.i (drop (11 * l.i) a.words.now) c.loop-i-test.false) ∙ l.invariant
