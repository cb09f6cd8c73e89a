use borrow.Author.Rules.{rules}
use mathlib.Core.Path.{refl, sym, ap, subst, ◌∙◌}
use Prim.Native.Nat.{ℕ, ◌+◌, ◌≤◌}
use native.Mathlib.Omega.{arith}
use lib.ListN.{drop, take}
use Rattle.sources.specs.declared.finding.Seen.{Seen}
use Rattle.sources.specs.Seeing.{seen_from, seen_in}
use Rattle.sources.proofs.Turns.{length-mapped}
use Rattle.sources.proofs.Lent.{in_use_most}
use Rattle.sources.proofs.Sights.{seen_turn, seen_end}
use Rattle.sources.proofs.tables.find.Goals as goal

pub loop-i-init : goal.loop-i-init
loop-i-init c = (search (rules, length-mapped), (subst (λ (k : ℕ). k ≤ 16) (sym c.in_use-n.ensures) (in_use_most c.args.t.count), refl))

pub with-seen-requires : goal.with-seen-requires
with-seen-requires c = omega (arith, c.loop-i.invariant.1.0, c.loop-i-test.true)

pub loop-i-preserved : goal.loop-i-preserved
loop-i-preserved c =
    let l = c.loop-i in
    let a = c.args in
    let n = c.in_use-n.result in (
      l.invariant.0,
      (
        l.invariant.1.0,
        ap (λ (u : Seen). seen_from a.ssrc u (l.i + 1) (drop (l.i + 1) (take n a.t.places))) c.with-seen.ensures
            ∙ sym (seen_turn a.ssrc a.t.places n l.i l.seen c.loop-i-test.true (omega (arith, l.invariant.0, l.invariant.1.0))) ∙ l.invariant.1.1,
      ),
    )

pub returns : goal.returns
unfolding seen_in
returns c =
    let l = c.loop-i in
    let a = c.args in
    let n = c.in_use-n.result in
    sym (seen_end a.ssrc a.t.places n l.i l.seen c.loop-i-test.false) ∙ l.invariant.1.1
    ∙ (λ j. seen_from a.ssrc (c.start-seen.ensures j) 0 (take (c.in_use-n.ensures j) a.t.places))
