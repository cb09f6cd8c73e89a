use mathlib.Core.Path.{refl, sym, ap, subst, ◌∙◌}
use Prim.Native.Nat.{ℕ, ◌+◌, ◌≤◌}
use lib.ListN.{length, drop, take}
use Rattle.sources.specs.declared.finding.Seen.{Seen}
use Rattle.sources.specs.Seeing.{seen_from, seen_in}
use Rattle.sources.proofs.Lent.{in_use_le, in_use_most}
use Rattle.sources.proofs.Sights.{seen_turn, seen_end}
use Rattle.sources.proofs.lending.find.Goals as goal

pub loop-i-init : goal.loop-i-init
loop-i-init c =
    let n = length c.args.places.now in
    record {
      within = subst (λ (k : ℕ). k ≤ n) (sym c.in_use-n.ensures) (in_use_le n);
      few = subst (λ (k : ℕ). k ≤ 16) (sym c.in_use-n.ensures) (in_use_most n);
      left = refl;
    }

pub loop-i-preserved : goal.loop-i-preserved
loop-i-preserved c =
    let l = c.loop-i in
    let a = c.args in
    let n = c.in_use-n.result in
    record {
      within = l.invariant.within;
      few = l.invariant.few;
      left =
          ap (λ (u : Seen). seen_from a.ssrc u (l.i + 1) (drop (l.i + 1) (take n a.places.now))) c.with-seen.ensures
          ∙ sym (seen_turn a.ssrc a.places.now n l.i l.seen c.loop-i-test.true l.invariant.within) ∙ l.invariant.left;
    }

pub returns : goal.returns
unfolding seen_in
returns c =
    let l = c.loop-i in
    let a = c.args in
    let n = c.in_use-n.result in
    sym (seen_end a.ssrc a.places.now n l.i l.seen c.loop-i-test.false) ∙ l.invariant.left
    ∙ (λ j. seen_from a.ssrc (c.start-seen.ensures j) 0 (take (c.in_use-n.ensures j) a.places.now))
