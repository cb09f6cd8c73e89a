use mathlib.Core.Path.{sym, ap, subst, ◌∙◌}
use Prim.Native.Nat.{ℕ, ◌+◌, ◌≤◌}
use lib.ListN.{length, drop, take, replicate}
use lib.Seq.{sets}
use Rattle.sources.specs.declared.Table.{Table}
use Rattle.sources.specs.Places.{empty_place}
use Rattle.sources.proofs.Lent.{in_use_le, in_use_most, sets-place, sets-none, loaded_is}
use Rattle.sources.proofs.lending.load.Goals as goal

pub loop-i-init : goal.loop-i-init
loop-i-init c =
    let ps = c.args.places.now in
    let n = length ps in
    record {
      within = subst (λ (k : ℕ). k ≤ n) (sym c.in_use-n.ensures) (in_use_le n);
      few = subst (λ (k : ℕ). k ≤ 16) (sym c.in_use-n.ensures) (in_use_most n);
      count = ap (λ (t : Table). t.count) c.empty-t.ensures;
      left = ap (λ (t : Table). sets t.places 0 (take c.in_use-n.result ps)) c.empty-t.ensures;
    }

pub loop-i-preserved : goal.loop-i-preserved
loop-i-preserved c =
    let l = c.loop-i in
    let ps = c.args.places.now in
    let n = c.in_use-n.result in
    record {
      within = l.invariant.within;
      few = l.invariant.few;
      count = ap (λ (t : Table). t.count) c.with_place-t.ensures ∙ l.invariant.count;
      left =
          ap (λ (t : Table). sets t.places (l.i + 1) (drop (l.i + 1) (take n ps))) c.with_place-t.ensures
          ∙ sets-place ps n l.i l.t.places c.loop-i-test.true l.invariant.within ∙ l.invariant.left;
    }

pub returns : goal.returns
returns c =
    let l = c.loop-i in
    let ps = c.args.places.now in
    let n = c.in_use-n.result in
    (λ j. record {
      places = (sym (sets-none ps n l.i l.t.places c.loop-i-test.false) ∙ l.invariant.left
          ∙ ap (λ (k : ℕ). sets (replicate 16 empty_place) 0 (take k ps)) c.in_use-n.ensures) j;
      count = l.invariant.count j;
    })
    ∙ loaded_is ps
