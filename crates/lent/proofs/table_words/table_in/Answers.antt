use mathlib.Core.Path.{◌≡◌, sym, ap, ◌∙◌}
use native.Mathlib.Omega.{arith}
use Prim.Native.Nat.{ℕ, ◌+◌, ◌-◌, ◌*◌}
use lib.ListN.{length, set, drop, length-take, length-drop}
use lib.Seq.{sets, take_all}
use Rattle.lent.specs.TableWords.{places_by}
use Rattle.lent.specs.TableReads.{place_near, places_near}
use Rattle.lent.proofs.PlaceRuns.{take-turn, all_taken}
use Rattle.lent.proofs.table_words.table_in.Goals as goal

pub loop-i-init : goal.loop-i-init
loop-i-init c =
    let a = c.args in
    let all : a.n - 0 ≡ a.n = omega arith in
    (omega arith, ap (λ t. t.count) c.empty-t.ensures, (λ i. sets (c.empty-t.ensures i).places 0 (places_near (all i) a.words.now)))

pub place_in-requires : goal.place_in-requires
place_in-requires c =
    let l = c.loop-i in
    let words = c.args.words.now in
    let at = 11 * l.i in
    omega (arith, length-take (length words - at) (drop at words), length-drop at words)

pub loop-i-preserved : goal.loop-i-preserved
loop-i-preserved c =
    let l = c.loop-i in
    let a = c.args in
    let words = a.words.now in
    let at = 11 * l.i in
    let rest = take_all (length words - at) (drop at words) (omega (arith, length-drop at words)) in
    let here = c.place_in.ensures ∙ ap place_near rest in (
      omega arith,
      l.invariant.1,
      (λ j. sets (set l.t.places l.i (here j)) (l.i + 1) (places_near (a.n - (l.i + 1)) (drop (11 * (l.i + 1)) words)))
          ∙ take-turn a.n l.i words c.loop-i-test.true place_near l.t.places ∙ l.invariant.2,
    )

pub returns : goal.returns
unfolding places_by
returns c =
    let l = c.loop-i in
    let a = c.args in
    let none : a.n - l.i ≡ 0 = omega arith in
    let stored = ap (λ (k : ℕ). sets l.t.places l.i (places_near k (drop (11 * l.i) a.words.now))) none in
    all_taken place_near a.n a.words.now l.t (omega arith) l.invariant.1 (sym stored ∙ l.invariant.2)
