use mathlib.Core.Path.{refl, sym, subst}
use native.Mathlib.Omega.{arith}
use Prim.Native.Nat.{ℕ, ◌-◌, ◌*◌, ◌^◌, ◌<◌}
use lib.ListN.{length, get_or, drop, length-take, length-drop}
use lib.Seq.{take_all}
use Rattle.answers.proofs.Conditions.{was_true}
use Rattle.capi.specs.TableWalks.{Fine, Told}
use Rattle.capi.proofs.Walked.{turn, first_word, start, named, told_last, told_zeros}
use Rattle.capi.proofs.table_walk.walk.Goals.{Else-not-is_fine}
use Rattle.capi.proofs.table_walk.walk.Goals as goal

pub loop-i-init : goal.loop-i-init
loop-i-init c = let a = c.args in (omega arith, (λ h. absurd (omega arith)), start a.words.now a.n)

pub is_fine-requires : goal.is_fine-requires
is_fine-requires c =
    let l = c.loop-i in
    let words = c.args.words.now in
    let at = 11 * l.i in
    omega (arith, length-take (length words - at) (drop at words), length-drop at words)

-- the first place that is not fine
pub returns-then-not-is_fine : goal.returns-then-not-is_fine
returns-then-not-is_fine c = λ h.
    let l = c.loop-i in
    let a = c.args in
    let p = c.requires in
    let words = a.words.now in
    let z = c.ended.ensures h in
    let n = l.invariant.1 (omega (arith, z.1, h)) in
    let bits : (j : ℕ) → get_or a.words.now j 0 < 2 ^ 64 = λ j. (c.type_inv.words j).fits in
    subst (λ (j : ℕ). Told words a.ssrc j) (sym z.1) (told_zeros words a.n a.ssrc l.at bits p.0 p.1 l.least l.i z.0 l.invariant.2 n)

-- a place that is fine
fine : (c : Else-not-is_fine) → Fine c.loop-i.least (drop (11 * c.loop-i.i) c.args.words.now)
fine c =
    let l = c.loop-i in
    let words = c.args.words.now in
    let at = 11 * l.i in
    let rest = take_all (length words - at) (drop at words) (omega (arith, length-drop at words)) in
    subst (Fine l.least) rest (c.is_fine.ensures (was_true refl c.if-not-is_fine.false))

pub overflow_add-least : goal.overflow_add-least
overflow_add-least c =
    let f = fine (goal.at.overflow_add-least c).Else-not-is_fine in
    let l = c.loop-i in
    omega (arith, f.ssrc, first_word c.args.words.now (11 * l.i))

pub loop-i-preserved : goal.loop-i-preserved
loop-i-preserved c =
    let l = c.loop-i in
    let a = c.args in
    let words = a.words.now in (
      omega arith,
      named words a.ssrc l.i l.at c.chosen-at.result c.chosen-at.ensures l.invariant.1,
      turn words a.n l.least l.i c.loop-i-test.true l.invariant.2 (fine (goal.at.loop-i-preserved c).Else-not-is_fine),
    )

-- all were fine
pub returns : goal.returns
returns c = λ h.
    let l = c.loop-i in
    let a = c.args in
    let p = c.requires in
    let bits : (j : ℕ) → get_or a.words.now j 0 < 2 ^ 64 = λ j. (c.type_inv.words j).fits in
    told_last a.words.now a.n a.ssrc l.at bits p.0 p.1 l.least l.i c.loop-i-test.false l.invariant.2 (l.invariant.1 h)
