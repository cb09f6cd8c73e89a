use Rattle.std.specs.Prelude.{Option}
use mathlib.Core.Path.{refl, ◌∙◌, subst}
use mathlib.Core.List.{List}
use Rattle.answers.specs.declared.Refusal.{Refusal}
use native.Mathlib.Omega.{arith}
use Prim.Native.Nat.{ℕ, suc}
use Rattle.walk.specs.Pieces.{whole_in}
use Rattle.convert.specs.Tables.{ecntable}
use Rattle.convert.specs.Feeds.{through}
use Rattle.convert.specs.Passes.{PassedBy}
use Rattle.convert.proofs.Feeding.{one_whole, taken_few, one, all_refused, passed_run, passes_both}
use Rattle.convert.proofs.Fitted.{kept}
use Rattle.convert.proofs.feed_passes.from_block.Goals.{After-slice_known-2-1}
use Rattle.convert.proofs.feed_passes.from_block.Goals as goal

-- the pass over the block
first : (c : After-slice_known-2-1)
    → let a = c.args in
    let f = c.take_all-first in
    (i : ℕ) → PassedBy (one i a.block.now (whole_in a.rest.now) (kept a.run a.zeroth.now)) (kept f.result.run a.zeroth.now) f.result.bytes 0 f.result.used f.result.ended a.out.now f.new.out
first c i =
    let a = c.args in
    let f = c.take_all-first in
    subst (λ (bs : List (List ℕ)). PassedBy (through ecntable (suc i) bs (kept a.run a.zeroth.now)) (kept f.result.run a.zeroth.now) f.result.bytes 0 f.result.used f.result.ended a.out.now f.new.out)
    (one_whole a.block.now c.requires.1) (f.ensures.passed (suc i))

pub returns-in_default : goal.returns-in_default
returns-in_default c = λ i.
    let a = c.args in
    let f = c.take_all-first in
    let p = first (goal.at.returns-in_default c).After-slice_known-2-1 i in
    let e = all_refused i a.block.now (whole_in a.rest.now) (kept a.run a.zeroth.now) (p.refusal ∙ c.in_default.is) in
    rw e (passed_run p refl)

pub take_all-last-requires : goal.take_all-last-requires
take_all-last-requires c =
    let a = c.args in
    let f = c.take_all-first in
    let p = f.ensures.passed 1 in
    let block = a.block.now in
    record { sound = f.ensures.sound; short = c.requires.2; small = omega (arith, p.few, taken_few 1 block (kept a.run a.zeroth.now), c.requires.1) }

pub overflow_add-result : goal.overflow_add-result
overflow_add-result c =
    let a = c.args in
    let p = c.take_all-last.ensures.passed 1 in
    omega (arith, p.taken, taken_few 1 a.rest.now (kept c.take_all-first.result.run a.zeroth.now), c.requires.2)

pub returns : goal.returns
returns c = λ i.
    let a = c.args in
    let f = c.take_all-first in
    let p = first (goal.at.returns c).After-slice_known-2-1 i in
    let q = subst (λ (o : Option Refusal). PassedBy (one i a.block.now (whole_in a.rest.now) (kept a.run a.zeroth.now)) (kept f.result.run a.zeroth.now) f.result.bytes 0 f.result.used o a.out.now f.new.out) c.in-None.is p in
    passes_both i a.block.now (whole_in a.rest.now) (kept a.run a.zeroth.now) q (c.take_all-last.ensures.passed (suc (suc i))) f.auto.out refl
