use native.Mathlib.Omega.{arith}
use Prim.Native.Nat.{◌+◌}
use mir.Syntax.{w64}
use mir.ValLaws.{to_z_pos}
use Rattle.source.specs.Arrivals.{extended}
use Rattle.source.proofs.Facts.{facts}
use Rattle.engine.specs.Lean.{byte, restored}
use Rattle.engine.proofs.lean.restored.Goals as goal

pub overflow_add-result : goal.overflow_add-result
overflow_add-result c =
    let f = facts c.args.s c.requires.0 in omega (arith, f.most, f.fewer, c.since.ensures.1)

pub overflow_add-result-2 : goal.overflow_add-result-2
overflow_add-result-2 c =
    let f = facts c.args.s c.requires.0 in omega (arith, f.most, f.fewer, c.since-2.ensures.1)

pub overflow_add-result-3 : goal.overflow_add-result-3
overflow_add-result-3 c =
    let f = facts c.args.s c.requires.0 in omega (arith, f.most, f.fewer, c.since-3.ensures.1)

pub overflow_add-result-4 : goal.overflow_add-result-4
overflow_add-result-4 c =
    let f = facts c.args.s c.requires.0 in omega (arith, f.most, f.fewer, c.since-4.ensures.1)

pub overflow_add-result-5 : goal.overflow_add-result-5
overflow_add-result-5 c =
    let f = facts c.args.s c.requires.0 in omega (arith, f.most, f.fewer, c.since-5.ensures.1)

pub returns : goal.returns
unfolding restored
returns c =
    let a = c.args in
    let p = c.requires.1 in
    λ i. record {
      base = extended (to_z_pos w64 a.t.base (omega (arith, p.base)) i);
      highest = extended (to_z_pos w64 a.t.highest (omega (arith, p.near)) i);
      notect = c.since.ensures.0 i + byte 2 a.t.counts;
      ect1 = c.since-2.ensures.0 i + byte 3 a.t.counts;
      ect0 = c.since-3.ensures.0 i + byte 4 a.t.counts;
      ce = c.since-4.ensures.0 i + byte 5 a.t.counts;
      duplicates = c.since-5.ensures.0 i + byte 1 a.t.counts;
      history = a.t.history;
      remembered = c.remembered_as-remembered.ensures i;
    }
