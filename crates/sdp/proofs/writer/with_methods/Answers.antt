use mathlib.Core.Path.{◌≡◌, refl}
use Prim.Native.Nat.{◌-◌}
use native.Mathlib.Omega.{arith}
use lib.ListN.{length, drop, length-take}
use Rattle.sdp.specs.declared.Method.TheVariants.{Rtp}
use Rattle.sdp.proofs.Texting.{length-mapped, method_next, methods_done, methods_first, grown_grown, commas, left_goes, left_ends}
use Rattle.sdp.proofs.writer.with_methods.Goals as goal

pub loop-m-init : goal.loop-m-init
loop-m-init c =
    let a = c.args.a in
    (omega (arith, c.with_method-text.ensures.bounded, c.requires, length-take (a.used - 1) (drop 1 a.methods)), record { text = refl; long = refl })

pub with-requires : goal.with-requires
with-requires c = omega (arith, c.loop-m.invariant.0, c.loop-m-test.true)

pub with_method-text-requires-in-loop-m : goal.with_method-text-requires-in-loop-m
with_method-text-requires-in-loop-m c = omega (arith, c.loop-m.invariant.0, c.loop-m-test.true, c.with.ensures.long)

pub loop-m-preserved : goal.loop-m-preserved
loop-m-preserved c =
    let h = c.with_method-text-in-loop-m.ensures in (
      omega (arith, c.loop-m.invariant.0, c.loop-m-test.true, c.with.ensures.long, h.bounded),
      left_goes _ (method_next _ c.loop-m.m-index Rtp c.loop-m-test.true) c.with.ensures h.grown c.loop-m.invariant.1,
    )

pub returns : goal.returns
returns c =
    let a = c.args.a in
    let l : length a.methods ≡ 8 = search length-mapped in
    rw (methods_first a Rtp c.requires.0 l, commas)
    (grown_grown c.with_method-text.ensures.grown (left_ends (methods_done _ c.loop-m.m-index c.loop-m-test.false) c.loop-m.invariant.1))
