use mathlib.Core.Path.{◌≡◌, sym, ap, subst, ◌∙◌}
use native.Mathlib.Omega.{arith}
use Prim.Native.Nat.{ℕ, ◌/◌, ◌%◌}
use lib.ListN.{length}
use Rattle.source.specs.declared.Source.{Source}
use Rattle.source.proofs.Facts.{some_has_counted}
use Rattle.source.proofs.Totalled.{length-packets}
use Rattle.engine.specs.declared.lean.Lean.{Lean}
use Rattle.engine.specs.Windows.{held}
use Rattle.engine.specs.Lean.{LeanFits, byte, begun, restored, taken_all, Behind}
use Rattle.engine.proofs.Turns.{begun_fits, run_behind}
use Rattle.engine.proofs.runs.count.Goals as goal

pub along-t-requires : goal.along-t-requires
along-t-requires c =
    let b = c.begun.ensures in (
      c.requires.held.0,
      subst (λ (t : Lean). LeanFits c.args.n t) (sym b.0) (begun_fits c.args.s c.args.n c.requires.held.1 c.requires.held.0.few b.1),
      c.requires.held.2,
    )

pub restored-requires : goal.restored-requires
restored-requires c =
    (some_has_counted c.args.s c.requires.held.1.good c.requires.held.1.some, c.along-t.ensures.1)

pub returns : goal.returns
returns c =
    let b = c.begun.ensures in
    let ps = held c.args.width c.args.records.now in
    let size : length ps ≡ c.args.n = length-packets c.args.width (length c.args.records.now / c.args.width) c.args.records.now ∙ c.requires.held.0.count in
    let state = c.along-t.ensures.0 ∙ ap (taken_all ps) b.0 in
    let source = c.restored.ensures ∙ ap (restored c.args.s) state in
    let counts = c.along-t.result.counts in
    let low : byte 0 counts ≡ counts % 256 = omega arith in
    let behind = run_behind c.args.s c.args.n c.requires.held.1 c.requires.held.0.few b.1 ps size c.requires.wired c.requires.held.2 in
    let stands = subst (λ (t : Lean). Behind c.args.s ps (restored c.args.s (taken_all ps (begun c.args.s))) (byte 0 t.counts) (byte 6 t.counts))
    (sym state) behind in
    subst (λ (x : ℕ). Behind c.args.s ps c.restored.result x (byte 6 counts)) low
    (subst (λ (x : Source). Behind c.args.s ps x (byte 0 counts) (byte 6 counts)) (sym source) stands)
