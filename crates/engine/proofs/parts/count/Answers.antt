use borrow.Author.Rules.{rules}
use mathlib.Core.Path.{◌≡◌, sym, subst}
use mathlib.Core.Bool.{true}
use mathlib.Core.List.{List}
use native.Mathlib.Omega.{arith}
use Prim.Native.Nat.{ℕ, ◌+◌, ◌-◌, ◌*◌, ◌^◌, ◌<◌}
use lib.ListN.{take, drop}
use Rattle.source.specs.Blocks.{marks_fit}
use Rattle.engine.specs.Limits.{Held}
use Rattle.engine.specs.Windows.{held, wired}
use Rattle.engine.specs.Settled.{PartIs}
use Rattle.engine.specs.Lean.{RunOf}
use Rattle.engine.proofs.Parting.{parting_start, parting_end, part_some, part_left, part_room, part_held}
use Rattle.engine.proofs.Parting.{part_roomy, part_size, part_misfit, part_behind, part_counted, parting_same}
use Rattle.engine.proofs.parts.count.Lts.View.{up-After-count_part, up-After-part_size-few}
use Rattle.engine.proofs.parts.count.Goals.{After-count-run, After-count_part, After-part_size-few, In-Outside}
use Rattle.engine.proofs.parts.count.Goals.{in-Counted, in-Outside}
use Rattle.engine.proofs.parts.count.Goals as goal

-- the bytes of the part, as the code cuts them
cut : (at size : ℕ) → at + size - at ≡ size
cut at size = omega arith

-- the part's records
abbrev bytes : (c : After-part_size-few) → List ℕ
bytes c = take (c.part_size-few.result * c.args.width) (drop c.loop-left.at c.args.records.now)

-- what counting it gave
given : (c : After-count_part)
    → PartIs c.loop-left.next (held c.args.width (bytes (up-After-part_size-few _ _ _ _ _ _ c.before.before.before))) c.count_part.result
    × (wired (held c.args.width (bytes (up-After-part_size-few _ _ _ _ _ _ c.before.before.before))) ≡ true)
given c =
    let a = c.args in
    let l = c.loop-left in
    subst (λ (size : ℕ). PartIs l.next (held a.width (take size (drop l.at a.records.now))) c.count_part.result
    × (wired (held a.width (take size (drop l.at a.records.now))) ≡ true))
    (cut l.at (c.part_size-few.result * a.width)) c.count_part.ensures

-- what counting it record by record gave
ran : (c : After-count-run)
    → RunOf c.loop-left.next (held c.args.width (bytes (up-After-part_size-few _ _ _ _ _ _ c.before.before.before.before.before.before))) c.count-run.result
ran c =
    let a = c.args in
    let l = c.loop-left in
    subst (λ (size : ℕ). RunOf l.next (held a.width (take size (drop l.at a.records.now))) c.count-run.result) (cut l.at (c.part_size-few.result * a.width))
    c.count-run.ensures

-- the record that it gave is one of the program's
recent-of : (c : After-count-run) → c.count-run.result.source.history.recent < 2 ^ 64
recent-of c = let k = c.count-run.type_inv in omega (arith, k)

-- whether its marks fit where it is to be counted so
fits : (c : In-Outside) → marks_fit (held c.args.width (bytes (up-After-part_size-few _ _ _ _ _ _ c.before.before.before.before))) ≡ true
fits c =
    let a = c.args in
    (subst (PartIs c.loop-left.next (held a.width (bytes (up-After-part_size-few _ _ _ _ _ _ c.before.before.before.before)))) c.in-Outside.is
    (given (up-After-count_part _ _ _ _ _ _ c.before.before)).0).0

pub loop-left-init : goal.loop-left-init
loop-left-init c =
    parting_start c.args.width c.args.records.now c.args.s c.requires.0 c.requires.1 (search rules)

pub overflow_mul-end : goal.overflow_mul-end
overflow_mul-end c =
    let r = part_room c.args.width c.args.records.now c.args.s c.loop-left.invariant c.part_size-few.result c.part_size-few.ensures in omega arith

pub overflow_add-end : goal.overflow_add-end
overflow_add-end c =
    let r = part_room c.args.width c.args.records.now c.args.s c.loop-left.invariant c.part_size-few.result c.part_size-few.ensures in omega arith

pub slice_bounds-count_part-count : goal.slice_bounds-count_part-count
slice_bounds-count_part-count c = omega arith

pub slice_bounds-count_part-start : goal.slice_bounds-count_part-start
slice_bounds-count_part-start c = omega arith

pub slice_bounds-count_part-end : goal.slice_bounds-count_part-end
slice_bounds-count_part-end c =
    part_room c.args.width c.args.records.now c.args.s c.loop-left.invariant c.part_size-few.result c.part_size-few.ensures

pub count_part-requires : goal.count_part-requires
count_part-requires c =
    let a = c.args in
    let l = c.loop-left in (
      subst (λ (size : ℕ). Held a.width (take size (drop l.at a.records.now)) c.part_size-few.result) (sym (cut l.at (c.part_size-few.result * a.width)))
          (part_held c.args.width c.args.records.now c.args.s c.loop-left.invariant c.part_size-few.result c.part_size-few.ensures),
      part_roomy c.args.width c.args.records.now c.args.s c.loop-left.invariant c.part_size-few.result c.part_size-few.ensures,
    )

pub returns-in-Misfit : goal.returns-in-Misfit
returns-in-Misfit c =
    part_misfit c.args.width c.args.records.now c.args.s c.loop-left.invariant c.part_size-few.result c.part_size-few.ensures
    (subst (PartIs c.loop-left.next (held c.args.width (bytes (goal.at.returns-in-Misfit c).After-part_size-few))) c.in-Misfit.is
    (given (goal.at.returns-in-Misfit c).After-count_part).0)

pub slice_bounds-count-count : goal.slice_bounds-count-count
slice_bounds-count-count c = omega arith

pub slice_bounds-count-start : goal.slice_bounds-count-start
slice_bounds-count-start c = omega arith

pub slice_bounds-count-end : goal.slice_bounds-count-end
slice_bounds-count-end c =
    part_room c.args.width c.args.records.now c.args.s c.loop-left.invariant c.part_size-few.result c.part_size-few.ensures

pub count-run-requires : goal.count-run-requires
count-run-requires c =
    let a = c.args in
    let l = c.loop-left in
    let size = sym (cut l.at (c.part_size-few.result * a.width)) in
    record {
      held = (
        subst (λ (size : ℕ). Held a.width (take size (drop l.at a.records.now)) c.part_size-few.result) size
            (part_held c.args.width c.args.records.now c.args.s c.loop-left.invariant c.part_size-few.result c.part_size-few.ensures),
        part_roomy c.args.width c.args.records.now c.args.s c.loop-left.invariant c.part_size-few.result c.part_size-few.ensures,
        subst (λ (size : ℕ). marks_fit (held a.width (take size (drop l.at a.records.now))) ≡ true) size (fits (goal.at.count-run-requires c).In-Outside),
      );
      wired = subst (λ (size : ℕ). wired (held a.width (take size (drop l.at a.records.now))) ≡ true) size
          (given (goal.at.count-run-requires c).After-count_part).1;
    }

pub overflow_add-jumps : goal.overflow_add-jumps
overflow_add-jumps c =
    omega (
      arith,
      (ran (goal.at.overflow_add-jumps c).After-count-run).few_jumps,
      part_size c.args.width c.args.records.now c.args.s c.loop-left.invariant
          c.part_size-few.result c.part_size-few.ensures,
      part_left c.args.width c.args.records.now c.args.s c.loop-left.invariant c.part_size-few.result
          c.part_size-few.ensures,
      c.loop-left.invariant.few_jumps,
    )

pub overflow_add-restarts : goal.overflow_add-restarts
overflow_add-restarts c =
    omega (
      arith,
      (ran (goal.at.overflow_add-restarts c).After-count-run).few_restarts,
      part_size c.args.width c.args.records.now c.args.s
          c.loop-left.invariant c.part_size-few.result c.part_size-few.ensures,
      part_left c.args.width c.args.records.now c.args.s c.loop-left.invariant
          c.part_size-few.result c.part_size-few.ensures,
      c.loop-left.invariant.few_restarts,
    )

pub overflow_sub-left : goal.overflow_sub-left
overflow_sub-left c =
    part_left c.args.width c.args.records.now c.args.s c.loop-left.invariant c.part_size-few.result c.part_size-few.ensures

pub loop-left-smaller : goal.loop-left-smaller
loop-left-smaller c =
    let r = part_some c.args.width c.args.records.now c.args.s c.loop-left.invariant c.part_size-few.result c.part_size-few.ensures in let l = part_left
    c.args.width c.args.records.now c.args.s c.loop-left.invariant c.part_size-few.result c.part_size-few.ensures in omega arith

pub loop-left-preserved : goal.loop-left-preserved
loop-left-preserved c =
    let p = (goal.at.loop-left-preserved c).After-part_size-few in
    let a = c.args in
    let l = c.loop-left in
    let few = c.part_size-few in
    let g = given (goal.at.loop-left-preserved c).After-count_part in
    let part = PartIs l.next (held a.width (bytes p)) in
    elim c.match-count_part.branch [
      | in-Counted w ↦
          let is = subst part w.in-Counted.is g.0 in
          let on = part_counted a.width a.records.now a.s l.invariant few.result few.ensures g.1 is.0 is.1 is.2 in
          parting_same a.width a.records.now a.s (l.at + few.result * a.width) (l.left - few.result) w.next-is w.jumps-is w.restarts-is on
      | in-Outside w ↦
          let fits = (subst part w.in-Outside.is g.0).0 in
          let ran : RunOf l.next (held a.width (bytes p)) w.count-run.result =
          subst (λ (size : ℕ). RunOf l.next (held a.width (take size (drop l.at a.records.now))) w.count-run.result) (cut l.at (few.result * a.width))
          w.count-run.ensures in
          let k = w.count-run.type_inv in
          let recent : w.count-run.result.source.history.recent < 2 ^ 64 = omega (arith, k) in
          let on = part_behind a.width a.records.now a.s l.invariant few.result few.ensures fits ran recent in
          parting_same a.width a.records.now a.s (l.at + few.result * a.width) (l.left - few.result) w.next-is w.jumps-is w.restarts-is on
    ]

pub returns : goal.returns
returns c =
    let a = c.args in
    parting_end a.width a.records.now a.s c.loop-left.invariant c.loop-left-test.false
