use borrow.Author.Rules.{rules}
use mathlib.Core.Bool.{false}
use mathlib.Core.Path.{◌≡◌, sym, ap, ap₂, subst, ◌∙◌}
use native.Mathlib.Omega.{arith}
use Prim.Native.Nat.{ℕ, ◌+◌, ◌-◌, ◌/◌, ◌%◌, ◌≤◌}
use lib.IntN.{nat_abs}
use lib.ListN.{length}
use Rattle.numbers.specs.BigEndian.{word}
use Rattle.numbers.proofs.BigEndian.{Octets}
use Rattle.numbers.proofs.Signed.{seen_is}
use Rattle.source.proofs.Packets.{all_left, room_left}
use Rattle.engine.specs.Windows.{held, within, turned}
use Rattle.engine.specs.Settled.{top_of}
use Rattle.engine.proofs.Counts.{part_some, misfit_of}
use Rattle.engine.proofs.InRow.{packets_wired, first_outside}
use Rattle.engine.proofs.Marked.{no_fours, some_fours}
use Rattle.engine.proofs.stretches.count_part.Lts.View.{up-After-magnitude, up-After-number-first}
use Rattle.engine.proofs.stretches.count_part.Goals.{After-magnitude, After-number-first, After-shared_slice_known-1, Then-below-ge-WIDE}
use Rattle.engine.proofs.stretches.count_part.Goals as goal

octets : (c : After-shared_slice_known-1) → Octets c.args.records.now
octets c i = omega (arith, c.shared_slice_known-1.given i)

-- the first number, where it stands
first_is : (c : After-number-first) → c.number-first.result ≡ word 2 c.args.records.now (c.args.width - 4)
first_is c =
    let a = c.args in
    let e : 0 + (a.width - 4) ≡ a.width - 4 = omega arith in
    c.number-first.ensures.0 ∙ ap (word 2 a.records.now) e

-- the top of the record's window
top-is : (c : After-magnitude) → c.magnitude.result % 65536 + 40 ≡ top_of c.args.s
top-is c =
    let z = c.args.s.highest.0 in
    ap (λ (m : ℕ). m % 65536 + 40) (c.magnitude.ensures ∙ ap nat_abs (seen_is z (search rules)))

-- the first number lies outside it
outside : (c : Then-below-ge-WIDE) → within (top_of c.args.s) (held c.args.width c.args.records.now) ≡ false
outside c =
    let first = first_is (up-After-number-first _ _ _ _ c.before.before.before.before) in
    let far : 64 ≤ (top_of c.args.s + 65536 - word 2 c.args.records.now (c.args.width - 4)) % 65536 =
    subst (λ (x : ℕ). 64 ≤ x) (ap₂ (λ (top first : ℕ). (top + 65536 - first) % 65536) (top-is (up-After-magnitude _ _ _ _ c.before.before)) first)
    c.if-below-ge-WIDE.true in
    first_outside (top_of c.args.s) c.args.width c.args.records.now c.args.n c.requires.0 far

pub number-first-requires : goal.number-first-requires
number-first-requires c =
    let h = c.requires.0 in (
      h.wide,
      room_left c.args.width c.args.records.now 0 (all_left c.args.width c.args.records.now h.whole)
          (part_some c.args.width c.args.records.now c.args.n h),
    )

pub returns-then-fours-gt0 : goal.returns-then-fours-gt0
returns-then-fours-gt0 c =
    let a = c.args in
    let s = a.records.now in (
      some_fours (held a.width s) (omega (arith, c.if-fours-gt0.true, c.fours.ensures)),
      packets_wired a.width (length s / a.width) s
          (octets (goal.at.returns-then-fours-gt0 c).After-shared_slice_known-1),
    )

pub returns-then-below-ge-WIDE : goal.returns-then-below-ge-WIDE
returns-then-below-ge-WIDE c =
    let a = c.args in
    let s = a.records.now in (
      (no_fours (held a.width s) (omega (arith, c.if-fours-gt0.false, c.fours.ensures)), outside (goal.at.returns-then-below-ge-WIDE c).Then-below-ge-WIDE),
      packets_wired a.width (length s / a.width) s (octets (goal.at.returns-then-below-ge-WIDE c).After-shared_slice_known-1),
    )

pub placed-requires : goal.placed-requires
placed-requires c =
    record {
      held = (c.requires.0, c.requires.1);
      from_first = (first_is (goal.at.placed-requires c).After-number-first, sym c.in-Some.is ∙ c.marks.ensures);
    }

pub returns-in-Some : goal.returns-in-Some
returns-in-Some c =
    let a = c.args in
    let s = a.records.now in
    (c.placed.ensures, packets_wired a.width (length s / a.width) s (octets (goal.at.returns-in-Some c).After-shared_slice_known-1))

pub returns-in-None : goal.returns-in-None
returns-in-None c =
    let a = c.args in
    let s = a.records.now in (
      misfit_of (turned c.number-first.result) (held a.width s) (sym c.in-None.is ∙ c.marks.ensures),
      packets_wired a.width (length s / a.width) s
          (octets (goal.at.returns-in-None c).After-shared_slice_known-1),
    )
