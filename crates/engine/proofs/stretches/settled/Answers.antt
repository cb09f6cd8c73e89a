use Rattle.std.specs.Prelude.{None}
use borrow.Author.Rules.{rules}
use mathlib.Core.Path.{◌≡◌, sym, ap, ◌∙◌}
use native.Mathlib.Omega.{arith}
use Prim.Native.Nat.{ℕ, ◌+◌, ◌-◌, ◌^◌, ◌<◌}
use lib.IntN.{ℤ, pos, nat_abs, ◌+ℤ◌}
use mir.Syntax.{w64}
use mir.Val.{to_z}
use mir.ValLaws.{to_z_pos}
use Rattle.numbers.proofs.Signed.{seen_is}
use Rattle.source.specs.declared.Source.{Source}
use Rattle.source.specs.Arrivals.{extended}
use Rattle.source.proofs.Facts.{Facts, facts, some_has_counted, highest_fits}
use Rattle.engine.specs.declared.scans.Scan.{Scan}
use Rattle.engine.specs.declared.shifts.Shifted.{Shifted}
use Rattle.engine.specs.Settled.{Added}
use Rattle.engine.proofs.stretches.settled.Goals.{After-magnitude}
use Rattle.engine.proofs.stretches.settled.Goals as goal

module _ (s : Source) (n : ℕ) (scan : Scan) (shifted : Shifted) (a : Added s n scan shifted) where
  known : Facts s
  known = facts s (some_has_counted s a.roomy.good a.roomy.some)

  high : nat_abs s.highest.0 ≡ known.high
  high = ap nat_abs known.highest

  height-small : nat_abs s.highest.0 + shifted.up < 2 ^ 63
  height-small = omega (arith, (highest_fits s known).1, a.up)

  ect0-fits : s.ect0 + scan.ect0 < 2 ^ 64
  ect0-fits = omega (arith, a.marks, a.few, known.most)

  ce-fits : s.ce + scan.ce < 2 ^ 64
  ce-fits = omega (arith, a.marks, a.few, known.most)

  duplicates-fit : s.duplicates + (n - shifted.more) < 2 ^ 64
  duplicates-fit = omega (arith, a.few, known.fewer, known.most)

-- the highest number without its sign
size : (c : After-magnitude) → c.magnitude.result ≡ nat_abs c.args.s.highest.0
size c = c.magnitude.ensures ∙ ap nat_abs (seen_is c.args.s.highest.0 (search rules))

pub overflow_add-result : goal.overflow_add-result
overflow_add-result c =
    let m = size (goal.at.overflow_add-result c).After-magnitude in
    record { fits = rw m (less (height-small c.args.s c.args.n c.args.scan c.args.shifted c.requires)) }
  where
    less : {x : ℕ} → x < 2 ^ 63 → x < 2 ^ 64
    less h = omega arith

pub overflow_cast-result : goal.overflow_cast-result
overflow_cast-result c =
    let m = size (goal.at.overflow_cast-result c).After-magnitude in
    record { sfits = rw m (height-small c.args.s c.args.n c.args.scan c.args.shifted c.requires) }

pub overflow_add-result-4 : goal.overflow_add-result-4
overflow_add-result-4 c = record { fits = ect0-fits c.args.s c.args.n c.args.scan c.args.shifted c.requires }

pub overflow_add-result-5 : goal.overflow_add-result-5
overflow_add-result-5 c = record { fits = ce-fits c.args.s c.args.n c.args.scan c.args.shifted c.requires }

pub overflow_sub-result : goal.overflow_sub-result
overflow_sub-result c = c.requires.more

pub overflow_add-result-6 : goal.overflow_add-result-6
overflow_add-result-6 c = record { fits = duplicates-fit c.args.s c.args.n c.args.scan c.args.shifted c.requires }

pub returns : goal.returns
returns c =
    let a = c.args in
    let f = known c.args.s c.args.n c.args.scan c.args.shifted c.requires in
    let m = size (goal.at.returns c).After-magnitude in
    let e : to_z w64 (c.magnitude.result + a.shifted.up) ≡ a.s.highest.0 +ℤ pos a.shifted.up =
    to_z_pos w64 (c.magnitude.result + a.shifted.up) (rw m (height-small c.args.s c.args.n c.args.scan c.args.shifted c.requires))
    ∙ ap (λ (x : ℕ). pos (x + a.shifted.up)) (m ∙ ap nat_abs f.highest) ∙ ap (λ (z : ℤ). z +ℤ pos a.shifted.up) (sym f.highest) in
    λ i. record {
      base = a.s.base;
      highest = extended (e i);
      notect = a.s.notect + a.scan.notect;
      ect1 = a.s.ect1 + a.scan.ect1;
      ect0 = a.s.ect0 + a.scan.ect0;
      ce = a.s.ce + a.scan.ce;
      duplicates = a.s.duplicates + (a.n - a.shifted.more);
      history = a.shifted.history;
      remembered = None;
    }
