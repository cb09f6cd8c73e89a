use borrow.Author.Rules.{rules}
use mathlib.Core.Path.{◌≡◌, sym, ap, subst, ◌∙◌}
use native.Mathlib.Omega.{arith}
use Prim.Native.Nat.{ℕ, ◌+◌, ◌%◌}
use lib.IntN.{nat_abs}
use Rattle.numbers.proofs.Signed.{seen_is}
use Rattle.source.proofs.Facts.{facts, some_has_counted}
use Rattle.engine.specs.Windows.{held, turned, found_in}
use Rattle.engine.specs.Settled.{top_of, ShiftedBy}
use Rattle.engine.proofs.Placing.{scan_fit, scan_of_lem, scan_strays, found_at, found_none, up_few, more_few, settled_is}
use Rattle.engine.proofs.stretches.placed.Lts.View.{up-After-magnitude}
use Rattle.engine.proofs.stretches.placed.Goals.{After-find, After-magnitude}
use Rattle.engine.proofs.stretches.placed.Goals as goal

-- the highest number without its sign
size : (c : After-magnitude) → c.magnitude.result ≡ nat_abs c.args.s.highest.0
size c = c.magnitude.ensures ∙ ap nat_abs (seen_is c.args.s.highest.0 (search rules))

-- what is found, in the record's own window
told : (c : After-find) → c.find.result ≡ found_in (top_of c.args.s) (held c.args.width c.args.records.now)
told c =
    c.find.ensures
    ∙ ap (λ (m : ℕ). found_in (m % 65536 + 40) (held c.args.width c.args.records.now)) (size (up-After-magnitude _ _ _ _ c.before.before))

pub find-requires : goal.find-requires
find-requires c =
    record {
      held = (c.requires.held.0, omega arith);
      from_first = (
        c.requires.from_first.0,
        scan_strays c.args.width c.args.records.now c.args.n (turned c.args.first) c.requires.held.0 c.args.scan
            c.requires.from_first.1,
      );
    }

pub returns-in_default : goal.returns-in_default
returns-in_default c = (
  scan_fit c.args.width c.args.records.now c.args.n (turned c.args.first) c.requires.held.0 c.args.scan c.requires.from_first.1,
  found_none (top_of c.args.s) (held c.args.width c.args.records.now) (sym c.in_default.is ∙ told (goal.at.returns-in_default c).After-find),
)

pub moved_on-requires : goal.moved_on-requires
moved_on-requires c =
    (facts c.args.s (some_has_counted c.args.s c.requires.held.1.good c.requires.held.1.some)).fits

pub settled-requires : goal.settled-requires
settled-requires c =
    let s = c.args.records.now in
    let ps = held c.args.width s in
    let top = top_of c.args.s in
    let at = found_at top _ ps (sym c.in-Some.is ∙ told (goal.at.settled-requires c).After-find) in
    let of = scan_of_lem c.args.width s c.args.n (turned c.args.first) c.requires.held.0 c.args.scan c.requires.from_first.1 in
    let by = subst (λ (b : ℕ). ShiftedBy c.args.s.history b c.moved_on.result) at.1 c.moved_on.ensures in
    record {
      roomy = c.requires.held.1;
      few = c.requires.held.0.few;
      marks = of.sum;
      up = up_few top c.args.s c.args.n c.args.scan c.moved_on.result ps at.0 of by;
      more = more_few top c.args.s c.args.n c.args.scan c.moved_on.result ps at.0 of by;
    }

pub returns : goal.returns
returns c =
    let s = c.args.records.now in
    let ps = held c.args.width s in
    let top = top_of c.args.s in
    let at = found_at top _ ps (sym c.in-Some.is ∙ told (goal.at.returns c).After-find) in
    let of = scan_of_lem c.args.width s c.args.n (turned c.args.first) c.requires.held.0 c.args.scan c.requires.from_first.1 in
    let by = subst (λ (b : ℕ). ShiftedBy c.args.s.history b c.moved_on.result) at.1 c.moved_on.ensures in (
      scan_fit c.args.width s c.args.n (turned c.args.first) c.requires.held.0 c.args.scan c.requires.from_first.1,
      at.0,
      c.settled.ensures ∙ settled_is top c.args.s c.args.n c.args.scan c.moved_on.result ps at.0 of by,
    )
