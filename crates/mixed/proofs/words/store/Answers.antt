use mathlib.Core.Path.{◌≡◌, ◌∙◌}
use mathlib.Core.List.{List}
use native.Mathlib.Omega.{arith}
use Prim.Native.Nat.{ℕ, ◌-◌}
use borrow.Rule.Slice.PartMut.{put_mid, same_len_mid}
use lib.ListN.{length, set, length-set}
use Rattle.mixed.proofs.Stored.{line_stored}
use Rattle.mixed.proofs.words.store.Goals.{After-slice_known-2-1}
use Rattle.mixed.proofs.words.store.Goals as goal

-- the line with its SSRC
abbrev first : (line : List ℕ) (ssrc : ℕ) → List ℕ
first line ssrc = set line 0 ssrc

long : (line : List ℕ) (ssrc : ℕ) → length line ≡ 13 → length (first line ssrc) ≡ 13
long line ssrc h = length-set line 0 ssrc ∙ h

pub slice_bounds-store-count : goal.slice_bounds-store-count
slice_bounds-store-count c = omega (arith, long c.args.line.now c.args.ssrc c.requires)

pub slice_bounds-store-start : goal.slice_bounds-store-start
slice_bounds-store-start c = omega (arith, long c.args.line.now c.args.ssrc c.requires)

-- and with its record
abbrev second : (c : After-slice_known-2-1) → List ℕ
second c = put_mid 1 (length (first c.args.line.now c.args.ssrc) - 1) (first c.args.line.now c.args.ssrc) c.store.new.words

longer : (c : After-slice_known-2-1) → length (second c) ≡ 13
longer c =
    let front = first c.args.line.now c.args.ssrc in
    same_len_mid 1 (length front - 1) front c.store.new.words c.store.auto.words ∙ long c.args.line.now c.args.ssrc c.requires

pub bounds-line-11 : goal.bounds-line-11
bounds-line-11 c = omega (arith, longer (goal.at.bounds-line-11 c).After-slice_known-2-1)

pub bounds-line-12 : goal.bounds-line-12
bounds-line-12 c =
    omega (
      arith,
      length-set (second (goal.at.bounds-line-12 c).After-slice_known-2-1) 11 c.args.totals.jumped,
      longer (goal.at.bounds-line-12 c).After-slice_known-2-1,
    )

pub shape_of-line : goal.shape_of-line
shape_of-line c =
    let t = c.args.totals in
    length-set (set (second (goal.at.shape_of-line c).After-slice_known-2-1) 11 t.jumped) 12 t.restarts
    ∙ length-set (second (goal.at.shape_of-line c).After-slice_known-2-1) 11 t.jumped
    ∙ omega (arith, longer (goal.at.shape_of-line c).After-slice_known-2-1, c.requires)

pub returns : goal.returns
returns c =
    line_stored c.args.line.now c.store.new.words c.args.ssrc c.args.totals c.requires (long c.args.line.now c.args.ssrc c.requires) c.store.ensures
