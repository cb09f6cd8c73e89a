use borrow.Author.Rules.{rules}
use mathlib.Core.Path.{◌≡◌, refl}
use Prim.Native.Nat.{suc, ◌≤◌}
use native.Mathlib.Omega.{arith}
use native.Mathlib.Numerals.{add-one}
use lib.ListN.{length, get_or}
use Rattle.answers.specs.Parts.{part_of}
use Rattle.answers.proofs.Parted.{parts_fit_lem}
use Rattle.answers.proofs.Stores.{wrote_same}
use Rattle.answers.proofs.meanings.write_part.Goals.{Start}
use Rattle.answers.proofs.meanings.write_part.Goals as goal

long : (c : Start) → length c.args.ends ≡ 20
long c = search rules

-- where the part begins and ends
inside : (c : Start) → (get_or c.args.ends c.args.n 0 ≤ get_or c.args.ends (suc c.args.n) 0) × (get_or c.args.ends (suc c.args.n) 0 ≤ length c.args.text.now)
inside c = let l = long c in parts_fit_lem c.args.ends (length c.args.text.now) c.args.n (omega (arith, c.requires)) c.requires.1

pub slice_bounds-write_text-count : goal.slice_bounds-write_text-count
slice_bounds-write_text-count c = rw add-one (inside (goal.at.slice_bounds-write_text-count c).Start).0

pub slice_bounds-write_text-start : goal.slice_bounds-write_text-start
slice_bounds-write_text-start c = rw add-one (inside (goal.at.slice_bounds-write_text-start c).Start).0

pub slice_bounds-write_text-end : goal.slice_bounds-write_text-end
slice_bounds-write_text-end c = rw add-one (inside (goal.at.slice_bounds-write_text-end c).Start).1

pub returns : goal.returns
unfolding part_of
returns c = wrote_same refl (rw add-one) c.write_text.ensures
