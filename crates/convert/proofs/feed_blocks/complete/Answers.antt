use mathlib.Core.Path.{◌≡◌, ap₂, ◌∙◌}
use mathlib.Core.List.{List}
use native.Mathlib.Omega.{arith}
use Prim.Native.Nat.{ℕ, ◌-◌}
use lib.ListN.{length, drop, length-drop}
use lib.Seq.{take_all}
use Rattle.convert.specs.Passes.{added_by}
use Rattle.convert.proofs.Completing.{filled, can_add, added_is, feeds_same}
use Rattle.convert.proofs.SoundUploads.{well_formed}
use Rattle.convert.proofs.feed_blocks.complete.Goals.{After-put_bytes}
use Rattle.convert.proofs.feed_blocks.complete.Goals as goal

pub overflow_sub-missing : goal.overflow_sub-missing
overflow_sub-missing c = omega (arith, (well_formed c.requires.sound).kept)

pub overflow_add-u : goal.overflow_add-u
overflow_add-u c = omega (arith, (well_formed c.requires.sound).kept)

-- the lent bytes with the block, and the bytes after it
filled_is : (c : After-put_bytes) → let a = c.args in c.put_bytes.new.out ≡ filled a.u a.lent.now a.stretch.now (well_formed c.requires.sound) c.requires.long
filled_is c = c.put_bytes.ensures

pub add_blocks-requires : goal.add_blocks-requires
add_blocks-requires c =
    let a = c.args in
    let s = a.stretch.now in
    let m = 512 - a.u.kept in
    rw (filled_is (goal.at.add_blocks-requires c).After-put_bytes, take_all (length s - m) (drop m s) (omega (arith, length-drop m s))) (can_add a.u a.lent.now s (well_formed c.requires.sound) c.requires.long c.requires.short)

pub returns : goal.returns
returns c =
    let a = c.args in
    let s = a.stretch.now in
    let m = 512 - a.u.kept in
    let part = take_all (length s - m) (drop m s) (omega (arith, length-drop m s)) in
    feeds_same
    (ap₂ (λ (l r : List ℕ). added_by a.u l r (length a.out.now)) (filled_is (goal.at.returns c).After-put_bytes) part
    ∙ added_is a.u a.lent.now s (well_formed c.requires.sound) c.requires.long (length a.out.now))
    c.add_blocks.ensures
