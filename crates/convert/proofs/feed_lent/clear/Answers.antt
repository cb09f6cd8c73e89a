use mathlib.Core.Path.{◌≡◌, ap, ◌∙◌}
use Prim.Native.Nat.{ℕ, ◌-◌}
use native.Mathlib.Omega.{arith}
use lib.ListN.{length, take, drop, replicate, length-take, length-drop}
use lib.Seq.{sets}
use Rattle.convert.proofs.Lents.{put_is_stored}
use Rattle.convert.proofs.feed_lent.clear.Goals as goal

pub returns : goal.returns
returns c =
    let a = c.args in
    let old = a.lent.now in
    let n = 1024 - a.from in
    let long : length (take n (drop a.from old)) ≡ n = length-take n (drop a.from old) ∙ omega (arith, length-drop a.from old, c.requires) in
    put_is_stored old c.fill.new.self a.from n (c.fill.ensures.len ∙ long) (omega arith)
    ∙ ap (sets old a.from) (c.fill.ensures.after (λ y e. e) ∙ ap (λ (k : ℕ). replicate k 0) long)
