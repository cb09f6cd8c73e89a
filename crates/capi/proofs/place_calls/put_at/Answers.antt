use borrow.Rule.Slice.PartMut.{put_mid}
use mathlib.Core.Path.{◌≡◌, ap₂, ◌∙◌}
use mathlib.Core.List.{List}
use Prim.Native.Nat.{ℕ, ◌+◌, ◌-◌, ◌*◌}
use native.Mathlib.Omega.{arith}
use lib.ListN.{length, take, drop, length-take, length-drop}
use Rattle.lent.specs.TableWords.{place_words}
use Rattle.lent.proofs.PlaceRuns.{length-place}
use Rattle.capi.proofs.Fronts.{sets-whole}
use Rattle.capi.proofs.place_calls.put_at.Goals as goal

pub returns : goal.returns
returns c =
    let a = c.args in
    let words = a.words.now in
    let from = 11 * a.at in
    let n = from + 11 - from in
    let e : n ≡ 11 = omega arith in
    let part = take n (drop from words) in
    let long : length part ≡ length (place_words a.p) = omega
    (arith, length-place a.p, length-take n (drop from words), length-drop from words, c.requires.1) in
    ap₂ (λ (k : ℕ) (l : List ℕ). put_mid from k words l) e (c.store_place.ensures ∙ sets-whole part (place_words a.p) long)
