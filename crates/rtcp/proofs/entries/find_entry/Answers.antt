use Rattle.std.specs.Prelude.{Some}
use Prim.Native.Nat.{ℕ, ◌+◌, ◌-◌, ◌*◌}
use mathlib.Core.Bool.{cond}
use mathlib.Core.Path.{◌≡◌, refl, ap, ap₂, ◌∙◌}
use native.Mathlib.Omega.{arith}
use lib.Dec.{eqb}
use Rattle.numbers.specs.BigEndian.{word}
use Rattle.rtcp.specs.Entries.{entry_for}
use Rattle.rtcp.proofs.Places.{place_at, place_within, entry_none, entry_more}
use Rattle.rtcp.proofs.entries.find_entry.Goals as goal

pub loop-behind-init : goal.loop-behind-init
loop-behind-init c =
    let a = c.args in
    entry_none a.size a.b.now 0 _ a.media refl

pub overflow_mul-size : goal.overflow_mul-size
overflow_mul-size c =
    let a = c.args in
    omega (arith, place_within a.size a.count c.loop-behind.behind c.loop-behind-test.true, c.requires.1)

pub overflow_add-from : goal.overflow_add-from
overflow_add-from c =
    let a = c.args in
    omega (arith, place_within a.size a.count c.loop-behind.behind c.loop-behind-test.true, c.requires.1)

pub or_behind-place-requires : goal.or_behind-place-requires
or_behind-place-requires c =
    let a = c.args in
    omega (arith, place_within a.size a.count c.loop-behind.behind c.loop-behind-test.true, c.requires.0, c.requires.1)

pub loop-behind-preserved : goal.loop-behind-preserved
loop-behind-preserved c =
    let a = c.args in
    let l = c.loop-behind in
    let at = a.from + a.size * (a.count - l.behind - 1) in
    let same : at ≡ a.from + a.size * (a.count - (l.behind + 1)) = ap (λ (n : ℕ). a.from + a.size * n) (omega arith) in
    c.or_behind-place.ensures
    ∙ ap (cond (eqb (word 4 a.b.now at) a.media) (Some at)) l.invariant
    ∙ entry_more a.size a.b.now l.behind at (a.from + a.size * (a.count - l.behind)) a.media (omega (arith, place_at a.size a.count l.behind c.loop-behind-test.true))
    ∙ ap₂ (λ (n at : ℕ). entry_for a.size n a.b.now at a.media) (omega arith) same

pub returns : goal.returns
returns c =
    let a = c.args in
    let l = c.loop-behind in
    let all : l.behind ≡ a.count = omega arith in
    let none : a.count - l.behind ≡ 0 = omega (arith, all) in
    l.invariant ∙ rw (none, all) (ap (λ (at : ℕ). entry_for a.size a.count a.b.now at a.media) (omega arith))
