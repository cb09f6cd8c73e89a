use mathlib.Core.Path.{◌≡◌, sym, ap, ◌∙◌}
use Prim.Native.Nat.{ℕ, ◌*◌, ◌≤◌, ◌<◌}
use native.Mathlib.Omega.{arith}
use borrow.Author.Tests.{lt-leb, le-ltb}
use lib.ListN.{length, take}
use lib.Seq.{length-take-le}
use Rattle.format.specs.Forms.{shape_of, width}
use Rattle.format.specs.declared.Form.{Form}
use Rattle.trace.specs.Writing.{body_ok}
use Rattle.forms.specs.Conversions.{to_shape}
use Rattle.forms.proofs.Held.{not_sound, held_fits, sound_last, sound_none, body_good}
use Rattle.forms.proofs.soundness.is_sound.Goals.{After-width, Else-most-c}
use Rattle.forms.proofs.soundness.is_sound.Goals as goal

pub returns-then-part-lt-BODY_BYTES : goal.returns-then-part-lt-BODY_BYTES
returns-then-part-lt-BODY_BYTES c = let a = c.args in not_sound a.c a.part.now 0 (lt-leb _ _ c.if-part-lt-BODY_BYTES.true)

pub returns-then-most-c : goal.returns-then-most-c
returns-then-most-c c =
    let a = c.args in
    let most = c.most.ensures ∙ ap (λ (f : Form). (shape_of f).most) c.other-to.ensures in
    not_sound a.c a.part.now 1 (le-ltb a.c.held (to_shape a.c).most (omega (arith, most, c.if-most-c.true)))

-- fewer are held than a block may have
few : (c : Else-most-c) → c.args.c.held < (to_shape c.args.c).most
few c =
    let most = c.most.ensures ∙ ap (λ (f : Form). (shape_of f).most) c.other-to.ensures in
    omega (arith, most, c.if-most-c.false)

pub returns-then-c-eq0 : goal.returns-then-c-eq0
returns-then-c-eq0 c =
    let a = c.args in
    sound_none a.c a.part.now c.if-part-lt-BODY_BYTES.false (few (goal.at.returns-then-c-eq0 c).Else-most-c) c.if-c-eq0.true

-- and they lie in the part
fits : (c : After-width) → c.args.c.held * c.width.result ≤ length c.args.part.now
fits c =
    let a = c.args in
    let wide : c.width.result ≡ width (to_shape a.c) = c.width.ensures ∙ ap (λ (f : Form). width (shape_of f)) c.other-to.ensures in
    let most = c.most.ensures ∙ ap (λ (f : Form). (shape_of f).most) c.other-to.ensures in
    rw wide (held_fits a.c a.part.now c.if-part-lt-BODY_BYTES.false (omega (arith, most, c.if-most-c.false)))

pub overflow_mul-end : goal.overflow_mul-end
overflow_mul-end c = omega (arith, fits (goal.at.overflow_mul-end c).After-width)

pub slice_bounds-is_body-end : goal.slice_bounds-is_body-end
slice_bounds-is_body-end c = sym (length-take-le _ _ (fits (goal.at.slice_bounds-is_body-end c).After-width))

pub returns : goal.returns
returns c =
    let a = c.args in
    let other = c.other-to.ensures in
    let wide : c.width.result ≡ width (to_shape a.c) = c.width.ensures ∙ ap (λ (f : Form). width (shape_of f)) other in
    let inside = few (goal.at.returns c).Else-most-c in
    let room = c.if-part-lt-BODY_BYTES.false in
    let body = c.is_body.ensures ∙ ap (λ (f : Form). body_ok (shape_of f) (take (a.c.held * c.width.result) a.part.now)) other
    ∙ ap (λ (w : ℕ). body_ok (to_shape a.c) (take (a.c.held * w) a.part.now)) wide in
    sound_last a.c a.part.now room inside
    (body ∙ body_good (to_shape a.c) a.c.held a.part.now (held_fits a.c a.part.now room inside) (omega (arith, c.if-c-eq0.false)) (omega (arith, inside)))
