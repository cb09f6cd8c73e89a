use mathlib.Core.Path.{sym, ap, ◌∙◌}
use Prim.Native.Nat.{◌*◌, ◌≤◌}
use native.Mathlib.Omega.{arith}
use lib.ListN.{length}
use lib.Seq.{length-take-le}
use Rattle.answers.proofs.Conditions.{was_true, was_false}
use Rattle.numbers.proofs.BigEndian.{Octets}
use Rattle.format.specs.Forms.{shape_of, width}
use Rattle.format.specs.declared.Form.{Form}
use Rattle.forms.proofs.Held.{is_sound_lem, held_fits}
use Rattle.forms.proofs.Steps.{close_malformed, close_none, close_some}
use Rattle.forms.proofs.Conversion.close.Goals.{After-width}
use Rattle.forms.proofs.Conversion.close.Goals as goal

pub returns-then-not-is_sound : goal.returns-then-not-is_sound
returns-then-not-is_sound c = let a = c.args in close_malformed a.self a.part.now a.out.now (was_false c.is_sound.ensures c.if-not-is_sound.true)

pub returns-then-self-eq0 : goal.returns-then-self-eq0
returns-then-self-eq0 c = let a = c.args in close_none a.self a.part.now a.out.now (was_true c.is_sound.ensures c.if-not-is_sound.false) c.if-self-eq0.true

-- the records lie in the part
fits : (c : After-width) → c.args.self.held * c.width.result ≤ length c.args.part.now
fits c =
    let a = c.args in
    let s = is_sound_lem (was_true c.is_sound.ensures c.if-not-is_sound.false) in
    let wide = c.width.ensures ∙ ap (λ (f : Form). width (shape_of f)) c.other-to.ensures in
    rw wide (held_fits a.self a.part.now s.room s.few)

pub overflow_mul-end : goal.overflow_mul-end
overflow_mul-end c = omega (arith, fits (goal.at.overflow_mul-end c).After-width)

pub slice_bounds-write_records-end : goal.slice_bounds-write_records-end
slice_bounds-write_records-end c = sym (length-take-le _ _ (fits (goal.at.slice_bounds-write_records-end c).After-width))

pub returns : goal.returns
returns c =
    let a = c.args in
    let octets : Octets a.part.now = λ i. omega (arith, c.shared_slice_known-1.given i) in
    close_some a.self a.part.now a.out.now octets (was_true c.is_sound.ensures c.if-not-is_sound.false) (omega (arith, c.if-self-eq0.false)) c.other-to.ensures c.width.ensures c.write_records.ensures
