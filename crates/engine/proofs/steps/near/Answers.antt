use mathlib.Core.Path.{refl, sym, ap, ap₂, subst, ◌∙◌}
use mathlib.Core.Bool.{Bool}
use Prim.Native.Nat.{ℕ, ◌+◌, ◌*◌, ◌^◌, ◌<◌}
use Rattle.source.specs.declared.History.{History}
use Rattle.source.specs.Places.{bit, history, marks, moved, added}
use Rattle.source.proofs.Rows.{pack_lt, marks_history}
use Rattle.engine.proofs.Spots.{moved_then}
use Rattle.engine.proofs.Chosen.{raised_same, near_by, near_taken}
use Rattle.engine.proofs.steps.near.Goals as goal

pub with_mark-next-requires : goal.with_mark-next-requires
with_mark-next-requires c =
    let a = c.args in (
      c.fall-k.ensures.1,
      subst (λ (h : History). h.older < 2 ^ 36) (sym c.moved-past.ensures)
          (pack_lt 36 (λ k. moved c.rise-up.result (marks a.t.history) (64 + k))),
    )

pub returns : goal.returns
returns c =
    let a = c.args in
    let p = c.requires in
    let up = c.rise-up.result in
    let k = c.fall-k.result in
    let row : ℕ → Bool = moved up (marks a.t.history) in
    let past = c.moved-past.ensures in
    let next = c.with_mark-next.ensures ∙ ap (λ (h : History). history (added k (marks h))) past ∙ moved_then row k in
    let again = c.mark_at-again.ensures.0 ∙ ap (λ (h : History). bit (marks h k)) past ∙ ap bit (marks_history row k c.fall-k.ensures.1) in
    let more = ap₂ (λ (u w : ℕ). u + w * 256) c.unit.ensures.0 again in
    c.raised.ensures ∙ raised_same a.t refl next more
    ∙ ap₂ (λ (i j : ℕ). near_by a.t i j a.mark) c.rise-up.ensures.0 c.fall-k.ensures.0 ∙ near_taken a.t a.number a.mark a.d p.1 p.2
