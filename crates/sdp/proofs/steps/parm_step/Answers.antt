use native.Mathlib.Omega.{arith}
use Rattle.sdp.proofs.Fits.{inside}
use Rattle.sdp.proofs.Turns.{parm_none, parm_bare, parm_some}
use Rattle.sdp.proofs.steps.parm_step.Goals as goal

pub returns-then-name-at : goal.returns-then-name-at
returns-then-name-at c =
    parm_none _ _ c.requires.1 c.token_end-name.ensures c.if-name-at.true c.no_step.ensures

pub returns-then-byte_at-ne61 : goal.returns-then-byte_at-ne61
returns-then-byte_at-ne61 c =
    parm_bare _ _ c.requires.1 c.token_end-name.ensures c.if-name-at.false c.byte_at.ensures
    c.if-byte_at-ne61.true c.no_step-then-byte_at-ne61.ensures

pub parm_value-requires : goal.parm_value-requires
parm_value-requires c =
    let e = c.token_end-name in (
      c.requires.0,
      omega (arith, e.ensures),
      inside c.args.line.now e.result (λ z. omega (arith, c.byte_at.ensures, c.if-byte_at-ne61.false, z)),
    )

pub returns : goal.returns
returns c =
    parm_some _ _ c.requires.1 c.token_end-name.ensures c.if-name-at.false c.byte_at.ensures
    c.if-byte_at-ne61.false c.parm_value.ensures
