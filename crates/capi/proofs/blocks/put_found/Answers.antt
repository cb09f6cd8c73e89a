use mathlib.Core.Path.{refl}
use mathlib.Core.List.{[], ◌∷◌}
use native.Mathlib.Omega.{arith}
use lib.ListN.{length-set}
use Rattle.answers.proofs.Stores.{wrote_short, wrote_all}
use Rattle.capi.specs.Codes.{refusal_code}
use Rattle.capi.proofs.Answers.{gives}
use Rattle.capi.proofs.blocks.put_found.Goals as goal

pub returns-then-found-lt3 : goal.returns-then-found-lt3
returns-then-found-lt3 c =
    let a = c.args in
    gives refusal_code (wrote_short (a.x ∷ a.y ∷ a.z ∷ []) a.found.now refl c.if-found-lt3.true refl) refl

pub bounds-found-1 : goal.bounds-found-1
bounds-found-1 c =
    let a = c.args in
    omega (arith, length-set a.found.now 0 a.x, c.if-found-lt3.false)

pub returns : goal.returns
returns c =
    let a = c.args in
    gives refusal_code (wrote_all (a.x ∷ a.y ∷ a.z ∷ []) a.found.now refl c.if-found-lt3.false refl refl) refl
