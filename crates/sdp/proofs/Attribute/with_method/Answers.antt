use mathlib.Core.Path.{refl}
use borrow.Author.Tests.{le-leb, lt-leb}
use Rattle.answers.proofs.Conditions.{cond_ends, cond_goes}
use Rattle.sdp.specs.Answers.{with_method}
use Rattle.sdp.proofs.Attribute.with_method.Goals as goal

pub returns-then-self-ge8 : goal.returns-then-self-ge8
unfolding with_method
returns-then-self-ge8 c = cond_ends _ _ _ _ (le-leb _ _ c.if-self-ge8.true) refl

pub returns : goal.returns
unfolding with_method
returns c = cond_goes _ _ _ _ (lt-leb _ _ c.if-self-ge8.false) refl
