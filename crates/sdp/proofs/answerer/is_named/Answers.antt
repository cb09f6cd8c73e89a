use mathlib.Core.Path.{◌≡◌, refl, ◌∙◌}
use Rattle.sdp.specs.declared.Method.{Method}
use Rattle.sdp.specs.declared.Method.TheVariants.{Rtp, Ice, Leap}
use Rattle.sdp.specs.contracts.MethodPartialEq.TheImpl.{ghosts}
use Rattle.sdp.specs.Writing.{methods_in}
use Rattle.sdp.specs.Answers.{same_method}
use Rattle.sdp.proofs.Texting.{named_any}
use Rattle.sdp.proofs.answerer.is_named.Goals as goal

same : (x y : Method) → ghosts.eq x y ≡ same_method x y
same Rtp Rtp = refl
same Rtp Ice = refl
same Rtp Leap = refl
same Ice Rtp = refl
same Ice Ice = refl
same Ice Leap = refl
same Leap Rtp = refl
same Leap Ice = refl
same Leap Leap = refl

pub returns : goal.returns
returns c = c.contains.ensures.value ∙ named_any same (methods_in c.args.a) c.args.m
