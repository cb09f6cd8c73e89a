use mathlib.Core.Path.{ap, ◌∙◌}
use native.Mathlib.Omega.{arith}
use lib.Seq.{sets}
use Rattle.std.proofs.lemmas.Bool.Decides.{nat_tests}
use Rattle.answers.proofs.Stores.{wrote_refused, wrote_short, wrote_all}
use Rattle.sdp.specs.Writing.{write_fault}
use Rattle.sdp.proofs.writer.write.Goals as goal

pub returns-then-attribute-eq0 : goal.returns-then-attribute-eq0
unfolding write_fault
returns-then-attribute-eq0 c = wrote_refused _ _ (grind (arith, nat_tests))

pub returns-then-out-text : goal.returns-then-out-text
unfolding write_fault
returns-then-out-text c =
    let t = c.text_of-text.ensures in
    wrote_short _ _ (grind (arith, nat_tests)) (omega (arith, t.counted.0, c.if-out-text.true)) t.counted.0

pub returns : goal.returns
unfolding write_fault
returns c =
    let t = c.text_of-text.ensures in
    wrote_all _ _ (grind (arith, nat_tests)) (omega (arith, t.counted.0, c.if-out-text.false)) t.counted.0
    (c.put_text.ensures ∙ ap (sets c.args.out.now 0) t.numbered)
