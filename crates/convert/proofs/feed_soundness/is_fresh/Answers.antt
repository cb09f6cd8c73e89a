use mathlib.Core.Path.{◌∙◌}
use native.Mathlib.Omega.{arith}
use borrow.Author.Tests.{ne_eqb}
use Rattle.answers.proofs.Conditions.{all_false}
use Rattle.source.specs.Record.{zeros, fresh}
use Rattle.convert.proofs.SoundUploads.{none_counted}
use Rattle.convert.proofs.feed_soundness.is_fresh.Goals as goal

pub returns-then-s-gt0 : goal.returns-then-s-gt0
unfolding fresh
returns-then-s-gt0 c = let s = c.args.s in all_false (zeros s) 2 (ne_eqb s.notect 0 (λ e. omega (arith, c.if-s-gt0.true, e)))

pub returns-then-s-gt0-2 : goal.returns-then-s-gt0-2
unfolding fresh
returns-then-s-gt0-2 c = let s = c.args.s in all_false (zeros s) 3 (ne_eqb s.ect1 0 (λ e. omega (arith, c.if-s-gt0-2.true, e)))

pub returns-then-s-gt0-3 : goal.returns-then-s-gt0-3
unfolding fresh
returns-then-s-gt0-3 c = let s = c.args.s in all_false (zeros s) 4 (ne_eqb s.ect0 0 (λ e. omega (arith, c.if-s-gt0-3.true, e)))

pub returns-then-s-gt0-4 : goal.returns-then-s-gt0-4
unfolding fresh
returns-then-s-gt0-4 c = let s = c.args.s in all_false (zeros s) 5 (ne_eqb s.ce 0 (λ e. omega (arith, c.if-s-gt0-4.true, e)))

pub returns : goal.returns
returns c = c.is_sound.ensures ∙ none_counted c.args.s (omega (arith, c.if-s-gt0.false, c.if-s-gt0-2.false, c.if-s-gt0-3.false, c.if-s-gt0-4.false))
