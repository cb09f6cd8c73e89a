use borrow.Author.Tests.{lt-leb}
use lib.ListN.{length}
use Rattle.answers.proofs.Conditions.{all_false}
use Rattle.mixed.specs.Runs.{run_conditions, sound_run}
use Rattle.mixed.proofs.Calls.{sound_last}
use Rattle.mixed.proofs.soundness.is_sound.Goals as goal

pub returns-then-lines-lt-WORDS : goal.returns-then-lines-lt-WORDS
unfolding sound_run
returns-then-lines-lt-WORDS c = let a = c.args in all_false (run_conditions a.run a.lines.now) 0 (lt-leb 208 (length a.lines.now) c.if-lines-lt-WORDS.true)

pub returns : goal.returns
returns c = let a = c.args in sound_last a.run a.lines.now c.if-lines-lt-WORDS.false
