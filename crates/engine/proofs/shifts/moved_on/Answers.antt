use borrow.Author.Rules.{rules}
use mathlib.Core.Path.{refl}
use native.Mathlib.Omega.{arith}
use Rattle.engine.proofs.Shifting.{lowest_le, shifted_words, more_is, more_fits, old_few, new_few}
use Rattle.engine.proofs.shifts.moved_on.Goals as goal

pub overflow_cast-lowest : goal.overflow_cast-lowest
overflow_cast-lowest c = omega (arith, lowest_le c.args.bits)

pub overflow_sub-up : goal.overflow_sub-up
overflow_sub-up c = lowest_le c.args.bits

pub overflow_shr-recent : goal.overflow_shr-recent
overflow_shr-recent c = omega (arith, lowest_le c.args.bits)

pub overflow_cast-before : goal.overflow_cast-before
overflow_cast-before c = let a = c.args in omega (arith, old_few a.h (search rules) (search rules) a.bits (search rules))

pub overflow_cast-behind : goal.overflow_cast-behind
overflow_cast-behind c = let a = c.args in omega (arith, new_few a.h (search rules) (search rules) a.bits (search rules))

pub overflow_sub-result : goal.overflow_sub-result
overflow_sub-result c = let a = c.args in more_fits a.h (search rules) (search rules) a.bits (search rules)

pub returns : goal.returns
returns c =
    let a = c.args in
    record {
      up = refl;
      history = shifted_words a.h (search rules) (search rules) a.bits (search rules);
      more = more_is a.h (search rules) (search rules) a.bits (search rules);
    }
