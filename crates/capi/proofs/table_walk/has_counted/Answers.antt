use mathlib.Core.Bool.{false≢true}
use native.Mathlib.Omega.{arith}
use Rattle.capi.proofs.Walked.{tests_count}
use Rattle.capi.proofs.table_walk.has_counted.Goals as goal

pub returns-then-n-duplicates : goal.returns-then-n-duplicates
returns-then-n-duplicates c = λ e. absurd (false≢true e)

pub returns-then-base-gt65535 : goal.returns-then-base-gt65535
returns-then-base-gt65535 c = λ e. absurd (false≢true e)

pub returns-then-highest-base : goal.returns-then-highest-base
returns-then-highest-base c = λ e. absurd (false≢true e)

pub returns-then-distinct-highest : goal.returns-then-distinct-highest
returns-then-distinct-highest c = λ e. absurd (false≢true e)

pub returns-then-recent-eq0 : goal.returns-then-recent-eq0
returns-then-recent-eq0 c = λ e. absurd (false≢true e)

pub returns-then-older-ge-OLDER : goal.returns-then-older-ge-OLDER
returns-then-older-ge-OLDER c = λ e. absurd (false≢true e)

pub returns : goal.returns
returns c = λ e.
    let a = c.args in
    tests_count a.words.now a.n (record {
      fewer = omega arith;
      most = omega arith;
      wire = omega arith;
      ordered = omega arith;
      spread = omega arith;
      top = omega arith;
      fits = omega arith;
      few = c.few_marked.ensures e;
    })
