use borrow.Author.Rules.{rules}
use Rattle.shell.proofs.Answered.{tries_none, tries_one, tries_ended, passes_interrupted, passes_unready, passes_not}
use Rattle.shell.proofs.retries.tries_after.Goals as goal

pub returns-then-left-lt2 : goal.returns-then-left-lt2
returns-then-left-lt2 c = tries_none c.args.left c.args.error c.if-left-lt2.true

pub returns-then-error-eq-EINTR : goal.returns-then-error-eq-EINTR
returns-then-error-eq-EINTR c =
    let a = c.args in
    tries_one a.left a.error (passes_interrupted a.error (search rules) c.if-error-eq-EINTR.true)

pub returns-then-error-eq-EAGAIN : goal.returns-then-error-eq-EAGAIN
returns-then-error-eq-EAGAIN c =
    let a = c.args in
    tries_one a.left a.error (passes_unready a.error (search rules) c.if-error-eq-EINTR.false c.if-error-eq-EAGAIN.true)

pub returns : goal.returns
returns c =
    let a = c.args in
    tries_ended a.left a.error (passes_not a.error (search rules) c.if-error-eq-EINTR.false c.if-error-eq-EAGAIN.false)
