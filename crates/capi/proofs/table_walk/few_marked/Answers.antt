use borrow.Author.Rules.{rules}
use borrow.Author.Tests.{leb-true}
use native.Mathlib.Omega.{arith}
use lib.Count.{ones-le}
use Rattle.source.specs.Places.{places}
use Rattle.capi.proofs.table_walk.few_marked.Goals as goal

pub overflow_cast-near : goal.overflow_cast-near
overflow_cast-near c = omega (arith, ones-le 64 c.args.recent (search rules))

pub overflow_cast-far : goal.overflow_cast-far
overflow_cast-far c = omega (arith, ones-le 64 c.args.older (search rules))

pub overflow_add-result : goal.overflow_add-result
overflow_add-result c =
    let a = c.args in
    omega (arith, ones-le 64 a.recent (search rules), ones-le 64 a.older (search rules))

pub returns : goal.returns
unfolding places
returns c = λ e. leb-true _ _ e
