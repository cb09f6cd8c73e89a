use mathlib.Core.Path.{sym}
use native.Mathlib.Omega.{arith}
use Rattle.answers.proofs.Stores.{wrote_short, wrote_all}
use Rattle.sources.specs.Compounds.{compound_bytes}
use Rattle.sources.specs.Tables.{lent}
use Rattle.sources.proofs.Checking.{passed}
use Rattle.sources.proofs.Compounding.{compound_long, compound_stored}
use Rattle.sources.proofs.compound.write_held.Goals as goal

pub overflow_mul-size : goal.overflow_mul-size
overflow_mul-size c = let k = passed c.args.t c.args.n c.requires in let m = k.most in let f = k.few in omega arith

pub overflow_add-size : goal.overflow_add-size
overflow_add-size c = let k = passed c.args.t c.args.n c.requires in let m = k.most in let f = k.few in omega arith

pub returns-then-out-size : goal.returns-then-out-size
returns-then-out-size c =
    let a = c.args in
    let long = compound_long a.sender (lent a.t) a.n c.requires.count in
    let short = c.if-out-size.true in
    wrote_short (compound_bytes a.sender (lent a.t)) a.out.now c.requires.kept (omega arith) (sym long)

pub put_feedbacks-requires : goal.put_feedbacks-requires
put_feedbacks-requires c =
    let k = passed c.args.t c.args.n c.requires in
    let m = k.most in
    let f = k.few in
    let room = c.if-out-size.false in
    let same = c.put_report.auto.out in
    (omega arith, omega arith, k.sounds)

pub returns : goal.returns
returns c =
    let a = c.args in
    let k = passed a.t a.n c.requires in
    let long = compound_long a.sender (lent a.t) a.n c.requires.count in
    let room = c.if-out-size.false in
    wrote_all (compound_bytes a.sender (lent a.t)) a.out.now c.requires.kept (omega arith) (sym long)
    (compound_stored a.sender (lent a.t) a.out.now k.first c.put_report.ensures c.put_feedbacks.ensures)
