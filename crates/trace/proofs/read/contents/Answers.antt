use Rattle.trace.proofs.Decisions.{label_by, arrivals_by, no_kind}
use Rattle.trace.proofs.read.contents.Goals as goal

pub returns-then-label_body : goal.returns-then-label_body
returns-then-label_body c = label_by c.args.b.now c.read16-count.ensures c.read32-ssrc.ensures c.read16.ensures c.of.ensures c.in-Label.is c.label_body.ensures c.if-label_body.true

pub returns-then-arrivals_body : goal.returns-then-arrivals_body
returns-then-arrivals_body c = arrivals_by c.args.b.now c.read16-count.ensures c.read32-ssrc.ensures c.read16.ensures c.of.ensures c.in-Arrivals.is c.arrivals_body.ensures c.if-arrivals_body.true

pub returns-else-label_body : goal.returns-else-label_body
returns-else-label_body c = label_by c.args.b.now c.read16-count.ensures c.read32-ssrc.ensures c.read16.ensures c.of.ensures c.in-Label.is c.label_body.ensures c.if-label_body.false

pub returns-else-arrivals_body : goal.returns-else-arrivals_body
returns-else-arrivals_body c = arrivals_by c.args.b.now c.read16-count.ensures c.read32-ssrc.ensures c.read16.ensures c.of.ensures c.in-Arrivals.is c.arrivals_body.ensures c.if-arrivals_body.false

pub returns-in-Unknown : goal.returns-in-Unknown
returns-in-Unknown c = no_kind c.args.b.now c.read16-count.ensures c.read32-ssrc.ensures c.read16.ensures c.of.ensures c.in-Unknown.is
