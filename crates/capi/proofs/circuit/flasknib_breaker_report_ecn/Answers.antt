use mathlib.Core.Path.{◌≡◌, ap, subst}
use mathlib.Core.List.{List}
use Prim.Native.Nat.{ℕ}
use lib.IntN.{ℤ}
use Rattle.breaker.specs.Runs.{Call, report}
use Rattle.numbers.proofs.Signed.{seen_is}
use Rattle.capi.specs.BreakerCalls.{counts_given, TakesCall}
use Rattle.capi.proofs.circuit.flasknib_breaker_report_ecn.Goals as goal

same_call : (old : List ℕ) {a b : Call} {r : ℕ} {out : List ℕ} → a ≡ b → TakesCall a old r out → TakesCall b old r out
same_call old {r = r} {out} e h = subst (λ (c : Call). TakesCall c old r out) e h

pub returns : goal.returns
returns c =
    let a = c.args in
    same_call a.breaker.now
    (ap
    (λ (z : ℤ).
    report
    (record {
      time = a.time;
      highest = a.highest;
      loss = counts_given z a.marked a.expected;
      rtt = a.rtt;
      size = a.size;
      rate = a.rate;
    }))
    (seen_is a.lost c.ranges.lost))
    c.take_report.ensures
