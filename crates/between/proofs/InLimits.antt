-- What is kept is enough, and a report's losses are in the breaker's limits. Assumes nothing.
use Rattle.std.specs.Prelude.{Option, Some, None, Result, Ok, Err}
use Rattle.rtcp.specs.declared.ReportBlock.{ReportBlock}
use Rattle.answers.specs.declared.Refusal.{Refusal}
use Rattle.between.specs.declared.calls.Kept.{Kept}
use mathlib.Core.Path.{◌≡◌, refl, ◌∙◌, ap}
use mathlib.Core.Bool.{Bool, true, false, not, cond}
use Prim.Native.Nat.{ℕ}
use native.Mathlib.Omega.{arith}
use Rattle.breaker.specs.declared.EcnCounts.{EcnCounts}
use Rattle.breaker.specs.Limits.{counts_ok}
use Rattle.between.specs.declared.calls.Call.{Call}
use Rattle.between.specs.Differences.{signals_of}
use Rattle.between.specs.PacketCalls.{ecn_report_of, counters_given, since_kept, counts_in, counts_since, highest_in, by_counts, by_block, alone, call_of}
use Rattle.between.specs.Theorems.{KeptIsEnough, fraction_fits, loss_fits, CallInLimits, some_block, SomeCall}
use Rattle.between.proofs.Exact.{given_in_limits}

pub kept_is_enough : KeptIsEnough
unfolding since_kept signals_of
kept_is_enough c d m n = refl

-- ---- rule by rule

since_fits : (later earlier : Option Kept) (x : EcnCounts) → counts_since later earlier ≡ Some x → counts_ok x ≡ true
unfolding since_kept
since_fits (Some a) (Some b) x e = go (since_kept a b) refl e
  where
    go : (w : Result EcnCounts Refusal) → since_kept a b ≡ w → counts_in w ≡ Some x → counts_ok x ≡ true
    go (Ok y) q f = let same : y ≡ x = cc in given_in_limits (counters_given a.ce a.lost) (counters_given b.ce b.lost) a.highest b.highest x (q ∙ ap Ok same)
    go (Err refusal) q f = let z : ◌≡◌ {A = ℕ} 0 1 = cc in absurd (omega arith)
since_fits (Some a) None x e = let z : ◌≡◌ {A = ℕ} 0 1 = cc in absurd (omega arith)
since_fits None earlier x e = let z : ◌≡◌ {A = ℕ} 0 1 = cc in absurd (omega arith)

module _ (highest : ℕ) (next : Call) (rest : loss_fits next ≡ true) where
  counts_fit_lem : (k : Option EcnCounts) → ((x : EcnCounts) → k ≡ Some x → counts_ok x ≡ true) → loss_fits (by_counts highest k next) ≡ true
  counts_fit_lem (Some x) h = h x refl
  counts_fit_lem None h = rest

  block_fits : (r : Option ReportBlock) → fraction_fits r ≡ true → loss_fits (by_block highest r next) ≡ true
  block_fits (Some r) h = h
  block_fits None h = rest

  alone_fits : (k : Option Kept) → loss_fits (alone highest k next) ≡ true
  unfolding counts_ok
  alone_fits (Some k) = refl
  alone_fits None = rest

pub call_in_limits : CallInLimits
unfolding call_of
call_in_limits c earlier f = go c.reporting
  where
    n : ℕ
    n = highest_in c

    new : Option Kept
    new = ecn_report_of c

    four : Call
    four = alone n new Call.Heard

    go : (t : Bool)
        → loss_fits (cond (not t) Call.Heard (by_counts n (counts_since new earlier) (by_block n c.report four))) ≡ true
    go false = refl
    go true =
        counts_fit_lem n (by_block n c.report four) (block_fits n four (alone_fits n Call.Heard refl new) c.report f)
        (counts_since new earlier) (since_fits new earlier)

pub some_call : SomeCall
unfolding call_of
some_call = record { fits = refl; call = refl }

used : Unit {0}
used =
    let limits = call_in_limits some_block None some_call.fits in
    tt
