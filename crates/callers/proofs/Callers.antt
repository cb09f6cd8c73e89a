-- Demand 3 for a caller from C. Assumes nothing.
use mathlib.Core.Path.{◌≡◌, refl, ap, ap₂, ◌∙◌}
use mathlib.Core.Bool.{Bool, true, false, cond}
use mathlib.Core.List.{List, [], ◌∷◌, map}
use Prim.Native.Nat.{ℕ}
use native.Mathlib.Omega.{arith}
use borrow.Author.Tests.{lt-ltb}
use lib.Dec.{leb}
use Rattle.answers.specs.Conditions.{all}
use Rattle.answers.specs.declared.Refusal.TheVariants.{Limits}
use Rattle.numbers.proofs.Integers.{modulo_lt}
use Rattle.source.specs.declared.Source.{Source}
use Rattle.source.specs.declared.Arrival.TheVariants.{Accepted, Refused}
use Rattle.source.specs.Record.{fresh_record}
use Rattle.source.specs.Arrivals.{after}
use Rattle.lent.specs.SourceWords.{source_words}
use Rattle.capi.specs.OneSource.{arrival_code}
use Rattle.capi.specs.Chains.{after_arrivals, arrival_codes, wire_fits}
use Rattle.capi.proofs.SourceChains.{arrives_from_zero}
use Rattle.demands.specs.Calls.{TruePacket, wire_of, call, run_from, AnsweredFrom}
use Rattle.demands.specs.Witnesses.{wrapped}
use Rattle.demands.proofs.Demand.{demand3}
use Rattle.demands.proofs.Witnesses.{met}
use Rattle.callers.specs.Callers.{passed, answer_to, ChainHoldsCount}

fit : (ps : List TruePacket) → all (map wire_fits (map passed ps)) ≡ true
fit [] = refl
fit (p ∷ ps) = rw (lt-ltb (wire_of p.number).0 65536 (modulo_lt 65536 (omega arith) p.number), fit ps)

same_run : (s : Source) (ps : List TruePacket) → after_arrivals s (map passed ps) ≡ run_from s ps
unfolding after_arrivals
same_run s [] = refl
same_run s (p ∷ ps) = same_run (after (call s p)) ps

same_answers : (s : Source) (ps : List TruePacket) → AnsweredFrom s ps → arrival_codes s (map passed ps) ≡ map answer_to ps
unfolding arrival_codes
same_answers s [] a = refl
same_answers s (p ∷ ps) a = ap₂ (λ (n : ℕ) (l : List ℕ). n ∷ l) (ap arrival_code a.0 ∙ coded (leb p.mark 3)) (same_answers (after (call s p)) ps a.1)
  where
    coded : (t : Bool) → arrival_code (cond t (Accepted (after (call s p))) (Refused Limits s)) ≡ cond t 0 10
    coded true = refl
    coded false = refl

pub chain_holds_count : ChainHoldsCount
chain_holds_count ps d =
    let end = demand3 ps d in
    let chain = arrives_from_zero (map passed ps) (fit ps) in
    record {
      answers = chain.answers ∙ same_answers fresh_record ps end.answers;
      words = chain.left ∙ ap source_words (same_run fresh_record ps ∙ end.state);
    }

-- at the list that shows that demand 3's hypotheses can be met
used : Unit {0}
used = let chain = chain_holds_count wrapped met.described in tt
