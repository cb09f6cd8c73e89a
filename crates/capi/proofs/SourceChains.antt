-- Arrivals on a lent record, one after another. Assumes nothing.
use mathlib.Core.Path.{◌≡◌, refl, sym, ap, ap₂, ◌∙◌}
use mathlib.Core.Bool.{Bool, true, false, cond}
use mathlib.Core.List.{List, [], ◌∷◌}
use Prim.Native.Nat.{ℕ}
use borrow.Author.Tests.{ltb-true}
use lib.Dec.{eqb}
use Rattle.answers.proofs.Conditions.{and_left, and_right}
use Rattle.source.specs.declared.Source.{Source}
use Rattle.source.specs.declared.Arrival.{Arrival}
use Rattle.source.specs.declared.Arrival.TheVariants.{Accepted, Restarted, Refused}
use Rattle.source.specs.Record.{sound, wire_number}
use Rattle.source.specs.Arrivals.{after}
use Rattle.source.proofs.Facts.{fresh_sound}
use Rattle.source.proofs.Kept.{sound_stays}
use Rattle.source.proofs.Afresh.{typed_stays, refusal_keeps}
use Rattle.lent.specs.SourceWords.{source_of, is_source, source_words}
use Rattle.lent.proofs.SourceLaws.{held, sound_back}
use Rattle.answers.specs.Refusals.{number_of}
use Rattle.capi.specs.OneSource.{arrival_code, arrival_words, arrive_answer, arrive_words}
use Rattle.capi.specs.Chains.{arrive_chain, arrive_codes, arrives, after_arrivals, arrival_codes, wire_fits, ArrivesInTurn, ArrivesFromZero}

-- ---- one call

module _ (s : Source) (c : ℕ × ℕ) where
  module _ (e : sound s ≡ true) (n : wire_number s.remembered ≡ true) where
    back : (is_source (source_words s) ≡ true) × (s ≡ source_of (source_words s))
    back = let h = held (source_words s) (sound_back s e n) in (h.1, h.2)

    left_of_lem : arrive_words (source_words s) c.0 c.1 ≡ source_words (after (arrives s c))
    unfolding arrive_words
    left_of_lem = rw (back.0, ← back.1) (go (arrives s c) refl)
      where
        refused : (t : Bool) (new next : Source) → next ≡ cond t new s → cond t (source_words next) (source_words s) ≡ source_words next
        refused true new next k = refl
        refused false new next k = ap source_words (sym k)

        go : (a : Arrival) → arrives s c ≡ a → arrival_words (source_words s) a ≡ source_words (after a)
        go (Accepted next) k = refl
        go (Restarted next) k = refl
        go (Refused refusal next) k = refused (eqb (number_of refusal) 7) _ next (refusal_keeps s next (record { 0 = c.0 }) c.1 refusal k)

    answer_of_lem : arrive_answer (source_words s) c.0 c.1 ≡ arrival_code (arrives s c)
    unfolding arrive_answer
    answer_of_lem = rw (back.0, ← back.1)

-- ---- many

pub arrives_in_turn : ArrivesInTurn
unfolding arrive_chain arrive_codes after_arrivals arrival_codes
arrives_in_turn s [] e r n = record { left = refl; answers = refl }
arrives_in_turn s (c ∷ cs) e r n =
    let left = left_of_lem s c e r in
    let wire = ltb-true _ _ (and_left _ _ n) in
    let rest = arrives_in_turn (after (arrives s c)) cs (sound_stays s (record { 0 = c.0 }) c.1 wire e) (typed_stays s (record { 0 = c.0 }) c.1 r)
    (and_right (wire_fits c) _ n) in
    record {
      left = ap (λ (w : List ℕ). arrive_chain w cs) left ∙ rest.left;
      answers = ap₂ (λ (a : ℕ) (l : List ℕ). a ∷ l) (answer_of_lem s c e r) (ap (λ (w : List ℕ). arrive_codes w cs) left ∙ rest.answers);
    }

pub arrives_from_zero : ArrivesFromZero
unfolding source_words
arrives_from_zero calls n = arrives_in_turn _ calls fresh_sound refl n
