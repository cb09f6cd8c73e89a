-- A breaker's calls on a lent record, one after another. Assumes nothing.
use mathlib.Core.Path.{◌≡◌, refl, sym, ap, ap₂, ◌∙◌}
use mathlib.Core.Bool.{Bool, true, false, not}
use mathlib.Core.List.{List, [], ◌∷◌}
use Prim.Native.Nat.{ℕ}
use borrow.Author.Tests.{eq-eqb}
use lib.Dec.{eqb}
use lib.ListN.{length}
use Rattle.answers.specs.Conditions.{all}
use Rattle.answers.proofs.Conditions.{cond_ends, cond_goes, and_left, and_right, and_goes}
use Rattle.breaker.specs.declared.Breaker.{Breaker}
use Rattle.breaker.specs.declared.Answer.{Answer}
use Rattle.breaker.specs.declared.Answer.TheVariants.{Go, Reduce, Stop, Refused}
use Rattle.breaker.specs.Runs.{Call, called, answers_of, after}
use Rattle.breaker.specs.Theorems.{Typed, number_fits}
use Rattle.breaker.proofs.Runs.{typed_start, typed_call, refused_keeps}
use Rattle.lent.specs.BreakerWords.{breaker_words, breaker_of, words_fit}
use Rattle.lent.proofs.Pairs.{length-breaker}
use Rattle.lent.proofs.Restored.{breaker_restored, words_restored, read_typed}
use Rattle.capi.specs.BreakerCalls.{answer_code, is_record, call_answer, left_by, call_left, UnchangedLeaves, NextIsRecord}
use Rattle.capi.specs.Chains.{breaker_chain, breaker_codes, CalledInTurn, CalledFromStart}
use Rattle.capi.proofs.Steps.{record_sized}

-- ---- one call

-- the words of a record are those of the record that they are read as
same_words : (old : List ℕ) → is_record old ≡ true → breaker_words (breaker_of old) ≡ old
same_words old q = words_restored old (record_sized old q) (and_right (eqb (length old) 77) (all (words_fit old)) q)

is_record_lem : (b : Breaker) → Typed b → is_record (breaker_words b) ≡ true
is_record_lem b t =
    let size = eq-eqb (length (breaker_words b)) 77 (length-breaker b t.places) in
    sym (and_goes _ _ true size (sym (breaker_restored b t).1))

-- a call on a record leaves the words of the record that it hands back, also where it is refused
left_of_lem : (c : Call) (old : List ℕ) → is_record old ≡ true → call_left c old ≡ breaker_words (called (breaker_of old) c).breaker
unfolding call_left
left_of_lem c old q = sym (cond_goes _ _ _ _ (ap not q) (go (called (breaker_of old) c).answer refl))
  where
    next : Breaker
    next = (called (breaker_of old) c).breaker

    go : (a : Answer) → (called (breaker_of old) c).answer ≡ a → breaker_words next ≡ left_by (record { answer = a; breaker = next }) old
    go Go e = refl
    go Reduce e = refl
    go (Stop reason) e = refl
    go (Refused refusal) e = ap breaker_words (refused_keeps (breaker_of old) c refusal e) ∙ same_words old q

pub unchanged_leaves : UnchangedLeaves
unfolding call_left
unchanged_leaves c old e = go (is_record old) refl
  where
    go : (t : Bool) → is_record old ≡ t → call_left c old ≡ old
    go false q = sym (cond_ends _ _ _ old (ap not q) refl)
    go true q = left_of_lem c old q ∙ ap breaker_words e ∙ same_words old q

pub next_is_record : NextIsRecord
next_is_record c old q n =
    let next = (called (breaker_of old) c).breaker in
    let t = typed_call (breaker_of old) c (read_typed old) n in
    (ap is_record (left_of_lem c old q) ∙ is_record_lem next t, ap breaker_of (left_of_lem c old q) ∙ (breaker_restored next t).0)

-- ---- many

pub called_in_turn : CalledInTurn
unfolding breaker_chain breaker_codes call_answer answers_of after
called_in_turn b [] t n = record { left = refl; answers = refl }
called_in_turn b (c ∷ cs) t n =
    let words = breaker_words b in
    let q = is_record_lem b t in
    let back = (breaker_restored b t).0 in
    let left = left_of_lem c words q ∙ ap (λ (x : Breaker). breaker_words (called x c).breaker) back in
    let answer : call_answer c words ≡ answer_code (called b c).answer = sym
    (cond_goes _ _ _ _ (ap not q) (sym (ap (λ (x : Breaker). answer_code (called x c).answer) back))) in
    let rest = called_in_turn (called b c).breaker cs (typed_call b c t (and_left _ _ n)) (and_right (number_fits c) _ n) in
    record {
      left = ap (λ (w : List ℕ). breaker_chain w cs) left ∙ rest.left;
      answers = ap₂ (λ (a : ℕ) (l : List ℕ). a ∷ l) answer (ap (λ (w : List ℕ). breaker_codes w cs) left ∙ rest.answers);
    }

pub called_from_start : CalledFromStart
called_from_start s time calls n = called_in_turn _ calls (typed_start s time) n
