-- A function that takes one block, in what it answers and leaves. Assumes nothing.
use Rattle.std.specs.Prelude.{Result, Ok, Err}
use Rattle.answers.specs.declared.Unwritten.{Unwritten}
use mathlib.Core.Path.{◌≡◌, sym, ap, ap₂, ◌∙◌}
use mathlib.Core.List.{List}
use Prim.Native.Nat.{ℕ}
use lib.ListN.{length}
use lib.Seq.{sets}
use Rattle.answers.specs.Writers.{written, stored}
use Rattle.answers.specs.declared.Refusal.{Refusal}
use Rattle.walk.specs.Steps.{Next, refuses, state_after, Stepped}
use Rattle.capi.specs.Codes.{Leaves}
use Rattle.capi.specs.StepCalls.{words_after, Takes}
use Rattle.capi.proofs.Fronts.{sets-whole}

-- ---- the words of the next state in the place of the last, by the answer

module _ {R : Type 0} (code : Result ℕ Unwritten → R) (words next : List ℕ) (answer : Result ℕ Unwritten) {r : R} (told : r ≡ code answer) where
  pub words_stored : {n : ℕ} {left : List ℕ} → answer ≡ Ok n → length words ≡ length next → left ≡ sets words 0 next
      → Leaves (code answer) (words_after words next answer) r left
  words_stored e h k = record { answers = told; stores = k ∙ sets-whole words next h ∙ sym (ap (words_after words next) e) }

  pub words_kept : {why : Unwritten} → answer ≡ Err why → Leaves (code answer) (words_after words next answer) r words
  words_kept e = record { answers = told; stores = sym (ap (words_after words next) e) }

-- ---- the call

module _ {R A : Type 0} (code : Result ℕ Unwritten → R) (words_of : A → List ℕ) (words : List ℕ) {given : A} {next : Next A} {bytes old : List ℕ} where
  -- on a state that is in the words
  pub takes_step : {answer : Result ℕ Unwritten} {state : A} {r : R} {left out : List ℕ} → Stepped given next bytes old answer state out
      → Leaves (code answer) (words_after words (words_of state) answer) r left → Takes code words_of words given next bytes old r left out
  takes_step s l = record {
    answers = l.answers ∙ ap code s.wrote.answers;
    keeps = l.stores ∙ ap₂ (λ (k : A) (w : Result ℕ Unwritten). words_after words (words_of k) w) (s.after ∙ ap (state_after given next) s.wrote.answers) s.wrote.answers;
    stores = s.wrote.stores;
  }

  -- on words of which none is
  pub takes_none : {refusal : Refusal} → next ≡ refuses refusal → Takes code words_of words given next bytes old (code (Err (Unwritten.Refused refusal))) words old
  unfolding written stored
  takes_none e = record { answers = rw e; keeps = rw e; stores = rw e }

-- with an equal answer
pub takes_as : {R A : Type 0} {code : Result ℕ Unwritten → R} {words_of : A → List ℕ} {words : List ℕ} {given : A} {next : Next A} {bytes old left out : List ℕ}
    {r told : R}
    → r ≡ told → Takes code words_of words given next bytes old told left out → Takes code words_of words given next bytes old r left out
takes_as e t = record { answers = e ∙ t.answers; keeps = t.keeps; stores = t.stores }
