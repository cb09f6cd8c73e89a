-- A run of ecntable from C prints what ecntable prints. Assumes nothing.
use Rattle.std.specs.Prelude.{None, Result, Ok, Err}
use Rattle.answers.specs.declared.Unwritten.{Unwritten}
use Rattle.answers.specs.declared.Refusal.{Refusal}
use mathlib.Core.Path.{◌≡◌, refl, sym, ◌∙◌, subst, subst⁻¹}
use mathlib.Core.List.{List}
use Prim.Native.Nat.{ℕ}
use native.Mathlib.Omega.{arith}
use borrow.Author.Tests.{eq-eqb}
use lib.ListN.{length}
use Rattle.answers.specs.Writers.{written, stored}
use Rattle.walk.specs.Pieces.{Octets}
use Rattle.walk.specs.Steps.{Next, goes, refuses, state_after}
use Rattle.convert.specs.declared.Run.{Run}
use Rattle.convert.specs.Runs.{start_of, next_of, call_next, row_in}
use Rattle.convert.specs.Tables.{Kept, no_run, taken}
use Rattle.convert.specs.Theorems.{started_on, next_on, block_calls}
use Rattle.convert.specs.Feeds.{labelled}
use Rattle.convert.proofs.Kept.{Good, sound_good, next_good, start_good}
use Rattle.convert.proofs.Steps.{call_sound}
use Rattle.convert.proofs.Whole.{calls_print}
use Rattle.lent.specs.RunWords.{run_of, run_words}
use Rattle.lent.proofs.RunLaws.{held, run_back}
use Rattle.capi.specs.Codes.{length_code}
use Rattle.capi.specs.StepCalls.{words_after, Takes}
use Rattle.capi.specs.RunCalls.{starts, start_code, start_words, run_next}
use Rattle.capi.proofs.FeedChains.{Typed, step_typed, start_typed, sound_fits}
use Rattle.callers.specs.Sessions.{BothBring, ReadsAs, CallIs}
use Rattle.callers.specs.RunFromC.{RunKept, started_in, brought_in, run_calls, BeganAs, RunStartIs, RunBlockIs, RunFromCPrints}
use Rattle.callers.proofs.Sessions.{session_reads}

-- ---- the words that a call leaves are read by the next as the run that it handed on

-- the words of a sound run, and block 0
abbrev Reads : RunKept → Kept → Type 0
Reads k s = (k.words ≡ run_words s.run) × (k.zeroth ≡ s.zeroth) × Good s.run s.zeroth × Typed s.run

starting : (b : List ℕ) → Octets b → (r : Result Run Refusal) → start_of b ≡ r → BothBring Reads (started_in b r) (started_on b r)
starting b o (Ok run) e =
    let None : Kept = record { run = no_run; zeroth = b } in
    (refl, refl, start_good b run e, subst (λ (r : Result Run Refusal). Typed (labelled None b r).state.run) e (start_typed None b o (omega arith, refl)))
starting b o (Err refusal) e = refl

module _ (s : Kept) (b : List ℕ) (g : Good s.run s.zeroth) (t : Typed s.run) where
  next_is : run_next (run_words s.run) s.zeroth b ≡ call_next s.run s.zeroth b
  unfolding run_next
  next_is =
      let fits = sound_fits s.run.totals.source g.totals.good in
      let h = held (run_words s.run) (run_back s.run t.0 fits.0 fits.1 t.1) in
      rw (h.1, ← h.2)

  brings : Octets b → (n : Next Run) → call_next s.run s.zeroth b ≡ n → BothBring Reads (brought_in s.zeroth n) (next_on s.zeroth n)
  brings o (goes next) e =
      let is : next_of s.run b ≡ goes next = sym (call_sound s.run s.zeroth b (sound_good g)) ∙ e in
      (refl, refl, next_good s.run s.zeroth b next o g is, subst (λ (n : Next Run). Typed (taken s n).state.run) is (step_typed 1 s b t))
  brings o (refuses refusal) e = refl

pub reads_as : ReadsAs run_calls block_calls
reads_as = record {
  Reads = Reads;
  starts = λ b o. (starting b o (start_of b) refl, refl);
  turns = λ k s b r o.
      let its : ◌≡◌ {A = RunKept} (record { words = run_words s.run; zeroth = s.zeroth }) k = λ i. record { words = sym r.0 i; zeroth = sym r.1 i } in
      subst (λ (k : RunKept). BothBring Reads (run_calls.next k b) (block_calls.next s b) × (run_calls.bytes k b ≡ block_calls.bytes s b)) its
      (subst⁻¹ (λ (n : Next Run). BothBring Reads (brought_in s.zeroth n) (block_calls.next s b) × (row_in s.zeroth n ≡ block_calls.bytes s b)) (next_is s b r.2 r.3)
      (brings s b r.2 r.3 o (call_next s.run s.zeroth b) refl, refl));
  ends = λ k s e r. refl;
  over = λ refusal. refl;
}

pub run_from_c_prints : RunFromCPrints
run_from_c_prints trace q o few session = calls_print trace q o few (session_reads RunKept Kept run_calls block_calls trace q reads_as o session)

-- ---- the calls are the C functions

pub run_start_is : RunStartIs
unfolding starts
run_start_is zeroth old out r long w =
    let is = eq-eqb (length old) 15 long in
    go (start_of zeroth) (w.answers ∙ rw is) (w.stores ∙ rw is)
  where
    go : (s : Result Run Refusal) → r ≡ start_code s → out ≡ start_words old s → BeganAs (started_in zeroth s) old r out
    go (Ok run) answers stores = (answers, stores)
    go (Err refusal) answers stores = (answers, stores)

pub run_block_is : RunBlockIs
unfolding written stored
run_block_is k block old left out r t = go (run_next k.words k.zeroth block) t
  where
    go : (n : Next Run) → Takes length_code run_words k.words (run_of k.words) n (row_in k.zeroth n) old r left out
        → CallIs (λ k. k.words) k (brought_in k.zeroth n) (row_in k.zeroth n) old r left out
    go (goes run) t = record { answers = t.answers; keeps = t.keeps ∙ by (written None (row_in k.zeroth (goes run)) old); stores = t.stores }
      where
        by : (w : Result ℕ Unwritten) → words_after k.words (run_words (state_after (run_of k.words) (goes run) w)) w ≡ (state_after k (brought_in k.zeroth (goes run)) w).words
        by (Ok n) = refl
        by (Err (Unwritten.Room n)) = refl
        by (Err (Unwritten.Refused refusal)) = refl
    go (refuses refusal) t = record { answers = t.answers; keeps = t.keeps; stores = t.stores }
