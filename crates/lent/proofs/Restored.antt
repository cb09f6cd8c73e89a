-- A record and its words give each other back. Assumes nothing.
use mathlib.Core.Path.{◌≡◌, refl, sym, ap, ◌∙◌}
use mathlib.Core.Bool.{Bool, true, false, ◌&&◌}
use mathlib.Core.List.{List, [], ◌∷◌, ◌++◌}
use Prim.Native.Nat.{ℕ, zero, suc, ◌+◌, ◌%◌, ◌^◌, ◌≤◌, ◌<◌}
use native.Mathlib.Nat.{add-zero, mod-lt}
use native.Mathlib.Omega.{arith}
use borrow.Author.Tests.{leb-true, ltb-true, lt-ltb}
use lib.Dec.{leb, ltb, eqb}
use mir.Val.{bool_byte}
use lib.ListN.{length, length-drop, drop, get_or}
use lib.Seq.{drop-cons}
use Rattle.answers.proofs.Conditions.{all_true}
use Rattle.breaker.specs.declared.Reason.TheVariants.{Timeout, Media, Congestion}
use Rattle.breaker.specs.declared.State.{State}
use Rattle.breaker.specs.declared.State.TheVariants.{Running, Stopped}
use Rattle.lent.specs.BreakerWords.{flag, state_number, state_of, breaker_words, settings_of, window_of, breaker_of, words_fit, BreakerRestored, ReadTyped, WordsRestored}
use Rattle.lent.proofs.Pairs.{length-intervals, intervals_back, words_back}

-- ---- one word

-- the cast of a bool to a number
pub as_flag : (b : Bool) → bool_byte b ≡ flag b
as_flag true = refl
as_flag false = refl

flag_back : (b : Bool) → eqb (flag b) 1 ≡ b
flag_back true = refl
flag_back false = refl

flag_fits : (b : Bool) → leb (flag b) 1 ≡ true
flag_fits true = refl
flag_fits false = refl

flag_word : (n : ℕ) → leb n 1 ≡ true → flag (eqb n 1) ≡ n
flag_word zero h = refl
flag_word (suc zero) h = refl
flag_word (suc (suc n)) h = absurd (omega (arith, leb-true (suc (suc n)) 1 h))

state_back : (s : State) → state_of (state_number s) ≡ s
state_back Running = refl
state_back (Stopped Timeout) = refl
state_back (Stopped Media) = refl
state_back (Stopped Congestion) = refl

state_fits : (s : State) → leb (state_number s) 3 ≡ true
state_fits Running = refl
state_fits (Stopped Timeout) = refl
state_fits (Stopped Media) = refl
state_fits (Stopped Congestion) = refl

state_word : (n : ℕ) → leb n 3 ≡ true → state_number (state_of n) ≡ n
state_word zero h = refl
state_word (suc zero) h = refl
state_word (suc (suc zero)) h = refl
state_word (suc (suc (suc zero))) h = refl
state_word (suc (suc (suc (suc n)))) h = absurd (omega (arith, leb-true (suc (suc (suc (suc n)))) 3 h))

-- ---- all of them

pub breaker_restored : BreakerRestored
unfolding breaker_words breaker_of settings_of window_of words_fit
breaker_restored b t =
    let highest : b.highest % 2 ^ 32 ≡ b.highest = omega (arith, t.number) in
    let fits : ltb b.highest (2 ^ 32) ≡ true = lt-ltb b.highest (2 ^ 32) t.number in
    let places = intervals_back 32 b.window.intervals t.places in (
      λ i.
          record {
            settings = record { k = b.settings.k; m = b.settings.m; timeout = b.settings.timeout; reduce = flag_back b.settings.reduce i; full = flag_back b.settings.full i };
            state = state_back b.state i;
            last = b.last;
            heard = b.heard;
            reported = flag_back b.reported i;
            highest = highest i;
            run = b.run;
            trial = flag_back b.trial i;
            window = record { used = b.window.used; intervals = places i };
          },
      λ i. flag_fits b.settings.reduce i && (flag_fits b.settings.full i && (state_fits b.state i && (flag_fits b.reported i && (fits i && (flag_fits b.trial i && true))))),
    )

pub read_typed : ReadTyped
unfolding breaker_of window_of
read_typed ws = record { number = mod-lt (get_or ws 9 0) (omega arith); places = length-intervals 32 (drop 13 ws) }

-- the n words from `at` on, and a list by its first words
unfoldable gets : ℕ → ℕ → List ℕ → List ℕ
gets zero at ws = []
gets (suc n) at ws = get_or ws at 0 ∷ gets n (suc at) ws

gets_all : (n at : ℕ) (ws : List ℕ) → at + n ≤ length ws → drop at ws ≡ gets n at ws ++ drop (at + n) ws
unfolding gets
gets_all zero at ws h = sym (ap (λ (k : ℕ). drop k ws) (add-zero at))
gets_all (suc n) at ws h =
    let e : suc at + n ≡ at + suc n = omega arith in
    drop-cons ws at 0 (omega arith)
    ∙ ap (λ (t : List ℕ). get_or ws at 0 ∷ t) (gets_all n (suc at) ws (omega arith))
    ∙ ap (λ (k : ℕ). get_or ws at 0 ∷ gets n (suc at) ws ++ drop k ws) e

pub words_restored : WordsRestored
unfolding breaker_words breaker_of settings_of window_of words_fit gets
words_restored ws h fit =
    let number : get_or ws 9 0 < 2 ^ 32 = ltb-true (get_or ws 9 0) (2 ^ 32) (all_true (words_fit ws) 4 fit) in
    let low : get_or ws 9 0 % 2 ^ 32 ≡ get_or ws 9 0 = omega arith in
    let reduce = flag_word (get_or ws 3 0) (all_true (words_fit ws) 0 fit) in
    let full = flag_word (get_or ws 4 0) (all_true (words_fit ws) 1 fit) in
    let state = state_word (get_or ws 5 0) (all_true (words_fit ws) 2 fit) in
    let reported = flag_word (get_or ws 8 0) (all_true (words_fit ws) 3 fit) in
    let trial = flag_word (get_or ws 11 0) (all_true (words_fit ws) 5 fit) in
    let places = words_back 32 (drop 13 ws) (omega (arith, length-drop 13 ws)) in
    (λ i.
    get_or ws 0 0
    ∷ get_or ws 1 0
    ∷ get_or ws 2 0
    ∷ reduce i
    ∷ full i
    ∷ state i
    ∷ get_or ws 6 0
    ∷ get_or ws 7 0
    ∷ reported i
    ∷ low i
    ∷ get_or ws 10 0
    ∷ trial i
    ∷ get_or ws 12 0
    ∷ places i)
    ∙ sym (gets_all 13 0 ws (omega arith))
