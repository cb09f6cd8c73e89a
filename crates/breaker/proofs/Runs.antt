-- The theorems over runs: sound stays sound, typed stays typed, stopped stays stopped. Assumes nothing.
use mathlib.Core.Path.{◌≡◌, refl, ◌∙◌, ap, subst}
use mathlib.Core.Bool.{Bool, true, not, cond, ◌&&◌}
use mathlib.Core.List.{List, [], ◌∷◌, map}
use Prim.Native.Nat.{ℕ, zero-le}
use native.Mathlib.Omega.{arith}
use borrow.Author.Tests.{not-false, lt-ltb, le-leb}
use Rattle.answers.specs.declared.Refusal.TheVariants.{Malformed}
use Rattle.breaker.specs.declared.Reason.{Reason}
use Rattle.breaker.specs.declared.State.{State}
use Rattle.breaker.specs.declared.Settings.{Settings}
use Rattle.breaker.specs.declared.Answer.{Answer}
use Rattle.breaker.specs.declared.Answer.TheVariants.{Go, Stop}
use Rattle.breaker.specs.declared.Breaker.{Breaker}
use Rattle.breaker.specs.declared.Step.{Step}
use Rattle.breaker.specs.Answers.{answers, refuses}
use Rattle.breaker.specs.Limits.{settings_ok, time_ok}
use Rattle.breaker.specs.Soundness.{sound}
use Rattle.breaker.specs.Calls.{fresh, unstarted, start_of, unless_stopped, report_of, timed, tick_of, heard_of}
use Rattle.breaker.specs.Runs.{Call, report, tick, heard, called, answers_of, after}
use Rattle.breaker.specs.Theorems.{SoundStart, SoundCall, SoundRun, Typed, TypedStart, TypedCall, RefusedKeeps, StaysStopped}
use Rattle.breaker.specs.FullEquation.{SettingsKept}
use Rattle.breaker.specs.Windows.{empty_window}
use Rattle.breaker.proofs.Chains.{by_test}
use Rattle.breaker.proofs.Facts.{m_low}
use Rattle.breaker.proofs.Calls.{Held, Halted, Beside, Fine, tick_fine, heard_fine, report_fine}

call_fine : (b : Breaker) (c : Call) → Fine b c (called b c)
unfolding called
call_fine b (report r) = report_fine b r
call_fine b (tick time) = tick_fine b time
call_fine b (heard time) = heard_fine b time

-- ---- sound stays sound

fresh_sound : (s : Settings) (time : ℕ) → settings_ok s ≡ true → time_ok time ≡ true → sound (fresh s time) ≡ true
unfolding sound empty_window
fresh_sound s time h t =
    λ i. h i && (lt-ltb 0 s.m (m_low s h) i && (le-leb 0 s.k zero-le i && (true && (t i && (t i && (true && (true && (true && true))))))))

-- a step that answers Go holds a sound record with all its places
abbrev pub Begun : Step → Type 0
Begun x = x.answer ≡ Go → Held x.breaker

unstarted_begun : Begun unstarted
unfolding empty_window
unstarted_begun e = let z : ◌≡◌ {A = ℕ} 0 1 = cc in absurd (omega arith)

pub start_held : (s : Settings) (time : ℕ) → Begun (start_of s time)
unfolding start_of empty_window
start_held s time =
    by_test Begun (not (settings_ok s)) _ _ (λ _. unstarted_begun)
    (λ h. by_test Begun (not (time_ok time)) _ _ (λ _. unstarted_begun)
    (λ t _. record { is_sound = fresh_sound s time (not-false (settings_ok s) h) (not-false (time_ok time) t); places = refl }))

pub sound_start : SoundStart
sound_start s time e = (start_held s time e).is_sound

pub sound_call : SoundCall
sound_call b c places h = ((call_fine b c).kept (record { is_sound = h; places = places })).is_sound

pub call_held : (b : Breaker) (c : Call) → Held b → Held (called b c).breaker
call_held b c h = (call_fine b c).kept h

run_held : (b : Breaker) (calls : List Call) → Held b → Held (after b calls)
unfolding after
run_held b [] h = h
run_held b (c ∷ cs) h = run_held (called b c).breaker cs (call_held b c h)

pub sound_run_lem : SoundRun
sound_run_lem s time calls e = (run_held (start_of s time).breaker calls (start_held s time e)).is_sound

-- ---- typed stays typed

fresh_typed : (s : Settings) (time : ℕ) → Typed (fresh s time)
unfolding empty_window
fresh_typed s time = record { number = omega arith; places = refl }

pub typed_start : TypedStart
unfolding start_of
typed_start s time =
    by_test (λ x. Typed x.breaker) (not (settings_ok s)) _ _ (λ _. fresh_typed _ 0)
    (λ _. by_test (λ x. Typed x.breaker) (not (time_ok time)) _ _ (λ _. fresh_typed _ 0) (λ _. fresh_typed s time))

pub typed_call : TypedCall
typed_call b c t n = (call_fine b c).typed n t

-- ---- the settings stay

pub settings_kept : SettingsKept
settings_kept b c = (call_fine b c).settings

-- ---- refused keeps the record

pub refused_keeps : RefusedKeeps
refused_keeps b c refusal e = subst (λ (a : Answer). Beside b a (called b c).breaker) e (call_fine b c).beside

-- ---- stopped stays stopped

-- a call on a record that has stopped
module _ (b : Breaker) (reason : Reason) (h : Halted b reason) where
  again : (x : Step) → cond (not (sound b)) (refuses Malformed b) (unless_stopped b.state b x) ≡ answers (Stop reason) b
  again x =
      ap (λ (t : Bool). cond (not t) (refuses Malformed b) (unless_stopped b.state b x)) h.is_sound
      ∙ ap (λ (s : State). unless_stopped s b x) h.stopped

  halted_call : (c : Call) → called b c ≡ answers (Stop reason) b
  unfolding called report_of timed tick_of heard_of
  halted_call (report r) = again _
  halted_call (tick time) = again _
  halted_call (heard time) = again _

  halted_answers : (later : List Call) → answers_of b later ≡ map (λ (_ : Call). Stop reason) later
  unfolding answers_of
  halted_answers [] = refl
  halted_answers (c ∷ cs) =
      (λ i. (halted_call c i).answer ∷ answers_of (halted_call c i).breaker cs) ∙ ap (λ (l : List Answer). Stop reason ∷ l) (halted_answers cs)

  pub halted_after : (later : List Call) → after b later ≡ b
  unfolding after
  halted_after [] = refl
  halted_after (c ∷ cs) = ap (λ (s : Step). after s.breaker cs) (halted_call c) ∙ halted_after cs

pub stays_stopped : StaysStopped
stays_stopped b c reason later e =
    let h = subst (λ (a : Answer). Beside b a (called b c).breaker) e (call_fine b c).beside in
    (halted_answers (called b c).breaker reason h later, halted_after (called b c).breaker reason h later)
