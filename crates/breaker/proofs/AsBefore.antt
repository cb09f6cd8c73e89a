-- Without heard calls every run answers as before request L4. Assumes nothing.
use mathlib.Core.Path.{◌≡◌, refl, sym, ap, ◌∙◌}
use mathlib.Core.Bool.{Bool, true, false, not, ◌&&◌, ◌||◌, cond, false≢true}
use mathlib.Core.List.{List, [], ◌∷◌, map}
use Prim.Native.Nat.{ℕ, suc, ◌+◌, ◌-◌, ◌≤◌, ◌<◌, min}
use native.Mathlib.Omega.{arith}
use borrow.Author.Tests.{leb-false, le-leb, le-ltb}
use lib.Dec.{leb, ltb, eqb}
use lib.ListN.{length}
use Rattle.answers.specs.Conditions.{all}
use Rattle.answers.specs.declared.Refusal.TheVariants.{Malformed, Limits, Time}
use Rattle.answers.proofs.Conditions.{and_left, and_right}
use Rattle.breaker.specs.declared.Reason.{Reason}
use Rattle.breaker.specs.declared.Reason.TheVariants.{Timeout, Media, Congestion}
use Rattle.breaker.specs.declared.Settings.{Settings}
use Rattle.breaker.specs.declared.State.{State}
use Rattle.breaker.specs.declared.State.TheVariants.{Running, Stopped}
use Rattle.breaker.specs.declared.Window.{Window}
use Rattle.breaker.specs.declared.Breaker.{Breaker}
use Rattle.breaker.specs.declared.Report.{Report}
use Rattle.breaker.specs.declared.Answer.{Answer}
use Rattle.breaker.specs.declared.Answer.TheVariants.{Go, Reduce, Stop, Refused}
use Rattle.breaker.specs.declared.Step.{Step}
use Rattle.breaker.specs.Answers.{answers, goes, refuses, stops}
use Rattle.breaker.specs.Limits.{settings_ok, time_ok, report_ok}
use Rattle.breaker.specs.FractionLost.{fraction_of}
use Rattle.breaker.specs.Windows.{empty_window, pushed, in_use}
use Rattle.breaker.specs.Soundness.{sound}
use Rattle.breaker.specs.Rules.{stored, late, run_after, closed, window_after, holds, ruled_by, ruled}
use Rattle.breaker.specs.Calls.{unless_stopped, opened, start_of, report_of, early, timed, tick_of}
use Rattle.breaker.specs.Runs.{Call, report, tick, heard, called, answers_of}
use Rattle.breaker.specs.WithoutHeard.{short_ok, sound_before, opened_before, late_before, window_before, called_before, answers_before, no_heard}
use Rattle.breaker.specs.HeardPackets.{Unheard, CallAsBefore, RunAsBefore}
use Rattle.breaker.proofs.Chains.{by_test}
use Rattle.breaker.proofs.Places.{front_first}
use Rattle.breaker.proofs.Facts.{settings_of_lem, k_high, timeout_high}
use Rattle.breaker.proofs.Runs.{call_held, start_held}

-- the next record has heard no packet, and its lengths are short
record Short (s : Step) : Type 0 where
  held : s.breaker.heard ≡ s.breaker.last
  lengths : all (map short_ok (in_use s.breaker.window)) ≡ true

empty_short : all (map short_ok (in_use empty_window)) ≡ true
unfolding empty_window
empty_short = refl

module _ (b : Breaker) (u : Unheard b) where
  is_sound_lem : sound b ≡ true
  unfolding sound_before
  is_sound_lem = and_left (sound b) _ u.is_sound

  shorts : all (map short_ok (in_use b.window)) ≡ true
  unfolding sound_before
  shorts = and_right (sound b) _ u.is_sound

  -- ---- the answers

  same_opening : (next : Step) → opened b next ≡ opened_before b next
  same_opening next =
      ap (λ (t : Bool). cond (not t) (refuses Malformed b) (unless_stopped b.state b next)) (is_sound_lem ∙ sym u.is_sound)

  same_late : (time : ℕ) → late b time ≡ late_before b time
  same_late time = ap (λ (n : ℕ). leb b.settings.timeout (time - n)) u.held

  same_early : (time : ℕ) → early b time ≡ ltb time b.last
  same_early time = ap (λ (n : ℕ). ltb time b.last || ltb time n) u.held ∙ twice (ltb time b.last)
    where
      twice : (t : Bool) → (t || t) ≡ t
      twice true = refl
      twice false = refl

  -- an interval that is closed in time is short
  in_time : (r : Report) → late b r.time ≡ false → r.time - b.last ≤ 599999
  in_time r e =
      let l : r.time - b.heard < b.settings.timeout = leb-false _ _ e in
      omega (arith, u.held, timeout_high b.settings (settings_of_lem b is_sound_lem))

  same_window : (r : Report) → late b r.time ≡ false → window_after b r ≡ window_before b r
  unfolding window_after
  same_window r e =
      let l = in_time r e in
      let m : min (r.time - b.last) 10000000 ≡ r.time - b.last = omega arith in
      ap (λ (n : ℕ). pushed b.settings.k (record { length = n; fraction = fraction_of r.loss }) b.window) m

  same_rules : (r : Report) → ruled b r ≡ ruled_by (late_before b r.time) (window_before b r) b r
  unfolding ruled_by ruled
  same_rules r = go (late b r.time) refl ∙ ap (λ (t : Bool). ruled_by t (window_before b r) b r) (same_late r.time)
    where
      go : (t : Bool) → late b r.time ≡ t → ruled_by (late b r.time) (window_after b r) b r ≡ ruled_by (late b r.time) (window_before b r) b r
      go true q =
          ap (λ (t : Bool). ruled_by t (window_after b r) b r) q ∙ sym (ap (λ (t : Bool). ruled_by t (window_before b r) b r) q)
      go false q = ap (λ (w : Window). ruled_by (late b r.time) w b r) (same_window r q)

  -- a time that is later than the last report is not before the time held
  once : (time : ℕ) (x : Step) → cond (leb time b.last) (refuses Time b) (cond (ltb time b.heard) (refuses Time b) x) ≡ cond (leb time b.last) (refuses Time b) x
  once time x = go (leb time b.last) refl
    where
      go : (t : Bool) → leb time b.last ≡ t → cond t (refuses Time b) (cond (ltb time b.heard) (refuses Time b) x) ≡ cond t (refuses Time b) x
      go true q = refl
      go false q =
          let l : b.last < time = leb-false _ _ q in
          let m : b.heard ≤ time = omega (arith, u.held) in
          ap (λ (t : Bool). cond t (refuses Time b) x) (le-ltb time b.heard m)

  same_call : (c : Call) → no_heard c ≡ true → called b c ≡ called_before b c
  unfolding called called_before report_of timed tick_of
  same_call (report r) e =
      same_opening _
      ∙ ap (λ (x : Step). opened_before b (cond (not (report_ok r)) (refuses Limits b) x))
      (once r.time (ruled b r) ∙ ap (λ (x : Step). cond (leb r.time b.last) (refuses Time b) x) (same_rules r))
  same_call (tick time) e =
      same_opening _
      ∙ (λ i. opened_before b (cond (not (time_ok time)) (refuses Limits b) (cond (same_early time i) (refuses Time b) (cond (same_late time i) (stops Timeout b) (goes b)))))
  same_call (heard time) e = absurd (false≢true e)

  -- ---- the next record

  same_short : (a : Answer) → Short (answers a b)
  same_short a = record { held = u.held; lengths = shorts }

  stop_short : (reason : Reason) → Short (stops reason b)
  stop_short reason = record { held = u.held; lengths = shorts }

  stored_short : (a : Answer) (r : Report) (run : ℕ) (trial : Bool) (w : Window) → all (map short_ok (in_use w)) ≡ true → Short (answers a (stored b r run trial w))
  stored_short a r run trial w h = record { held = refl; lengths = h }

  after_short : (r : Report) → late b r.time ≡ false → all (map short_ok (in_use (window_after b r))) ≡ true
  unfolding window_after
  after_short r e =
      let l = in_time r e in
      let m : (closed b r).length ≤ 599999 = omega arith in
      let few : b.settings.k ≤ suc (length b.window.intervals) = omega (arith, u.places, k_high b.settings (settings_of_lem b is_sound_lem)) in
      front_first short_ok (min b.settings.k (b.window.used + 1)) b.settings.k b.window.used (closed b r) b.window.intervals
      (omega arith) few (omega arith) (le-leb _ _ m) shorts

  ruled_short : (r : Report) → Short (ruled b r)
  unfolding ruled_by ruled
  ruled_short r =
      let run = run_after b r in
      let w = window_after b r in
      by_test Short (eqb r.rate 0) _ _ (λ _. stored_short Go r 0 b.trial empty_window empty_short)
      (λ _. by_test Short (late b r.time) _ _ (λ _. stop_short Timeout)
      (λ l. by_test Short (leb b.settings.m run) _ _ (λ _. stop_short Media)
      (λ _. by_test Short (not b.reported) _ _ (λ _. stored_short Go r run b.trial b.window shorts)
      (λ _. by_test Short (ltb w.used b.settings.k) _ _ (λ _. stored_short Go r run b.trial w (after_short r l))
      (λ _. by_test Short (not (holds b.settings w r)) _ _ (λ _. stored_short Go r run false w (after_short r l))
      (λ _. by_test Short (b.settings.reduce && not b.trial) _ _ (λ _. stored_short Reduce r run true empty_window empty_short)
      (λ _. stop_short Congestion)))))))

  by_state : (s : State) (x : Step) → Short x → Short (unless_stopped s b x)
  by_state Running x f = f
  by_state (Stopped reason) x f = same_short (Stop reason)

  call_short : (c : Call) → no_heard c ≡ true → Short (called b c)
  unfolding called report_of timed tick_of
  call_short (report r) e =
      by_test Short (not (sound b)) _ _ (λ _. same_short (Refused Malformed))
      (λ _. by_state b.state _
      (by_test Short (not (report_ok r)) _ _ (λ _. same_short (Refused Limits))
      (λ _. by_test Short (leb r.time b.last) _ _ (λ _. same_short (Refused Time))
      (λ _. by_test Short (ltb r.time b.heard) _ _ (λ _. same_short (Refused Time)) (λ _. ruled_short r)))))
  call_short (tick time) e =
      by_test Short (not (sound b)) _ _ (λ _. same_short (Refused Malformed))
      (λ _. by_state b.state _
      (by_test Short (not (time_ok time)) _ _ (λ _. same_short (Refused Limits))
      (λ _. by_test Short (early b time) _ _ (λ _. same_short (Refused Time))
      (λ _. by_test Short (late b time) _ _ (λ _. stop_short Timeout) (λ _. same_short Go)))))
  call_short (heard time) e = absurd (false≢true e)

  next_unheard : (c : Call) → no_heard c ≡ true → Unheard (called b c).breaker
  unfolding sound_before
  next_unheard c e =
      let h = call_held b c (record { is_sound = is_sound_lem; places = u.places }) in
      let s = call_short c e in
      record { is_sound = λ i. h.is_sound i && s.lengths i; held = s.held; places = h.places }

pub call_as_before : CallAsBefore
call_as_before b c e u = (same_call b u c e, next_unheard b u c e)

-- ---- runs

run_before : (b : Breaker) (calls : List Call) → Unheard b → all (map no_heard calls) ≡ true → answers_of b calls ≡ answers_before b calls
unfolding answers_of answers_before
run_before b [] u h = refl
run_before b (c ∷ cs) u h =
    let e = and_left (no_heard c) _ h in
    ap (λ (l : List Answer). (called b c).answer ∷ l) (run_before (called b c).breaker cs (next_unheard b u c e) (and_right (no_heard c) _ h))
    ∙ ap (λ (s : Step). s.answer ∷ answers_before s.breaker cs) (same_call b u c e)

start_short : (s : Settings) (time : ℕ) → Short (start_of s time)
unfolding start_of
start_short s time =
    by_test Short (not (settings_ok s)) _ _ (λ _. record { held = refl; lengths = empty_short })
    (λ _. by_test Short (not (time_ok time)) _ _ (λ _. record { held = refl; lengths = empty_short }) (λ _. record { held = refl; lengths = empty_short }))

pub run_as_before : RunAsBefore
unfolding sound_before
run_as_before s time calls e h =
    let k = start_held s time e in
    let f = start_short s time in
    run_before (start_of s time).breaker calls (record { is_sound = λ i. k.is_sound i && f.lengths i; held = f.held; places = k.places }) h
