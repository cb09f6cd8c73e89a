-- What every call does to a record: a sound one stays sound, one that fits its types does so again, a stop is stored, a refusal changes nothing.
-- Assumes nothing.
use mathlib.Core.Path.{◌≡◌, refl}
use mathlib.Core.Bool.{Bool, true, false, not, ◌&&◌}
use Prim.Native.Nat.{ℕ, ◌<◌}
use borrow.Author.Tests.{leb-false, ltb-true, ltb-false, not-false}
use lib.Dec.{leb, ltb, eqb}
use Rattle.answers.specs.declared.Refusal.TheVariants.{Malformed, Limits, Time}
use Rattle.breaker.specs.declared.Reason.{Reason}
use Rattle.breaker.specs.declared.Reason.TheVariants.{Timeout, Media, Congestion}
use Rattle.breaker.specs.declared.State.{State}
use Rattle.breaker.specs.declared.State.TheVariants.{Running, Stopped}
use Rattle.breaker.specs.declared.Answer.{Answer}
use Rattle.breaker.specs.declared.Answer.TheVariants.{Go, Reduce, Stop, Refused}
use Rattle.breaker.specs.declared.Window.{Window}
use Rattle.breaker.specs.declared.Breaker.{Breaker}
use Rattle.breaker.specs.declared.Report.{Report}
use Rattle.breaker.specs.declared.Step.{Step}
use Rattle.breaker.specs.Answers.{answers, stops}
use Rattle.breaker.specs.Limits.{time_ok, report_ok}
use Rattle.breaker.specs.Windows.{empty_window}
use Rattle.breaker.specs.Soundness.{sound}
use Rattle.breaker.specs.Rules.{stored, late, run_after, window_after, holds, ruled_by, ruled}
use Rattle.breaker.specs.Private.{Accepted}
use Rattle.breaker.specs.Calls.{unless_stopped, report_of, early, timed, tick_of, holding, heard_of}
use Rattle.breaker.specs.Runs.{Call, report, tick, heard}
use Rattle.breaker.specs.Theorems.{Typed, number_fits}
use Rattle.breaker.proofs.Chains.{by_test}
use Rattle.breaker.proofs.Facts.{settings_of_lem, m_low}
use Rattle.breaker.proofs.Kept.{Whole, Fit, empty_fit, same_fit, after_fit, stored_sound, stop_sound, held_sound}

-- a sound record with all its places
pub record Held (b : Breaker) : Type 0 where
  pub is_sound : sound b ≡ true
  pub places : Whole b.window

-- a sound record that has stopped
pub record Halted (b : Breaker) (reason : Reason) : Type 0 where
  pub is_sound : sound b ≡ true
  pub stopped : b.state ≡ Stopped reason

module _ (b : Breaker) where
  -- what an answer says of the record beside it
  abbrev pub Beside : Answer → Breaker → Type 0
  Beside Go next = Unit {0}
  Beside Reduce next = Unit {0}
  Beside (Stop reason) next = Halted next reason
  Beside (Refused refusal) next = next ≡ b

  -- what the step of a call may be
  pub record Fine (c : Call) (s : Step) : Type 0 where
    pub settings : s.breaker.settings ≡ b.settings
    pub kept : Held b → Held s.breaker
    pub typed : number_fits c ≡ true → Typed b → Typed s.breaker
    pub beside : Beside s.answer s.breaker

  -- ---- the ends of a chain

  same_fine : {c : Call} (a : Answer) → Beside a b → Fine c (answers a b)
  same_fine a d = record { settings = refl; kept = λ h. h; typed = λ _ t. t; beside = d }

  stop_fine : {c : Call} (reason : Reason) → sound b ≡ true → Fine c (stops reason b)
  stop_fine reason h =
      record {
        settings = refl;
        kept = λ k. record { is_sound = stop_sound b reason h; places = k.places };
        typed = λ _ t. record { number = t.number; places = t.places };
        beside = record { is_sound = stop_sound b reason h; stopped = refl };
      }

  stored_fine : (a : Answer) → ((next : Breaker) → Beside a next) → (r : Report) (run : ℕ) (trial : Bool) (w : Window) → sound b ≡ true → report_ok r ≡ true
      → run < b.settings.m → (Whole b.window → Fit b.settings.k w) → Fine (report r) (answers a (stored b r run trial w))
  stored_fine a d r run trial w h limits below fit =
      record {
        settings = refl;
        kept = λ k. record { is_sound = stored_sound b r run trial w h limits below (fit k.places); places = (fit k.places).places };
        typed = λ n t. record { number = ltb-true _ _ n; places = (fit t.places).places };
        beside = d _;
      }

  -- ---- a chain, test by test

  by_state : {c : Call} (s : State) (x : Step) → b.state ≡ s → sound b ≡ true → (s ≡ Running → Fine c x) → Fine c (unless_stopped s b x)
  by_state Running x e h f = f refl
  by_state (Stopped reason) x e h f =
      record { settings = refl; kept = λ k. k; typed = λ _ t. t; beside = record { is_sound = h; stopped = e } }

  -- ---- the calls

  timed_fine : {c : Call} (time : ℕ) (next : Breaker) → (sound b ≡ true → time_ok time ≡ true → Fine c (answers Go next)) → Fine c (timed b time next)
  unfolding timed
  timed_fine {c} time next go =
      by_test (Fine c) (not (sound b)) _ _ (λ _. same_fine (Refused Malformed) refl)
      (λ q. let h = not-false (sound b) q in
      by_state b.state _ refl h
      (λ _. by_test (Fine c) (not (time_ok time)) _ _ (λ _. same_fine (Refused Limits) refl)
      (λ t. by_test (Fine c) (early b time) _ _ (λ _. same_fine (Refused Time) refl)
      (λ _. by_test (Fine c) (late b time) _ _ (λ _. stop_fine Timeout h) (λ _. go h (not-false (time_ok time) t))))))

  pub tick_fine : (time : ℕ) → Fine (tick time) (tick_of b time)
  unfolding tick_of
  tick_fine time = timed_fine time b (λ _ _. same_fine Go tt)

  pub heard_fine : (time : ℕ) → Fine (heard time) (heard_of b time)
  unfolding heard_of
  heard_fine time =
      timed_fine time (holding b time)
      (λ h t.
      record {
        settings = refl;
        kept = λ k. record { is_sound = held_sound b time h t; places = k.places };
        typed = λ _ y. record { number = y.number; places = y.places };
        beside = tt;
      })

  ruled_fine : (r : Report) → Accepted b r → Fine (report r) (ruled b r)
  unfolding ruled ruled_by
  ruled_fine r a =
      let h = a.is_sound in
      let limits = a.in_limits in
      let k = b.settings.k in
      let run = run_after b r in
      let w = window_after b r in
      by_test (Fine (report r)) (eqb r.rate 0) _ _ (λ _. stored_fine Go (λ _. tt) r 0 b.trial empty_window h limits (m_low b.settings (settings_of_lem b h)) (λ _. empty_fit k))
      (λ _. by_test (Fine (report r)) (late b r.time) _ _ (λ _. stop_fine Timeout h)
      (λ _. by_test (Fine (report r)) (leb b.settings.m run) _ _ (λ _. stop_fine Media h)
      (λ m. let below = leb-false _ _ m in
      by_test (Fine (report r)) (not b.reported) _ _ (λ _. stored_fine Go (λ _. tt) r run b.trial b.window h limits below (same_fit b h))
      (λ _. let fit = after_fit b r a in
      by_test (Fine (report r)) (ltb w.used k) _ _ (λ _. stored_fine Go (λ _. tt) r run b.trial w h limits below fit)
      (λ _. by_test (Fine (report r)) (not (holds b.settings w r)) _ _ (λ _. stored_fine Go (λ _. tt) r run false w h limits below fit)
      (λ _. by_test (Fine (report r)) (b.settings.reduce && not b.trial) _ _ (λ _. stored_fine Reduce (λ _. tt) r run true empty_window h limits below (λ _. empty_fit k))
      (λ _. stop_fine Congestion h)))))))

  pub report_fine : (r : Report) → Fine (report r) (report_of b r)
  unfolding report_of
  report_fine r =
      by_test (Fine (report r)) (not (sound b)) _ _ (λ _. same_fine (Refused Malformed) refl)
      (λ q. let h = not-false (sound b) q in
      by_state b.state _ refl h
      (λ s. by_test (Fine (report r)) (not (report_ok r)) _ _ (λ _. same_fine (Refused Limits) refl)
      (λ l. by_test (Fine (report r)) (leb r.time b.last) _ _ (λ _. same_fine (Refused Time) refl)
      (λ t. by_test (Fine (report r)) (ltb r.time b.heard) _ _ (λ _. same_fine (Refused Time) refl)
      (λ u. ruled_fine r (record { is_sound = h; running = s; in_limits = not-false (report_ok r) l; later = leb-false _ _ t; not_before = ltb-false _ _ u }))))))
