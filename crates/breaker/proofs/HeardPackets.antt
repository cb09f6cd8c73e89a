-- A heard packet changes the time held alone, and no rule but the timeout and 11 sees that time. Assumes nothing.
use mathlib.Core.Path.{◌≡◌, refl, sym, ap, ◌∙◌, subst}
use mathlib.Core.Bool.{Bool, true, false, not, ◌&&◌, cond, false≢true, true≢false}
use mathlib.Core.List.{List, [], ◌∷◌, map}
use Prim.Native.Nat.{ℕ}
use native.Mathlib.Omega.{arith}
use lib.Dec.{leb, ltb, eqb}
use Rattle.answers.specs.Conditions.{all}
use Rattle.answers.proofs.Conditions.{and_left, and_right}
use Rattle.numbers.specs.Since.{since}
use Rattle.breaker.specs.declared.State.{State}
use Rattle.breaker.specs.declared.State.TheVariants.{Running, Stopped}
use Rattle.breaker.specs.declared.Answer.{Answer}
use Rattle.breaker.specs.declared.Answer.TheVariants.{Go, Reduce, Stop, Refused}
use Rattle.breaker.specs.declared.Reason.TheVariants.{Timeout, Media, Congestion}
use Rattle.answers.specs.declared.Refusal.TheVariants.{Malformed, Limits, Time}
use Rattle.breaker.specs.declared.Breaker.{Breaker}
use Rattle.breaker.specs.declared.Report.{Report}
use Rattle.breaker.specs.declared.Step.{Step}
use Rattle.breaker.specs.Answers.{answers}
use Rattle.breaker.specs.Limits.{settings_ok, time_ok, report_ok}
use Rattle.breaker.specs.Windows.{empty_window}
use Rattle.breaker.specs.Soundness.{sound}
use Rattle.breaker.specs.Rules.{late, run_after, window_after, holds, ruled_by, ruled}
use Rattle.breaker.specs.Calls.{unless_stopped, start_of, report_of, early, timed, tick_of, holding, heard_of}
use Rattle.breaker.specs.Runs.{Call, report, tick, heard, called, answers_of, after}
use Rattle.breaker.specs.HeardPackets.{HeardHolds, untimed, HeardUnseen, LongIsCut, LongInterval, SomeUnseen}
use Rattle.breaker.proofs.Chains.{by_test}

-- ---- two steps that answer the same, and whose records differ in the time held alone

pub record Alike (s t : Step) : Type 0 where
  pub answers : s.answer ≡ t.answer
  pub records : holding s.breaker 0 ≡ holding t.breaker 0

-- they are so unless one of them goes by the time held
record Same (s t : Step) : Type 0 where
  alike : untimed s.answer ≡ true → untimed t.answer ≡ true → Alike s t

same : (a : Answer) (b c : Breaker) → holding b 0 ≡ holding c 0 → Same (answers a b) (answers a c)
same a b c e = record { alike = λ _ _. record { answers = refl; records = e } }

-- a test that both make
one_test : (t : Bool) (s₁ s₂ t₁ t₂ : Step) → Same s₁ t₁ → Same s₂ t₂ → Same (cond t s₁ s₂) (cond t t₁ t₂)
one_test true s₁ s₂ t₁ t₂ f g = f
one_test false s₁ s₂ t₁ t₂ f g = g

-- tests that go by the time held
two_tests : (t u : Bool) (s₁ s₂ t₁ t₂ : Step) → untimed s₁.answer ≡ false → untimed t₁.answer ≡ false → Same s₂ t₂
    → Same (cond t s₁ s₂) (cond u t₁ t₂)
two_tests true u s₁ s₂ t₁ t₂ e f g = record { alike = λ h k. absurd (false≢true (sym e ∙ h)) }
two_tests false true s₁ s₂ t₁ t₂ e f g = record { alike = λ h k. absurd (false≢true (sym f ∙ k)) }
two_tests false false s₁ s₂ t₁ t₂ e f g = g

-- ---- a call on two records that differ in the time held alone

module _ (b : Breaker) (x y : ℕ) where
  by_state : (s : State) (next₁ next₂ : Step) → Same next₁ next₂ → Same (unless_stopped s (holding b x) next₁) (unless_stopped s (holding b y) next₂)
  by_state Running next₁ next₂ f = f
  by_state (Stopped reason) next₁ next₂ f = same (Stop reason) (holding b x) (holding b y) refl

  timed_same : (time : ℕ) (n₁ n₂ : Breaker) → holding n₁ 0 ≡ holding n₂ 0 → Same (timed (holding b x) time n₁) (timed (holding b y) time n₂)
  unfolding timed
  timed_same time n₁ n₂ e =
      two_tests (not (sound (holding b x))) (not (sound (holding b y))) _ _ _ _ refl refl
      (by_state b.state _ _
      (one_test (not (time_ok time)) _ _ _ _ (same (Refused Limits) _ _ refl)
      (two_tests (early (holding b x) time) (early (holding b y) time) _ _ _ _ refl refl
      (two_tests (late (holding b x) time) (late (holding b y) time) _ _ _ _ refl refl (same Go _ _ e)))))

  ruled_same : (r : Report) → Same (ruled (holding b x) r) (ruled (holding b y) r)
  unfolding run_after window_after ruled_by ruled
  ruled_same r =
      one_test (eqb r.rate 0) _ _ _ _ (same Go _ _ refl)
      (two_tests (late (holding b x) r.time) (late (holding b y) r.time) _ _ _ _ refl refl
      (one_test (leb b.settings.m (run_after b r)) _ _ _ _ (same (Stop Media) _ _ refl)
      (one_test (not b.reported) _ _ _ _ (same Go _ _ refl)
      (one_test (ltb (window_after b r).used b.settings.k) _ _ _ _ (same Go _ _ refl)
      (one_test (not (holds b.settings (window_after b r) r)) _ _ _ _ (same Go _ _ refl)
      (one_test (b.settings.reduce && not b.trial) _ _ _ _ (same Reduce _ _ refl) (same (Stop Congestion) _ _ refl)))))))

  report_same : (r : Report) → Same (report_of (holding b x) r) (report_of (holding b y) r)
  unfolding report_of
  report_same r =
      two_tests (not (sound (holding b x))) (not (sound (holding b y))) _ _ _ _ refl refl
      (by_state b.state _ _
      (one_test (not (report_ok r)) _ _ _ _ (same (Refused Limits) _ _ refl)
      (two_tests (leb r.time b.last) (leb r.time b.last) _ _ _ _ refl refl
      (two_tests (ltb r.time x) (ltb r.time y) _ _ _ _ refl refl (ruled_same r)))))

  call_same : (c : Call) → Same (called (holding b x) c) (called (holding b y) c)
  unfolding called tick_of heard_of
  call_same (report r) = report_same r
  call_same (tick time) = timed_same time (holding b x) (holding b y) refl
  call_same (heard time) = timed_same time (holding b time) (holding b time) refl

-- ---- a list of calls

abbrev Untimed : Breaker → List Call → Type 0
Untimed b calls = all (map untimed (answers_of b calls)) ≡ true

record AlikeRuns (b c : Breaker) (calls : List Call) : Type 0 where
  answers : answers_of b calls ≡ answers_of c calls
  records : holding (after b calls) 0 ≡ holding (after c calls) 0

runs : (b c : Breaker) (calls : List Call) → holding b 0 ≡ holding c 0 → Untimed b calls → Untimed c calls → AlikeRuns b c calls
unfolding answers_of after
runs b c [] e h k = record { answers = refl; records = e }
runs b c (call ∷ calls) e h k =
    let back : holding b c.heard ≡ c = λ i. holding (e i) c.heard in
    let s : Same (called b call) (called c call) = subst (λ (z : Breaker). Same (called b call) (called z call)) back (call_same b b.heard c.heard call) in
    let one = s.alike (and_left (untimed (called b call).answer) _ h) (and_left (untimed (called c call).answer) _ k) in
    let more = runs (called b call).breaker (called c call).breaker calls one.records (and_right (untimed (called b call).answer) _ h) (and_right (untimed (called c call).answer) _ k) in
    record { answers = λ i. one.answers i ∷ more.answers i; records = more.records }

pub heard_unseen : HeardUnseen
heard_unseen b x y calls h k = let r = runs (holding b x) (holding b y) calls refl h k in (r.answers, r.records)

-- ---- the time held

abbrev is_go : Answer → Bool
is_go Go = true
is_go Reduce = false
is_go (Stop reason) = false
is_go (Refused refusal) = false

-- where a step answers Go, its record is `next`
record Goes (next : Breaker) (s : Step) : Type 0 where
  moved : s.answer ≡ Go → s.breaker ≡ next

not_go : (next : Breaker) (a : Answer) (b : Breaker) → is_go a ≡ false → Goes next (answers a b)
not_go next a b e = record { moved = λ h. absurd (true≢false (sym (ap is_go h) ∙ e)) }

timed_goes : (b next : Breaker) (time : ℕ) → Goes next (timed b time next)
unfolding timed
timed_goes b next time =
    by_test (Goes next) (not (sound b)) _ _ (λ _. not_go next (Refused Malformed) b refl)
    (λ _. go b.state
    (by_test (Goes next) (not (time_ok time)) _ _ (λ _. not_go next (Refused Limits) b refl)
    (λ _. by_test (Goes next) (early b time) _ _ (λ _. not_go next (Refused Time) b refl)
    (λ _. by_test (Goes next) (late b time) _ _ (λ _. not_go next (Stop Timeout) _ refl) (λ _. record { moved = λ _. refl })))))
  where
    go : (s : State) {x : Step} → Goes next x → Goes next (unless_stopped s b x)
    go Running f = f
    go (Stopped reason) f = not_go next (Stop reason) b refl

pub heard_holds : HeardHolds
unfolding heard_of
heard_holds b time = (timed_goes b (holding b time) time).moved

-- ---- long intervals

pub long_is_cut : LongIsCut
long_is_cut b r = record { long = λ h. omega arith; short = λ h. omega arith }

pub long_interval : LongInterval
unfolding since settings_ok report_ok empty_window sound run_after window_after holds ruled_by ruled start_of report_of timed heard_of called answers_of after
long_interval = record { heard = refl; unheard = refl }

pub some_unseen : SomeUnseen
unfolding since settings_ok report_ok empty_window sound run_after window_after holds ruled_by ruled start_of report_of timed tick_of called answers_of
some_unseen = record { first = refl; second = refl }
