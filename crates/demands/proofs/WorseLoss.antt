-- Worse loss never buys time: the two records stay in step until the second has stopped. Assumes nothing.
use mathlib.Core.Path.{◌≡◌, refl, sym, ap, ◌∙◌, subst}
use mathlib.Core.Bool.{Bool, true, false, not, ◌&&◌, cond, false≢true, true≢false}
use mathlib.Core.List.{List, [], ◌∷◌, ◌++◌}
use Prim.Native.Nat.{ℕ, zero, suc, ◌+◌, ◌-◌, ◌*◌, ◌^◌, ◌≤◌, zero-le}
use native.Mathlib.Nat.{le_refl, mul-le-mul_left, mul-le-mul_right, lt_of_lt_of_le}
use native.Mathlib.Omega.{arith}
use borrow.Author.Tests.{ltb-true, lt-ltb}
use lib.Dec.{leb, ltb, eqb}
use lib.IntN.{pos}
use lib.ListN.{take, replicate}
use Rattle.answers.specs.Conditions.{all}
use Rattle.answers.specs.declared.Refusal.TheVariants.{Limits, Time}
use Rattle.numbers.specs.Since.{since}
use Rattle.roots.specs.FullCondition.{loss_of}
use Rattle.roots.proofs.Losses.{greater_loss_triggers, loss_grows}
use Rattle.breaker.specs.declared.Reason.{Reason}
use Rattle.breaker.specs.declared.Reason.TheVariants.{Timeout, Media, Congestion}
use Rattle.breaker.specs.declared.State.{State}
use Rattle.breaker.specs.declared.State.TheVariants.{Running, Stopped}
use Rattle.breaker.specs.declared.Settings.{Settings}
use Rattle.breaker.specs.declared.Interval.{Interval}
use Rattle.breaker.specs.declared.Window.{Window}
use Rattle.breaker.specs.declared.Breaker.{Breaker}
use Rattle.breaker.specs.declared.Loss.{Loss}
use Rattle.breaker.specs.declared.Loss.TheVariants.{Fraction, Counts}
use Rattle.breaker.specs.declared.Report.{Report}
use Rattle.breaker.specs.declared.Answer.{Answer}
use Rattle.breaker.specs.declared.Answer.TheVariants.{Go, Stop, Refused}
use Rattle.breaker.specs.declared.Step.{Step}
use Rattle.breaker.specs.Answers.{answers, stops}
use Rattle.breaker.specs.Limits.{within, settings_ok, time_ok, counts_ok, loss_ok, report_ok}
use Rattle.breaker.specs.FractionLost.{fraction_of, counts_fraction}
use Rattle.breaker.specs.Windows.{zero_interval, empty_window, W, P}
use Rattle.breaker.specs.Condition.{condition_by}
use Rattle.breaker.specs.Soundness.{sound}
use Rattle.breaker.specs.Rules.{stored, late, run_after, window_after, last_intervals, holds, ruled_by, ruled}
use Rattle.breaker.specs.Calls.{unless_stopped, opened, unstarted, start_of, report_of, early, timed, tick_of, holding, heard_of}
use Rattle.breaker.specs.Runs.{Call, called, answers_of, after}
use Rattle.breaker.specs.Theorems.{with_loss}
use Rattle.breaker.proofs.Chains.{by_test}
use Rattle.breaker.proofs.Calls.{Held, Halted}
use Rattle.breaker.proofs.Runs.{start_held, call_held, settings_kept, halted_after}
use Rattle.demands.specs.WorseLoss.{NoBetter, NoBetterCall, NoBetterCalls, is_stopped, stopped_by, WorseLossNeverBuysTime, NoBetterPlaces, with_intervals, InStep, InStepUntilStopped, report_with, better, worse, over_two, WorseLossExample}

-- ---- places

places_same : (xs : List Interval) → NoBetterPlaces xs xs
places_same [] = NoBetterPlaces.none
places_same (x ∷ xs) = NoBetterPlaces.more refl (le_refl x.fraction) (places_same xs)

places_take : (n : ℕ) {xs ys : List Interval} → NoBetterPlaces xs ys → NoBetterPlaces (take n xs) (take n ys)
places_take zero h = NoBetterPlaces.none
places_take (suc n) NoBetterPlaces.none = NoBetterPlaces.none
places_take (suc n) (NoBetterPlaces.more e l h) = NoBetterPlaces.more e l (places_take n h)

places_append : {xs ys : List Interval} (zs : List Interval) → NoBetterPlaces xs ys → NoBetterPlaces (xs ++ zs) (ys ++ zs)
places_append zs NoBetterPlaces.none = places_same zs
places_append zs (NoBetterPlaces.more e l h) = NoBetterPlaces.more e l (places_append zs h)

same_w : {xs ys : List Interval} → NoBetterPlaces xs ys → W xs ≡ W ys
same_w NoBetterPlaces.none = refl
same_w (NoBetterPlaces.more e l h) = λ i. e i + same_w h i

greater_p : {xs ys : List Interval} → NoBetterPlaces xs ys → P xs ≤ P ys
greater_p NoBetterPlaces.none = le_refl 0
greater_p (NoBetterPlaces.more {x} {y} e l h) =
    let a = greater_p h in
    let b = mul-le-mul_right x.length l in
    let d : y.fraction * x.length ≡ y.fraction * y.length = ap (λ (n : ℕ). y.fraction * n) e in
    omega arith

-- ---- the condition grows with P, by either equation

module _ (rate Tr s W₁ : ℕ) {P₁ P₂ : ℕ} (l : P₁ ≤ P₂) where
  by_equation : (full : Bool) → condition_by full rate Tr P₁ s W₁ ≡ true → condition_by full rate Tr P₂ s W₁ ≡ true
  by_equation true h = greater_loss_triggers rate Tr (loss_of P₁ W₁) (loss_of P₂ W₁) s (loss_grows P₁ P₂ W₁ l) h
  by_equation false h =
      lt-ltb (38400000000 * s ^ 2 * W₁) (rate ^ 2 * Tr ^ 2 * P₂)
      (lt_of_lt_of_le (ltb-true (38400000000 * s ^ 2 * W₁) (rate ^ 2 * Tr ^ 2 * P₁) h) (mul-le-mul_left (rate ^ 2 * Tr ^ 2) l))

grows : (s : Settings) (v w : Window) (r : Report) (l m : Loss) → NoBetterPlaces v.intervals w.intervals
    → holds s v (with_loss r l) ≡ true → holds s w (with_loss r m) ≡ true
unfolding holds
grows s v w r l m h t =
    let p = places_take s.k h in
    ap (λ (n : ℕ). condition_by s.full r.rate r.rtt (P (last_intervals s w)) r.size n) (sym (same_w p))
    ∙ by_equation r.rate r.rtt r.size (W (last_intervals s v)) (greater_p p) s.full t

-- ---- what two calls come to: the second has stopped, or the answers are the same and the records in step

data Outcome (s t : Step) : Type 0 where
  stopped : (reason : Reason) → t.breaker.state ≡ Stopped reason → Outcome s t
  together : s.answer ≡ t.answer → InStep s.breaker t.breaker → Outcome s t

-- a test that both make
one_test : (t : Bool) (s₁ s₂ t₁ t₂ : Step) → Outcome s₁ t₁ → Outcome s₂ t₂ → Outcome (cond t s₁ s₂) (cond t t₁ t₂)
one_test true s₁ s₂ t₁ t₂ f g = f
one_test false s₁ s₂ t₁ t₂ f g = g

equal_tests : (t u : Bool) (s₁ s₂ t₁ t₂ : Step) → t ≡ u → Outcome s₁ t₁ → Outcome s₂ t₂ → Outcome (cond t s₁ s₂) (cond u t₁ t₂)
equal_tests t u s₁ s₂ t₁ t₂ e f g = subst (λ (v : Bool). Outcome (cond t s₁ s₂) (cond v t₁ t₂)) e (one_test t s₁ s₂ t₁ t₂ f g)

-- the condition: where it holds in the first it does in the second, and where it holds in the second alone that one stops
condition_test : (t u : Bool) (s₁ s₂ t₁ t₂ : Step) → (t ≡ true → u ≡ true) → Outcome s₁ t₁ → Outcome s₁ t₂ → Outcome s₂ t₂
    → Outcome (cond (not t) s₁ s₂) (cond (not u) t₁ t₂)
condition_test true true s₁ s₂ t₁ t₂ grow f g h = h
condition_test true false s₁ s₂ t₁ t₂ grow f g h = absurd (false≢true (grow refl))
condition_test false true s₁ s₂ t₁ t₂ grow f g h = g
condition_test false false s₁ s₂ t₁ t₂ grow f g h = f

-- a choice that is not taken
skipped : (t u : Bool) (s₁ s₂ t₁ t₂ : Step) → t ≡ false → u ≡ false → Outcome s₂ t₂ → Outcome (cond t s₁ s₂) (cond u t₁ t₂)
skipped true u s₁ s₂ t₁ t₂ e f g = absurd (true≢false e)
skipped false true s₁ s₂ t₁ t₂ e f g = absurd (true≢false f)
skipped false false s₁ s₂ t₁ t₂ e f g = g

-- ---- one call, on a record and on the same with other fractions

module _ (b : Breaker) (ys : List Interval) (h : NoBetterPlaces b.window.intervals ys) where
  -- the same answer, with the record as it is or with a stop
  same : (a : Answer) → Outcome (answers a b) (answers a (with_intervals b ys))
  same a = Outcome.together refl (record { equal = refl; ordered = h })

  both_stop : (reason : Reason) → Outcome (stops reason b) (stops reason (with_intervals b ys))
  both_stop reason = Outcome.together refl (record { equal = refl; ordered = h })

  by_state : (s : State) (x y : Step) → Outcome x y → Outcome (unless_stopped s b x) (unless_stopped s (with_intervals b ys) y)
  by_state Running x y f = f
  by_state (Stopped reason) x y f = same (Stop reason)

  module _ (e : sound b ≡ true) (f : sound (with_intervals b ys) ≡ true) where
    opens : (x y : Step) → Outcome x y → Outcome (opened b x) (opened (with_intervals b ys) y)
    opens x y o = skipped (not (sound b)) (not (sound (with_intervals b ys))) _ _ _ _ (ap not e) (ap not f) (by_state b.state x y o)

    timed_step : (time : ℕ) (n₁ n₂ : Breaker) → InStep n₁ n₂ → Outcome (timed b time n₁) (timed (with_intervals b ys) time n₂)
    unfolding timed
    timed_step time n₁ n₂ i =
        opens _ _
        (one_test (not (time_ok time)) _ _ _ _ (same (Refused Limits))
        (one_test (early b time) _ _ _ _ (same (Refused Time))
        (one_test (late b time) _ _ _ _ (both_stop Timeout) (Outcome.together refl i))))

    module _ (never : b.settings.reduce ≡ false) (r : Report) (l m : Loss) (q : NoBetter l m) where
      -- the records that both store
      both_store : (a : Answer) (run : ℕ) (trial : Bool) (v w : Window) → v.used ≡ w.used → NoBetterPlaces v.intervals w.intervals
          → Outcome (answers a (stored b (with_loss r l) run trial v)) (answers a (stored (with_intervals b ys) (with_loss r m) run trial w))
      both_store a run trial v w u p =
          Outcome.together refl
          (record { equal = λ i. stored b (with_loss r l) run trial (record { used = u i; intervals = w.intervals }); ordered = p })

      windows : NoBetterPlaces (window_after b (with_loss r l)).intervals (window_after (with_intervals b ys) (with_loss r m)).intervals
      unfolding window_after
      windows = places_append (replicate (32 - b.settings.k) zero_interval) (places_take b.settings.k (NoBetterPlaces.more refl q.at_least h))

      ruled_step : Outcome (ruled b (with_loss r l)) (ruled (with_intervals b ys) (with_loss r m))
      unfolding run_after window_after ruled_by ruled
      ruled_step =
          let run = run_after b r in
          let v = window_after b (with_loss r l) in
          let w = window_after (with_intervals b ys) (with_loss r m) in
          one_test (eqb r.rate 0) _ _ _ _ (both_store Go 0 b.trial empty_window empty_window refl (places_same _))
          (one_test (late b r.time) _ _ _ _ (both_stop Timeout)
          (one_test (leb b.settings.m run) _ _ _ _ (both_stop Media)
          (one_test (not b.reported) _ _ _ _ (both_store Go run b.trial b.window (record { used = b.window.used; intervals = ys }) refl h)
          (one_test (ltb v.used b.settings.k) _ _ _ _ (both_store Go run b.trial v w refl windows)
          (condition_test (holds b.settings v (with_loss r l)) (holds b.settings w (with_loss r m)) _ _ _ _ (grows b.settings v w r l m windows)
          (both_store Go run false v w refl windows)
          (second_stops _ _)
          (skipped (b.settings.reduce && not b.trial) (b.settings.reduce && not b.trial) _ _ _ _ none none (both_stop Congestion)))))))
        where
          none : (b.settings.reduce && not b.trial) ≡ false
          none = ap (λ (t : Bool). t && not b.trial) never

          second_stops : (s t : Step) → Outcome s (cond (b.settings.reduce && not b.trial) t (stops Congestion (with_intervals b ys)))
          second_stops s t = Outcome.stopped Congestion (ap (λ (u : Bool). (cond u t (stops Congestion (with_intervals b ys))).breaker.state) none)

      same_limits : report_ok (with_loss r l) ≡ report_ok (with_loss r m)
      unfolding report_ok
      same_limits =
          ap (λ (t : Bool). all (time_ok r.time ∷ t ∷ leb r.rtt 60000 ∷ within 1 65535 r.size ∷ leb r.rate 125000000 ∷ []))
          (q.first_ok ∙ sym q.second_ok)

      report_step : Outcome (report_of b (with_loss r l)) (report_of (with_intervals b ys) (with_loss r m))
      unfolding report_of
      report_step =
          opens _ _
          (equal_tests (not (report_ok (with_loss r l))) (not (report_ok (with_loss r m))) _ _ _ _ (ap not same_limits) (same (Refused Limits))
          (one_test (leb r.time b.last) _ _ _ _ (same (Refused Time))
          (one_test (ltb r.time b.heard) _ _ _ _ (same (Refused Time)) ruled_step)))

-- ---- a list of calls

call_step : (b : Breaker) (ys : List Interval) → NoBetterPlaces b.window.intervals ys → sound b ≡ true → sound (with_intervals b ys) ≡ true
    → b.settings.reduce ≡ false → {c d : Call} → NoBetterCall c d → Outcome (called b c) (called (with_intervals b ys) d)
unfolding called tick_of heard_of
call_step b ys h e f never (NoBetterCall.reports r l m q) = report_step b ys h e f never r l m q
call_step b ys h e f never (NoBetterCall.ticks time) = timed_step b ys h e f time b (with_intervals b ys) (record { equal = refl; ordered = h })
call_step b ys h e f never (NoBetterCall.heards time) =
    timed_step b ys h e f time (holding b time) (holding (with_intervals b ys) time) (record { equal = refl; ordered = h })

-- the same on records in step
step : (b c : Breaker) → InStep b c → sound b ≡ true → sound c ≡ true → b.settings.reduce ≡ false → {x y : Call} → NoBetterCall x y
    → Outcome (called b x) (called c y)
step b c i e f never {x} {y} q =
    subst (λ (z : Breaker). Outcome (called b x) (called z y)) i.equal
    (call_step b c.window.intervals i.ordered e (ap sound i.equal ∙ f) never q)

-- the second has stopped, or all answers were the same and the records are in step
data Outcomes (b c : Breaker) (xs ys : List Call) : Type 0 where
  stopped : is_stopped (after c ys).state ≡ true → Outcomes b c xs ys
  together : answers_of b xs ≡ answers_of c ys → InStep (after b xs) (after c ys) → Outcomes b c xs ys

run : (b c : Breaker) (xs ys : List Call) → InStep b c → Held b → Held c → b.settings.reduce ≡ false → NoBetterCalls xs ys → Outcomes b c xs ys
unfolding answers_of after
run b c [] [] i h k never q = Outcomes.together refl i
run b c [] (y ∷ ys) i h k never q = elim q [ ]
run b c (x ∷ xs) [] i h k never q = elim q [ ]
run b c (x ∷ xs) (y ∷ ys) i h k never (NoBetterCalls.more q qs) =
    one (step b c i h.is_sound k.is_sound never q)
    (λ j. run (called b x).breaker (called c y).breaker xs ys j (call_held b x h) (call_held c y k) (ap (λ (s : Settings). s.reduce) (settings_kept b x) ∙ never) qs)
  where
    rest : (called b x).answer ≡ (called c y).answer → Outcomes (called b x).breaker (called c y).breaker xs ys → Outcomes b c (x ∷ xs) (y ∷ ys)
    rest e (Outcomes.stopped t) = Outcomes.stopped t
    rest e (Outcomes.together es j) = Outcomes.together (λ i. e i ∷ es i) j

    one : Outcome (called b x) (called c y) → (InStep (called b x).breaker (called c y).breaker → Outcomes (called b x).breaker (called c y).breaker xs ys)
        → Outcomes b c (x ∷ xs) (y ∷ ys)
    one (Outcome.stopped reason e) next =
        let halted : Halted (called c y).breaker reason = record { is_sound = (call_held c y k).is_sound; stopped = e } in
        Outcomes.stopped (ap (λ (z : Breaker). is_stopped z.state) (halted_after (called c y).breaker reason halted ys) ∙ ap is_stopped e)
    one (Outcome.together e j) next = rest e (next j)

-- the first calls of two lists
firsts : (n : ℕ) {xs ys : List Call} → NoBetterCalls xs ys → NoBetterCalls (take n xs) (take n ys)
firsts zero h = NoBetterCalls.none
firsts (suc n) NoBetterCalls.none = NoBetterCalls.none
firsts (suc n) (NoBetterCalls.more q qs) = NoBetterCalls.more q (firsts n qs)

-- a start that is not refused has its settings
abbrev Set : Settings → Step → Type 0
Set s x = x.answer ≡ Go → x.breaker.settings ≡ s

refused_set : (s : Settings) → Set s unstarted
unfolding empty_window
refused_set s e = let z : ◌≡◌ {A = ℕ} 0 1 = cc in absurd (omega arith)

start_settings : (s : Settings) (time : ℕ) → Set s (start_of s time)
unfolding start_of
start_settings s time =
    by_test (Set s) (not (settings_ok s)) _ _ (λ _. refused_set s)
    (λ _. by_test (Set s) (not (time_ok time)) _ _ (λ _. refused_set s) (λ _ _. refl))

from_start : (s : Settings) (time : ℕ) (first second : List Call) → (start_of s time).answer ≡ Go → s.reduce ≡ false → NoBetterCalls first second
    → Outcomes (start_of s time).breaker (start_of s time).breaker first second
from_start s time first second started never q =
    let b = (start_of s time).breaker in
    let h = start_held s time started in
    run b b first second (record { equal = refl; ordered = places_same _ }) h h (ap (λ (z : Settings). z.reduce) (start_settings s time started) ∙ never) q

pub worse_loss_never_buys_time : WorseLossNeverBuysTime
worse_loss_never_buys_time s time n first second started never q t = go (from_start s time (take n first) (take n second) started never (firsts n q))
  where
    go : Outcomes (start_of s time).breaker (start_of s time).breaker (take n first) (take n second) → stopped_by s time n second ≡ true
    go (Outcomes.stopped e) = e
    go (Outcomes.together es i) = ap (λ (z : Breaker). is_stopped z.state) (sym i.equal) ∙ t

pub in_step_until_stopped : InStepUntilStopped
in_step_until_stopped s time first second started never q t = go (from_start s time first second started never q)
  where
    go : Outcomes (start_of s time).breaker (start_of s time).breaker first second
        → (answers_of (start_of s time).breaker first ≡ answers_of (start_of s time).breaker second)
        × InStep (after (start_of s time).breaker first) (after (start_of s time).breaker second)
    go (Outcomes.stopped e) = absurd (true≢false (sym e ∙ t))
    go (Outcomes.together es i) = (es, i)

-- ---- the example

one : (n : ℕ) (l m : Loss) → NoBetter l m → NoBetterCall (report_with n l) (report_with n m)
one n l m q = NoBetterCall.reports (record { time = n * 1000; highest = n; loss = l; rtt = 16; size = 1000; rate = 1000000 }) l m q

same_loss : (n : ℕ) (l : Loss) → loss_ok l ≡ true → NoBetterCall (report_with n l) (report_with n l)
same_loss n l e = one n l l (record { first_ok = e; second_ok = e; at_least = le_refl (fraction_of l) })

marked : NoBetter (Fraction 0) (Counts (record { lost = pos 0; marked = 1000; expected = 1000 }))
unfolding counts_ok
marked = record { first_ok = refl; second_ok = refl; at_least = zero-le }

pub worse_loss_example : WorseLossExample
unfolding since settings_ok counts_ok report_ok counts_fraction empty_window sound run_after window_after holds ruled_by ruled start_of report_of called answers_of after
worse_loss_example =
    record {
      started = refl;
      stopped = refl;
      running = refl;
      no_better =
          NoBetterCalls.more (same_loss 1 (Fraction 0) refl)
          (NoBetterCalls.more (one 2 (Fraction 0) (Counts (record { lost = pos 0; marked = 1000; expected = 1000 })) marked)
          (NoBetterCalls.more (same_loss 3 (Fraction 200) refl)
          (NoBetterCalls.more (same_loss 4 (Fraction 120) refl)
          (NoBetterCalls.more (same_loss 5 (Fraction 120) refl)
          (NoBetterCalls.more (same_loss 6 (Fraction 255) refl) NoBetterCalls.none)))));
      first = refl;
      second = refl;
      reduced_first = refl;
      reduced_second = refl;
    }

used : Unit {0}
used =
    let e = worse_loss_example in
    let never = worse_loss_never_buys_time (over_two false) 0 4 better worse e.started refl e.no_better e.stopped in
    let step = in_step_until_stopped (over_two false) 0 (take 2 better) (take 2 worse) e.started refl (firsts 2 e.no_better) e.running in
    tt
