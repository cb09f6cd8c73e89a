-- Each record that a call hands back, part by part: after a stop, and after a report that is stored. Assumes nothing.
use mathlib.Core.Path.{◌≡◌, refl}
use mathlib.Core.Bool.{Bool, true, ◌&&◌}
use mathlib.Core.List.{map, ◌∷◌}
use Prim.Native.Nat.{ℕ, suc, ◌+◌, ◌-◌, ◌≤◌, ◌<◌, zero-le, min}
use native.Mathlib.Omega.{arith}
use borrow.Author.Tests.{le-leb, lt-ltb}
use lib.ListN.{length, take, replicate, length-append, length-replicate}
use lib.Seq.{length-take-le}
use Rattle.answers.specs.Conditions.{all}
use Rattle.answers.proofs.Conditions.{all_true}
use Rattle.breaker.specs.declared.Reason.{Reason}
use Rattle.breaker.specs.declared.State.{State}
use Rattle.breaker.specs.declared.State.TheVariants.{Running, Stopped}
use Rattle.breaker.specs.declared.Window.{Window}
use Rattle.breaker.specs.declared.Interval.{Interval}
use Rattle.breaker.specs.declared.Breaker.{Breaker}
use Rattle.breaker.specs.declared.Report.{Report}
use Rattle.breaker.specs.Answers.{stops}
use Rattle.breaker.specs.Limits.{time_ok, report_ok}
use Rattle.breaker.specs.Calls.{holding}
use Rattle.breaker.specs.Windows.{zero_interval, empty_window, fraction_ok, length_ok, is_zero, in_use, unused}
use Rattle.breaker.specs.Soundness.{run_ok, conditions, sound}
use Rattle.breaker.specs.Rules.{stored, closed, window_after}
use Rattle.breaker.specs.Private.{Accepted}
use Rattle.breaker.proofs.Places.{front_first, front_rest}
use Rattle.breaker.proofs.Facts.{k_high, settings_of_lem, run_of, used_of, fractions_of, last_of, heard_of_lem, lengths_of, unused_of, number_of, time_of, fraction_of_lem, closed_length}

-- the array has all its places
abbrev pub Whole : Window → Type 0
Whole w = length w.intervals ≡ 32

-- a window that a sound record may hold
pub record Fit (k : ℕ) (w : Window) : Type 0 where
  pub used : w.used ≤ k
  pub fractions : all (map fraction_ok (in_use w)) ≡ true
  pub lengths : all (map length_ok (in_use w)) ≡ true
  pub rest : all (map is_zero (unused w)) ≡ true
  pub places : Whole w

pub empty_fit : (k : ℕ) → Fit k empty_window
unfolding empty_window
empty_fit k = record { used = zero-le; fractions = refl; lengths = refl; rest = refl; places = refl }

pub same_fit : (b : Breaker) → sound b ≡ true → Whole b.window → Fit b.settings.k b.window
same_fit b h e = record { used = used_of b h; fractions = fractions_of b h; lengths = lengths_of b h; rest = unused_of b h; places = e }

pub after_fit : (b : Breaker) (r : Report) → Accepted b r → Whole b.window → Fit b.settings.k (window_after b r)
unfolding window_after
after_fit b r h e =
    let k = b.settings.k in
    let u = b.window.used in
    let xs = b.window.intervals in
    let x = closed b r in
    let ok = h.is_sound in
    let k₂ : k ≤ 32 = k_high b.settings (settings_of_lem b ok) in
    let l : k ≤ suc (length xs) = omega arith in
    let front : length (take k (x ∷ xs)) ≡ k = length-take-le k (x ∷ xs) l in
    record {
      used = omega arith;
      fractions = front_first fraction_ok (min k (u + 1)) k u x xs (omega arith) l (omega arith) (fraction_of_lem r h.in_limits) (fractions_of b ok);
      lengths = front_first length_ok (min k (u + 1)) k u x xs (omega arith) l (omega arith) (closed_length b r h) (lengths_of b ok);
      rest = front_rest is_zero k u x xs l refl (unused_of b ok);
      places = omega (arith, length-append (take k (x ∷ xs)) (replicate (32 - k) zero_interval), length-replicate {A = Interval} (32 - k) zero_interval);
    }

-- ---- the record

run_below_ok : (s : State) (run m : ℕ) → run < m → run_ok s run m ≡ true
run_below_ok Running run m h = lt-ltb run m h
run_below_ok (Stopped reason) run m h = refl

pub stored_sound : (b : Breaker) (r : Report) (run : ℕ) (trial : Bool) (w : Window) → sound b ≡ true → report_ok r ≡ true → run < b.settings.m
    → Fit b.settings.k w → sound (stored b r run trial w) ≡ true
unfolding sound
stored_sound b r run trial w h limits below fit =
    λ i. settings_of_lem b h i
    && (run_below_ok b.state run b.settings.m below i
    && (le-leb w.used b.settings.k fit.used i
    && (fit.fractions i
    && (time_of r limits i
    && (time_of r limits i
    && (fit.lengths i
    && (fit.rest i
    && (true && true))))))))

pub stop_sound : (b : Breaker) (reason : Reason) → sound b ≡ true → sound (stops reason b).breaker ≡ true
unfolding sound
stop_sound b reason h =
    λ i. settings_of_lem b h i
    && (true
    && (all_true (conditions b) 2 h i
    && (fractions_of b h i
    && (last_of b h i
    && (heard_of_lem b h i
    && (lengths_of b h i
    && (unused_of b h i
    && (number_of b h i && true))))))))

pub held_sound : (b : Breaker) (time : ℕ) → sound b ≡ true → time_ok time ≡ true → sound (holding b time) ≡ true
unfolding sound
held_sound b time h t =
    λ i. settings_of_lem b h i
    && (run_of b h i
    && (all_true (conditions b) 2 h i
    && (fractions_of b h i
    && (last_of b h i
    && (t i
    && (lengths_of b h i
    && (unused_of b h i
    && (number_of b h i && true))))))))
