-- What a sound record and a report in its limits say, part by part. Assumes nothing.
use mathlib.Core.Path.{◌≡◌, sym, ◌∙◌, ap}
use mathlib.Core.Bool.{true, ◌&&◌}
use mathlib.Core.List.{[], ◌∷◌, map}
use Prim.Native.Nat.{ℕ, suc, ◌+◌, ◌-◌, ◌≤◌, ◌<◌, min}
use native.Mathlib.Nat.{le_refl}
use native.Mathlib.Omega.{arith}
use borrow.Author.Tests.{leb-true, ltb-true, le-leb}
use lib.Dec.{leb}
use lib.ListN.{length, get_or, take}
use Rattle.answers.specs.Conditions.{all}
use Rattle.answers.proofs.Conditions.{and_left, and_right, all_true}
use Rattle.breaker.specs.declared.State.{State}
use Rattle.breaker.specs.declared.State.TheVariants.{Running}
use Rattle.breaker.specs.declared.Settings.{Settings}
use Rattle.breaker.specs.declared.Breaker.{Breaker}
use Rattle.breaker.specs.declared.Report.{Report}
use Rattle.breaker.specs.Limits.{within, settings_ok, time_ok, loss_ok, report_ok}
use Rattle.breaker.specs.FractionLost.{fraction_of}
use Rattle.breaker.specs.Windows.{fraction_ok, length_ok, is_zero, in_use, unused}
use Rattle.breaker.specs.Private.{interval_ok, Accepted}
use Rattle.breaker.specs.Soundness.{run_ok, number_ok, conditions, sound}
use Rattle.breaker.specs.Rules.{closed, window_after}
use Rattle.breaker.proofs.FractionLost.{fraction_in_range}
use Rattle.breaker.proofs.Places.{front_first, used_intervals}

module _ (low high x : ℕ) (h : within low high x ≡ true) where
  low_of : low ≤ x
  low_of = leb-true low x (and_left (leb low x) _ h)

  high_of : x ≤ high
  high_of = leb-true x high (and_right (leb low x) _ h)

-- ---- settings

module _ (s : Settings) (h : settings_ok s ≡ true) where
  part : (i : ℕ) → get_or (within 1 32 s.k ∷ within 1 32 s.m ∷ within 1 600000 s.timeout ∷ []) i true ≡ true
  unfolding settings_ok
  part i = all_true (within 1 32 s.k ∷ within 1 32 s.m ∷ within 1 600000 s.timeout ∷ []) i h

  pub k_low : 1 ≤ s.k
  k_low = low_of 1 32 s.k (part 0)

  pub k_high : s.k ≤ 32
  k_high = high_of 1 32 s.k (part 0)

  pub m_low : 1 ≤ s.m
  m_low = low_of 1 32 s.m (part 1)

  pub m_high : s.m ≤ 32
  m_high = high_of 1 32 s.m (part 1)

  pub timeout_high : s.timeout ≤ 600000
  timeout_high = high_of 1 600000 s.timeout (part 2)

-- ---- a record

module _ (b : Breaker) (h : sound b ≡ true) where
  pub settings_of_lem : settings_ok b.settings ≡ true
  unfolding sound
  settings_of_lem = all_true (conditions b) 0 h

  pub run_of : run_ok b.state b.run b.settings.m ≡ true
  unfolding sound
  run_of = all_true (conditions b) 1 h

  pub used_of : b.window.used ≤ b.settings.k
  unfolding sound
  used_of = leb-true _ _ (all_true (conditions b) 2 h)

  pub fractions_of : all (map fraction_ok (in_use b.window)) ≡ true
  unfolding sound
  fractions_of = all_true (conditions b) 3 h

  pub last_of : time_ok b.last ≡ true
  unfolding sound
  last_of = all_true (conditions b) 4 h

  pub heard_of_lem : time_ok b.heard ≡ true
  unfolding sound
  heard_of_lem = all_true (conditions b) 5 h

  pub lengths_of : all (map length_ok (in_use b.window)) ≡ true
  unfolding sound
  lengths_of = all_true (conditions b) 6 h

  pub unused_of : all (map is_zero (unused b.window)) ≡ true
  unfolding sound
  unused_of = all_true (conditions b) 7 h

  pub number_of : number_ok b.reported b.highest ≡ true
  unfolding sound
  number_of = all_true (conditions b) 8 h

  pub run_below : b.state ≡ Running → b.run < b.settings.m
  run_below e = ltb-true _ _ (ap (λ (s : State). run_ok s b.run b.settings.m) (sym e) ∙ run_of)

-- ---- a report

module _ (r : Report) (h : report_ok r ≡ true) where
  piece : (i : ℕ) → get_or (time_ok r.time ∷ loss_ok r.loss ∷ leb r.rtt 60000 ∷ within 1 65535 r.size ∷ leb r.rate 125000000 ∷ []) i true ≡ true
  unfolding report_ok
  piece i = all_true (time_ok r.time ∷ loss_ok r.loss ∷ leb r.rtt 60000 ∷ within 1 65535 r.size ∷ leb r.rate 125000000 ∷ []) i h

  pub time_of : time_ok r.time ≡ true
  time_of = piece 0

  pub loss_of_lem : loss_ok r.loss ≡ true
  loss_of_lem = piece 1

  pub fraction_of_lem : leb (fraction_of r.loss) 255 ≡ true
  fraction_of_lem = le-leb _ _ (fraction_in_range r.loss loss_of_lem)

  pub rtt_high : r.rtt ≤ 60000
  rtt_high = leb-true _ _ (piece 2)

  pub size_high : r.size ≤ 65535
  size_high = high_of 1 65535 r.size (piece 3)

  pub rate_high : r.rate ≤ 125000000
  rate_high = leb-true _ _ (piece 4)

-- ---- the interval that an accepted report closes

module _ (b : Breaker) (r : Report) (h : Accepted b r) where
  pub closed_length : length_ok (closed b r) ≡ true
  closed_length =
      let l : 1 ≤ min (r.time - b.last) 10000000 = omega (arith, h.later) in
      let m : min (r.time - b.last) 10000000 ≤ 10000000 = omega arith in
      λ i. le-leb 1 (closed b r).length l i && le-leb (closed b r).length 10000000 m i

  -- with k intervals in the window, the last k have room
  pub after_intervals : length b.window.intervals ≡ 32 → b.settings.k ≤ b.window.used + 1
      → all (map interval_ok (take b.settings.k (window_after b r).intervals)) ≡ true
  unfolding window_after
  after_intervals e u =
      let k = b.settings.k in
      let ok = h.is_sound in
      let x = closed b r in
      let h₂ : k ≤ suc (length b.window.intervals) = omega (arith, k_high b.settings (settings_of_lem b ok)) in
      used_intervals (take k (window_after b r).intervals)
      (front_first fraction_ok k k b.window.used x b.window.intervals (le_refl k) h₂ u (fraction_of_lem r h.in_limits) (fractions_of b ok))
      (front_first length_ok k k b.window.used x b.window.intervals (le_refl k) h₂ u closed_length (lengths_of b ok))
