-- Document 01, "The breaker", and 02, request L4: the window of the last intervals, the newest first.
use Rattle.std.specs.Prelude.{Bool, ◌&&◌, List, [], ◌∷◌, ◌++◌, ℕ, ◌+◌, ◌-◌, ◌*◌, min, leb, eqb, take, drop, replicate}
use Rattle.breaker.specs.declared.Interval.{Interval}
use Rattle.breaker.specs.declared.Window.{Window}
use Rattle.breaker.specs.Limits.{within}

-- a place that is not in use
abbrev pub zero_interval : Interval
zero_interval = record { length = 0; fraction = 0 }

unfoldable pub empty_window : Window
empty_window = record { used = 0; intervals = replicate 32 zero_interval }

-- x in front, of which the first k are kept; the places behind are zero
abbrev pub in_front : ℕ → Interval → List Interval → List Interval
in_front k x xs = take k (x ∷ xs) ++ replicate (32 - k) zero_interval

-- one interval more; the last k are kept
abbrev pub pushed : ℕ → Interval → Window → Window
pushed k x w = record { used = min k (w.used + 1); intervals = in_front k x w.intervals }

-- the places in use, and the others
abbrev pub in_use : Window → List Interval
in_use w = take w.used w.intervals

abbrev pub unused : Window → List Interval
unused w = drop w.used w.intervals

-- a fraction is from 0 to 255, a stored length from 1 to 10,000,000 ms
abbrev pub fraction_ok : Interval → Bool
fraction_ok x = leb x.fraction 255

abbrev pub length_ok : Interval → Bool
length_ok x = within 1 10000000 x.length

abbrev pub is_zero : Interval → Bool
is_zero x = eqb x.length 0 && eqb x.fraction 0

-- ---- the sums of a list of intervals

abbrev pub sum_of : (Interval → ℕ) → List Interval → ℕ
sum_of f [] = 0
sum_of f (x ∷ xs) = f x + sum_of f xs

-- W, the sum of the lengths
abbrev pub W : List Interval → ℕ
W xs = sum_of (λ x. x.length) xs

-- P, the sum of f times length
abbrev pub P : List Interval → ℕ
P xs = sum_of (λ x. x.fraction * x.length) xs
