-- The breaker's record (document 01, "The breaker", and 02, requests L4 and L9) as 77 words, in the order of include/flasknib.h.
use Rattle.std.specs.Prelude.{◌≡◌, Bool, true, cond, List, [], ◌∷◌, ℕ, zero, suc, ◌%◌, ◌^◌, leb, ltb, eqb, length, drop, get_or, Result, Ok, Err}
use Rattle.answers.specs.Conditions.{all}
use Rattle.breaker.specs.declared.Reason.TheVariants.{Timeout, Media, Congestion}
use Rattle.breaker.specs.declared.State.{State}
use Rattle.breaker.specs.declared.State.TheVariants.{Running, Stopped}
use Rattle.breaker.specs.declared.Settings.{Settings}
use Rattle.breaker.specs.declared.Interval.{Interval}
use Rattle.breaker.specs.declared.Window.{Window}
use Rattle.breaker.specs.declared.Breaker.{Breaker}
use Rattle.breaker.specs.Answers.{reason_number}
use Rattle.breaker.specs.Theorems.{Typed}

-- ---- the words of a record

-- a yes-or-no word
abbrev pub flag : Bool → ℕ
flag b = cond b 1 0

-- 0 running, else the reason of the stop
abbrev pub state_number : State → ℕ
state_number Running = 0
state_number (Stopped reason) = reason_number reason

-- length and fraction lost of each interval
unfoldable pub interval_words : List Interval → List ℕ
interval_words [] = []
interval_words (x ∷ xs) = x.length ∷ x.fraction ∷ interval_words xs

unfoldable pub breaker_words : Breaker → List ℕ
breaker_words b =
    b.settings.k
    ∷ b.settings.m
    ∷ b.settings.timeout
    ∷ flag b.settings.reduce
    ∷ flag b.settings.full
    ∷ state_number b.state
    ∷ b.last
    ∷ b.heard
    ∷ flag b.reported
    ∷ b.highest
    ∷ b.run
    ∷ flag b.trial
    ∷ b.window.used
    ∷ interval_words b.window.intervals

-- ---- the record of given words; a word past the end reads 0

abbrev pub state_of : ℕ → State
state_of n = cond (eqb n 1) (Stopped Timeout) (cond (eqb n 2) (Stopped Media) (cond (eqb n 3) (Stopped Congestion) Running))

-- n intervals, two words each
unfoldable pub intervals_of : ℕ → List ℕ → List Interval
intervals_of zero ws = []
intervals_of (suc n) ws = record { length = get_or ws 0 0; fraction = get_or ws 1 0 } ∷ intervals_of n (drop 2 ws)

unfoldable pub settings_of : List ℕ → Settings
settings_of ws = record { k = get_or ws 0 0; m = get_or ws 1 0; timeout = get_or ws 2 0; reduce = eqb (get_or ws 3 0) 1; full = eqb (get_or ws 4 0) 1 }

unfoldable pub window_of : List ℕ → Window
window_of ws = record { used = get_or ws 12 0; intervals = intervals_of 32 (drop 13 ws) }

unfoldable pub breaker_of : List ℕ → Breaker
breaker_of ws =
    record {
      settings = settings_of ws;
      state = state_of (get_or ws 5 0);
      last = get_or ws 6 0;
      heard = get_or ws 7 0;
      reported = eqb (get_or ws 8 0) 1;
      highest = get_or ws 9 0 % 2 ^ 32;
      run = get_or ws 10 0;
      trial = eqb (get_or ws 11 0) 1;
      window = window_of ws;
    }

-- ---- which words are those of a record

-- the yes-or-no words are 0 or 1, the state is 0 to 3, the highest number has 32 bits
unfoldable pub words_fit : List ℕ → List Bool
words_fit ws =
    leb (get_or ws 3 0) 1
    ∷ leb (get_or ws 4 0) 1
    ∷ leb (get_or ws 5 0) 3
    ∷ leb (get_or ws 8 0) 1
    ∷ ltb (get_or ws 9 0) (2 ^ 32)
    ∷ leb (get_or ws 11 0) 1
    ∷ []

-- the record that words are read as, and whether they fit a record's
abbrev pub loaded : List ℕ → Result Breaker Breaker
loaded ws = cond (all (words_fit ws)) (Ok (breaker_of ws)) (Err (breaker_of ws))

-- ---- both ways are inverse

abbrev pub BreakerRestored : Type 0
BreakerRestored = (b : Breaker) → Typed b → (breaker_of (breaker_words b) ≡ b) × (all (words_fit (breaker_words b)) ≡ true)

abbrev pub WordsRestored : Type 0
WordsRestored = (ws : List ℕ) → length ws ≡ 77 → all (words_fit ws) ≡ true → breaker_words (breaker_of ws) ≡ ws

-- whatever the words, what they are read as fits its types
abbrev pub ReadTyped : Type 0
ReadTyped = (ws : List ℕ) → Typed (breaker_of ws)
