-- Laws of the ones' complement sum (RFC 1071): it is the plain sum, taken around 65,535. Assumes nothing.
use Rattle.std.proofs.Common.{◌≡◌, ℕ, zero, suc, ◌+◌, ◌-◌, ◌*◌, ◌/◌, ◌%◌, ◌<◌, ◌≤◌, List, [], ◌∷◌, ◌++◌, length, get_or, drop, sym, refl, ap, ◌∙◌, ap₂, add-zero, add-suc, add-one, arith, drop_of_length-le, drop-cons}
use native.Mathlib.Nat.{mod-add-mod}
use Rattle.numbers.proofs.BigEndian.{Octets}
use Rattle.trace.specs.Checksum.{words, ones_add, ones_sum}
use Rattle.trace.proofs.Tallies.{tally}

-- the plain sum of words
abbrev pub total : List ℕ → ℕ
total ws = tally (λ (w : ℕ). w) ws

-- a plain sum whose carries are added at the right: 0 is 0, and any other number is taken to 1 .. 65,535
unfoldable pub carried : ℕ → ℕ
carried zero = 0
carried (suc t) = suc (t % 65535)

carried_word : (w : ℕ) → w < 65536 → w ≡ carried w
unfolding carried
carried_word zero h = refl
carried_word (suc w) h = omega arith

-- one word more
carried_add : (w t : ℕ) → w < 65536 → ones_add w (carried t) ≡ carried (w + t)
unfolding ones_add carried
carried_add w zero h = rw (add-zero w) (omega (arith, carried_word w h))
carried_add w (suc t) h = rw (add-suc w t) (omega arith)

-- the carries of a sum of not too many words, added twice
pub carried_twice : (t once : ℕ) → t ≤ 4294836224 → once ≡ t % 65536 + t / 65536 → once % 65536 + once / 65536 ≡ carried t
unfolding carried
carried_twice zero once h e = omega arith
carried_twice (suc t) once h e = omega arith

-- the ones' complement sum of bytes
pub ones-total : (s : List ℕ) → Octets s → ones_sum (words s) ≡ carried (total (words s))
unfolding words ones_sum tally carried
ones-total [] h = refl
ones-total (a ∷ []) h = ap (ones_add (a * 256)) refl ∙ carried_add (a * 256) 0 (omega (arith, h 0))
ones-total (a ∷ b ∷ s) h =
    ap (ones_add (a * 256 + b)) (ones-total s (λ i. h (suc (suc i))))
    ∙ carried_add (a * 256 + b) (total (words s)) (omega (arith, h 0, h 1))

-- ---- the sum in the other byte order (RFC 1071, section 2 (B))

-- the plain sum of the words whose low octet comes first
unfoldable pub low_total : List ℕ → ℕ
low_total [] = 0
low_total (a ∷ []) = a
low_total (a ∷ b ∷ s) = b * 256 + a + low_total s

-- the sum of every second octet
unfoldable seconds : List ℕ → ℕ
seconds [] = 0
seconds (a ∷ []) = 0
seconds (a ∷ b ∷ s) = b + seconds s

seconds_most : (s : List ℕ) → seconds s ≤ total (words s)
unfolding seconds words tally
seconds_most [] = omega arith
seconds_most (a ∷ []) = omega arith
seconds_most (a ∷ b ∷ s) = omega (arith, seconds_most s)

-- the two orders differ by a factor of 256, taken around 65,535
low_total_lem : (s : List ℕ) → 256 * low_total s ≡ 65535 * seconds s + total (words s)
unfolding low_total seconds words tally
low_total_lem [] = refl
low_total_lem (a ∷ []) = omega arith
low_total_lem (a ∷ b ∷ s) = omega (arith, low_total_lem s)

-- to swap the octets of a carried sum is that factor
swapped_carried : (t u k : ℕ) → 256 * t ≡ 65535 * k + u → k ≤ u → carried t % 256 * 256 + carried t / 256 ≡ carried u
unfolding carried
swapped_carried zero zero k e h = refl
swapped_carried zero (suc u) k e h = absurd (omega arith)
swapped_carried (suc t) zero k e h = absurd (omega arith)
swapped_carried (suc t) (suc u) k e h = omega arith

pub ones-swapped : (s : List ℕ) → Octets s → carried (low_total s) % 256 * 256 + carried (low_total s) / 256 ≡ ones_sum (words s)
ones-swapped s h = swapped_carried (low_total s) (total (words s)) (seconds s) (low_total_lem s) (seconds_most s) ∙ sym (ones-total s h)

-- ---- a loop over the words

pub low_turn : (s : List ℕ) (i : ℕ) → i + 1 < length s → low_total (drop i s) ≡ get_or s (i + 1) 0 * 256 + get_or s i 0 + low_total (drop (i + 2) s)
unfolding low_total
low_turn s i h =
    let next : suc (i + 1) ≡ i + 2 = omega arith in
    rw (drop-cons s i 0 (omega arith), ← add-one i, drop-cons s (i + 1) 0 h, next)

-- of two words
low_pair : (s : List ℕ) (i : ℕ) → i + 3 < length s
    → low_total (drop i s) ≡ get_or s (i + 1) 0 * 256 + get_or s i 0 + (get_or s (i + 3) 0 * 256 + get_or s (i + 2) 0) + low_total (drop (i + 4) s)
low_pair s i h =
    let place : i + 2 + 1 ≡ i + 3 = omega arith in
    let next : i + 2 + 2 ≡ i + 4 = omega arith in
    let first : low_total (drop i s) ≡ get_or s (i + 1) 0 * 256 + get_or s i 0 + low_total (drop (i + 2) s) = low_turn s i (omega arith) in
    let second : low_total (drop (i + 2) s) ≡ get_or s (i + 3) 0 * 256 + get_or s (i + 2) 0 + low_total (drop (i + 4) s) =
    low_turn s (i + 2) (omega arith) ∙ ap₂ (λ (j k : ℕ). get_or s j 0 * 256 + get_or s (i + 2) 0 + low_total (drop k s)) place next in
    omega (arith, first, second)

pub low_done : (s : List ℕ) (i sum : ℕ) → length s ≤ i → sum + low_total (drop i s) ≡ sum
unfolding low_total
low_done s i sum h = rw (drop_of_length-le s h) (add-zero sum)

-- ---- a loop over pairs of words: their sum without what leaves its 32 bits, the sum of the upper words, and so that of the lower ones

pair_more : (lowers uppers pair lower upper : ℕ) → pair ≡ upper * 65536 + lower → lowers + 65536 * uppers + pair ≡ lowers + lower + 65536 * (uppers + upper)
pair_more lowers uppers pair lower upper e = omega arith

pub record Halves (s : List ℕ) (i pairs uppers lowers : ℕ) : Type 0 where
  pub inside : i ≤ length s
  pub whole : i % 4 ≡ 0
  pub few_uppers : 4 * uppers ≤ 65535 * i
  pub few_lowers : 4 * lowers ≤ 65535 * i
  pub wrapped : pairs ≡ (lowers + 65536 * uppers) % 4294967296
  pub left : lowers + uppers + low_total (drop i s) ≡ low_total s

module _ (s : List ℕ) (i pairs uppers lowers : ℕ) (h : Halves s i pairs uppers lowers) where
  pub halves_turn : (pair : ℕ) → Octets s → length s % 4 ≡ 0 → i < length s
      → pair ≡ get_or s (i + 3) 0 * 16777216 + get_or s (i + 2) 0 * 65536 + get_or s (i + 1) 0 * 256 + get_or s i 0
      → Halves s (i + 4) ((pairs + pair) % 4294967296) (uppers + pair / 65536) (lowers + (get_or s (i + 1) 0 * 256 + get_or s i 0))
  halves_turn pair o even more e =
      let a : get_or s i 0 < 256 = o i in
      let b : get_or s (i + 1) 0 < 256 = o (i + 1) in
      let c : get_or s (i + 2) 0 < 256 = o (i + 2) in
      let d : get_or s (i + 3) 0 < 256 = o (i + 3) in
      let upper : pair / 65536 ≡ get_or s (i + 3) 0 * 256 + get_or s (i + 2) 0 = omega arith in
      let room : i + 3 < length s = omega arith in
      let lower : ℕ = get_or s (i + 1) 0 * 256 + get_or s i 0 in
      let parts : lowers + 65536 * uppers + pair ≡ lowers + lower + 65536 * (uppers + pair / 65536) = pair_more lowers uppers pair lower (pair / 65536) (omega arith) in
      record {
        inside = omega arith;
        whole = omega arith;
        few_uppers = omega arith;
        few_lowers = omega arith;
        wrapped = ap (λ (n : ℕ). (n + pair) % 4294967296) h.wrapped ∙ mod-add-mod (lowers + 65536 * uppers) 4294967296 pair ∙ ap (λ (n : ℕ). n % 4294967296) parts;
        left = omega (arith, low_pair s i room);
      }

  pub halves_lowers : i ≤ 512 → (pairs + 1099511627776 - uppers * 65536) % 4294967296 ≡ lowers
  halves_lowers few = omega arith

  pub halves_done : length s ≤ i → lowers + uppers ≡ low_total s
  halves_done end = sym (low_done s i (lowers + uppers) end) ∙ h.left

-- ---- a text put together

pub words_append : (u v : List ℕ) → length u % 2 ≡ 0 → words (u ++ v) ≡ words u ++ words v
unfolding words
words_append [] v h = refl
words_append (a ∷ []) v h = absurd (omega arith)
words_append (a ∷ b ∷ u) v h = ap (λ (l : List ℕ). (a * 256 + b) ∷ l) (words_append u v (omega arith))
