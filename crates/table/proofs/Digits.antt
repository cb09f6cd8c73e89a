-- Laws of decimal digits. Assumes nothing.
use Rattle.std.specs.Prelude.{Some}
use mathlib.Core.Path.{◌≡◌, refl, sym, ap, ◌∙◌}
use mathlib.Core.Bool.{true, cond}
use mathlib.Core.List.{List, [], ◌∷◌, ◌++◌}
use Prim.Native.Nat.{ℕ, suc, zero, ◌+◌, ◌-◌, ◌*◌, ◌/◌, ◌%◌, ◌^◌, ◌≤◌, ◌<◌}
use native.Mathlib.Decide.{dec_lt}
use native.Mathlib.Nat.{add-zero, add-suc, suc-add}
use native.Mathlib.Omega.{arith}
use borrow.Author.Tests.{lt-ltb, le-ltb, le-leb, ne_eqb}
use lib.Arith.{digits_div, digits_mod}
use lib.Dec.{ltb}
use lib.ListN.{length, length-append, set}
use lib.Seq.{sets, set_comm}
use Rattle.table.specs.Decimal.{digits_of, decimal, read_on, is_digit, all_digits, is_numeral, number_in}
use Rattle.answers.proofs.Conditions.{and_left, and_right}

-- ---- a digit more

-- digits enough are as good as more
enough : (d e n : ℕ) → n ≤ d → n ≤ e → digits_of d n ≡ digits_of e n
unfolding digits_of
enough zero zero n hd he = refl
enough zero (suc e) n hd he = rw (lt-ltb n 10 (omega arith))
enough (suc d) zero n hd he = rw (lt-ltb n 10 (omega arith))
enough (suc d) (suc e) n hd he =
    ap (λ (h : List ℕ). cond (ltb n 10) ((48 + n) ∷ []) (h ++ ((48 + n % 10) ∷ []))) (enough d e (n / 10) (omega arith) (omega arith))

pub decimal_one : (n : ℕ) → n < 10 → decimal n ≡ (48 + n) ∷ []
unfolding decimal digits_of
decimal_one zero h = refl
decimal_one (suc n) h = rw (lt-ltb (suc n) 10 h)

pub decimal_more : (n : ℕ) → 10 ≤ n → decimal n ≡ decimal (n / 10) ++ ((48 + n % 10) ∷ [])
unfolding decimal digits_of
decimal_more zero h = absurd (omega arith)
decimal_more (suc n) h =
    rw (le-ltb (suc n) 10 h) (ap (λ (l : List ℕ). l ++ ((48 + suc n % 10) ∷ [])) (enough n (suc n / 10) (suc n / 10) (omega arith) (omega arith)))

-- a number of one digit, or of more
pub by_ten : {P : Type 0} (n : ℕ) → (n < 10 → P) → (10 ≤ n → P) → P
by_ten {P} n one more = pick (dec_lt n 10)
  where
    pick : Dec (n < 10) → P
    pick (yes h) = one h
    pick (no h) = more (omega arith)

-- ---- how many

pub length-one : (n : ℕ) → n < 10 → length (decimal n) ≡ 1
length-one n h = rw (decimal_one n h)

pub length_more : (n : ℕ) → 10 ≤ n → length (decimal n) ≡ length (decimal (n / 10)) + 1
length_more n h = rw (decimal_more n h, length-append)

pub length_two : (n : ℕ) → 100 ≤ n → length (decimal n) ≡ length (decimal (n / 100)) + 2
length_two n h =
    let low : n / 10 / 10 ≡ n / 100 = omega arith in
    length_more n (omega arith) ∙ ap (λ (k : ℕ). k + 1) (length_more (n / 10) (omega arith) ∙ ap (λ (m : ℕ). length (decimal m) + 1) low) ∙ omega arith

pub length-four : (n : ℕ) → 10000 ≤ n → length (decimal n) ≡ length (decimal (n / 10000)) + 4
length-four n h =
    let low : n / 100 / 100 ≡ n / 10000 = omega arith in
    length_two n (omega arith) ∙ ap (λ (k : ℕ). k + 2) (length_two (n / 100) (omega arith) ∙ ap (λ (m : ℕ). length (decimal m) + 2) low) ∙ omega arith

pub length-least : (n : ℕ) → 1 ≤ length (decimal n)
length-least n = by_ten n (λ small. omega (arith, length-one n small)) λ large. omega (arith, length_more n large)

pub length_most : (k n : ℕ) → n < 10 ^ suc k → length (decimal n) ≤ suc k
length_most zero n h = omega (arith, length-one n h)
length_most (suc k) n h =
    by_ten n (λ small. omega (arith, length-one n small)) λ large.
    omega (arith, length_more n large, length_most k (n / 10) (omega arith))

-- a u64 has at most 20
pub length-u64 : (n : ℕ) → n < 2 ^ 64 → length (decimal n) ≤ 20
length-u64 n h = length_most 19 n (omega arith)

-- ---- stored from the last to the first

-- a run whose last element is stored first
sets-snoc : (l : List ℕ) (i : ℕ) (vs : List ℕ) (a : ℕ) → sets l i (vs ++ (a ∷ [])) ≡ sets (set l (i + length vs) a) i vs
sets-snoc l i [] a = rw add-zero
sets-snoc l i (b ∷ vs) a =
    rw (add-suc, ← suc-add, sets-snoc (set l i b) (suc i) vs a)
    (ap (λ (k : List ℕ). sets k (suc i) vs) (set_comm l i (suc i + length vs) b a (omega arith)))

put_more : (out : List ℕ) (at last n : ℕ) → 10 ≤ n → last + 1 ≡ at + length (decimal n)
    → sets (set out last (48 + n % 10)) at (decimal (n / 10)) ≡ sets out at (decimal n)
put_more out at last n h e =
    let place : last ≡ at + length (decimal (n / 10)) = omega (arith, length_more n h) in
    rw (decimal_more n h, sets-snoc, place)

-- the last two digits
parts : (n : ℕ) → n ≡ (n / 100 * 10 + n % 100 / 10) * 10 + n % 100 % 10
parts n = omega arith

last_digit : (n : ℕ) → n % 10 ≡ n % 100 % 10
last_digit n = ap (λ (m : ℕ). m % 10) (parts n) ∙ digits_mod (n / 100 * 10 + n % 100 / 10) (omega arith)

tens : (n : ℕ) → n / 10 ≡ n / 100 * 10 + n % 100 / 10
tens n = ap (λ (m : ℕ). m / 10) (parts n) ∙ digits_div (n / 100 * 10 + n % 100 / 10) (omega arith)

-- two digits are stored, and what is left to store is the digits before them
pub put_two : (out : List ℕ) (at last n : ℕ) → 100 ≤ n → last ≡ at + length (decimal n)
    → sets (set (set out (last - 1) (48 + n % 100 % 10)) (last - 2) (48 + n % 100 / 10)) at (decimal (n / 100)) ≡ sets out at (decimal n)
put_two out at last n h e =
    let low : n % 100 % 10 ≡ n % 10 = sym (last_digit n) in
    let high : n % 100 / 10 ≡ n / 10 % 10 = sym (ap (λ (m : ℕ). m % 10) (tens n) ∙ digits_mod (n / 100) (omega arith)) in
    let rest : n / 10 / 10 ≡ n / 100 = omega arith in
    let long = length_more n (omega arith) in
    let longer = length_more (n / 10) (omega arith) in
    let first = put_more (set out (last - 1) (48 + n % 10)) at (last - 2) (n / 10) (omega arith) (omega (arith, long, longer)) in
    let second = put_more out at (last - 1) n (omega arith) (omega (arith, long, longer)) in
    rw (low, high, ← rest) (first ∙ second)

-- the first two, or the first one, at the place where the digits begin
module _ (out old : List ℕ) (at last n m : ℕ) (e : last ≡ at + length (decimal m)) (s : sets out at (decimal m) ≡ sets old at (decimal n)) where
  pub put_pair : 10 ≤ m → m < 100 → set (set out (last - 1) (48 + m % 10)) (last - 2) (48 + m / 10) ≡ sets old (last - 2) (decimal n)
  put_pair h l =
      let two = length_more m h in
      let one = length-one (m / 10) (omega arith) in
      let front : last - 2 ≡ at = omega arith in
      let next : last - 1 ≡ suc at = omega arith in
      rw (front, next)
      (set_comm out (suc at) at (48 + m % 10) (48 + m / 10) (λ q. omega arith) ∙ sym (ap (sets out at) (decimal_more m h ∙ ap (λ (l : List ℕ). l ++ ((48 + m % 10) ∷ [])) (decimal_one (m / 10) (omega arith)))) ∙ s)

  pub put_one : m < 10 → set out (last - 1) (48 + m) ≡ sets old (last - 1) (decimal n)
  put_one h =
      let one = length-one m h in
      let front : last - 1 ≡ at = omega arith in
      rw front (sym (ap (sets out at) (decimal_one m h)) ∙ s)

-- ---- read back

read_append : (n : ℕ) (ds es : List ℕ) → read_on n (ds ++ es) ≡ read_on (read_on n ds) es
unfolding read_on
read_append n [] es = refl
read_append n (d ∷ ds) es = read_append (n * 10 + (d - 48)) ds es

read_digits : (more n : ℕ) → n ≤ more → read_on 0 (digits_of more n) ≡ n
unfolding read_on digits_of
read_digits zero n h = omega arith
read_digits (suc more) n h =
    by_ten n (λ small. rw (lt-ltb n 10 small) (omega arith)) λ large.
    rw (le-ltb n 10 large, read_append) (omega (arith, read_digits more (n / 10) (omega arith)))

-- digits behind a first one, which is no 0 where the number is no 0
pub record Numeral (n : ℕ) (s : List ℕ) : Type 0 where
  pub first : ℕ
  pub rest : List ℕ
  pub is : s ≡ first ∷ rest
  pub digits : all_digits s ≡ true
  pub leads : 1 ≤ n → 49 ≤ first

digit_more : (s : List ℕ) (d : ℕ) → d < 10 → all_digits s ≡ true → all_digits (s ++ ((48 + d) ∷ [])) ≡ true
unfolding all_digits
digit_more [] d h e = rw (le-leb 48 (48 + d) (omega arith), le-leb (48 + d) 57 (omega arith))
digit_more (c ∷ s) d h e =
    rw (and_left (is_digit c) (all_digits s) e) (digit_more s d h (and_right (is_digit c) (all_digits s) e))

numeral_more : (n d m : ℕ) (s : List ℕ) → 1 ≤ n → d < 10 → Numeral n s → Numeral m (s ++ ((48 + d) ∷ []))
numeral_more n d m s h l k = record {
  first = k.first;
  rest = k.rest ++ ((48 + d) ∷ []);
  is = ap (λ (t : List ℕ). t ++ ((48 + d) ∷ [])) k.is;
  digits = digit_more s d l k.digits;
  leads = λ _. k.leads h;
}

numeral : (more n : ℕ) → n ≤ more → Numeral n (digits_of more n)
unfolding digits_of all_digits
numeral zero n h = record { first = 48 + n; rest = []; is = refl; digits = rw (le-leb 48 (48 + n) (omega arith), le-leb (48 + n) 57 (omega arith)); leads = λ l. omega arith }
numeral (suc more) n h =
    by_ten n
    (λ small. rw (lt-ltb n 10 small) (record { first = 48 + n; rest = []; is = refl; digits = rw (le-leb 48 (48 + n) (omega arith), le-leb (48 + n) 57 (omega arith)); leads = λ l. omega arith }))
    λ large. rw (le-ltb n 10 large) (numeral_more (n / 10) (n % 10) n (digits_of more (n / 10)) (omega arith) (omega arith) (numeral more (n / 10) (omega arith)))

leading : (d : ℕ) (ds : List ℕ) → all_digits (d ∷ ds) ≡ true → 49 ≤ d → is_numeral (d ∷ ds) ≡ true
unfolding is_numeral all_digits
leading d [] e h = and_left (is_digit d) true e
leading d (c ∷ ds) e h = rw (ne_eqb d 48 (λ q. omega arith)) e

is_numeral_lem : (n : ℕ) → is_numeral (decimal n) ≡ true
unfolding decimal digits_of is_numeral
is_numeral_lem zero = refl
is_numeral_lem (suc n) =
    let k = numeral (suc n) (suc n) (omega arith) in
    ap is_numeral k.is ∙ leading k.first k.rest (ap all_digits (sym k.is) ∙ k.digits) (k.leads (omega arith))

digits_say : (n : ℕ) → read_on 0 (decimal n) ≡ n
unfolding decimal
digits_say n = read_digits n n (omega arith)

pub read_decimal : (n : ℕ) → number_in (decimal n) ≡ Some n
unfolding number_in
read_decimal n = rw (is_numeral_lem n) (ap Some (digits_say n))
