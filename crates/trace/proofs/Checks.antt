-- Laws of the check word: with it the sum is 65,535, and no other word does it but 65,535. Assumes nothing.
use Rattle.std.proofs.Common.{◌≡◌, ℕ, zero, suc, ◌+◌, ◌-◌, ◌%◌, ◌<◌, ◌≤◌, Bool, true, not, eqb, List, [], ◌∷◌, ◌++◌, length, take, drop, sym, ap, ◌∙◌, arith, length-drop, take-append-drop, length-take-le, take_all, ne_eqb, eqb-true}
use borrow.Author.Tests.{eqb-false, not-true}
use Rattle.numbers.specs.BigEndian.{word, bytes}
use Rattle.numbers.proofs.BigEndian.{Octets, bytes_two, word_lt}
use Rattle.answers.proofs.Conditions.{all_true}
use Rattle.trace.specs.Checksum.{words, ones_sum}
use Rattle.trace.specs.Layout.{checked}
use Rattle.trace.specs.Reading.{right_check, check_in}
use Rattle.trace.proofs.Tallies.{tally, tally_append}
use Rattle.trace.proofs.Sums.{total, carried, ones-total, words_append}
use Rattle.numbers.proofs.Octets.{octets_append, octets_bytes, octets_take, bytes_word, read_last}

-- ---- numbers

carried_most : (t : ℕ) → carried t ≤ 65535
unfolding carried
carried_most zero = omega arith
carried_most (suc t) = omega arith

carried_least : (t : ℕ) → 1 ≤ t → 1 ≤ carried t
unfolding carried
carried_least zero h = h
carried_least (suc t) h = omega arith

-- the word that a sum lacks
check_makes : (t : ℕ) → 1 ≤ t → carried (t + (65535 - carried t)) ≡ 65535
unfolding carried
check_makes zero h = absurd (omega arith)
check_makes (suc t) h =
    let more : suc t + (65535 - suc (t % 65535)) ≡ suc (t + (65535 - suc (t % 65535))) = omega arith in
    rw more (omega arith)

check_only : (t c : ℕ) → c < 65535 → carried (t + c) ≡ 65535 → c ≡ 65535 - carried t
unfolding carried
check_only zero zero h e = absurd (omega arith)
check_only zero (suc c) h e =
    let same : 0 + suc c ≡ suc c = omega arith in
    let e' : suc (c % 65535) ≡ 65535 = rw same at e in
    absurd (omega (arith, e'))
check_only (suc t) c h e =
    let more : suc t + c ≡ suc (t + c) = omega arith in
    let e' : suc ((t + c) % 65535) ≡ 65535 = rw more at e in
    omega (arith, e')

-- ---- lists

-- the sum of a text of whole words and one word more
module _ (front : List ℕ) (o : Octets front) (even : length front % 2 ≡ 0) (c : ℕ) (small : c < 65536) where
  sum_checked : ones_sum (words (front ++ bytes 2 c)) ≡ carried (total (words front) + c)
  unfolding words tally
  sum_checked =
      let two : total (words (bytes 2 c)) ≡ c = rw bytes_two (omega arith) in
      ones-total (front ++ bytes 2 c) (octets_append front (bytes 2 c) o (octets_bytes 2 c))
      ∙ ap carried (rw (words_append front (bytes 2 c) even, tally_append (λ (w : ℕ). w) (words front) (words (bytes 2 c)), two))

-- a checked text of 510 octets, of which some word is not 0, has a right check
pub check_right : (front : List ℕ) → Octets front → length front ≡ 510 → 1 ≤ total (words front) → right_check (checked front) ≡ true
unfolding checked right_check
check_right front o long some =
    let t = total (words front) in
    let sum = ones-total front o in
    let c : ℕ = 65535 - ones_sum (words front) in
    let small : c < 65535 = omega (arith, sum, carried_least t some) in
    let whole : ones_sum (words (front ++ bytes 2 c)) ≡ 65535 =
    sum_checked front o (rw long) c (omega (arith, small)) ∙ ap (λ (n : ℕ). carried (t + (65535 - n))) sum ∙ check_makes t some in
    let last : word 2 (front ++ bytes 2 c) 510 ≡ c = read_last 2 c (omega (arith, small)) front long in
    rw (whole, last, ne_eqb c 65535 (λ e. omega (arith, small)))

-- a block with a right check is checked from its first 510 octets
pub right_checked : (b : List ℕ) → Octets b → length b ≡ 512 → right_check b ≡ true → b ≡ checked (take 510 b)
unfolding checked right_check
right_checked b o long right =
    let tests : List Bool = eqb (ones_sum (words b)) 65535 ∷ not (eqb (check_in b) 65535) ∷ [] in
    let front : List ℕ = take 510 b in
    let c : ℕ = check_in b in
    let of : Octets front = octets_take 510 b o in
    let length-f : length front ≡ 510 = length-take-le 510 b (omega arith) in
    let end : bytes 2 c ≡ drop 510 b = bytes_word 2 b 510 o (omega arith) ∙ take_all 2 (drop 510 b) (rw length-drop (omega arith)) in
    let parts : b ≡ front ++ bytes 2 c = sym (take-append-drop 510 b) ∙ ap (λ (s : List ℕ). front ++ s) (sym end) in
    let sum : ones_sum (words b) ≡ 65535 = eqb-true (ones_sum (words b)) 65535 (all_true tests 0 right) in
    let other = eqb-false c 65535 (not-true (eqb c 65535) (all_true tests 1 right)) in
    let small : c < 65536 = word_lt b 510 2 o in
    let below : c < 65535 = omega (arith, small, other) in
    let made : carried (total (words front) + c) ≡ 65535 = sym (sum_checked front of (rw length-f) c small) ∙ ap (λ (s : List ℕ). ones_sum (words s)) (sym parts) ∙ sum in
    parts ∙ ap (λ (n : ℕ). front ++ bytes 2 n) (check_only (total (words front)) c below made ∙ ap (λ (n : ℕ). 65535 - n) (sym (ones-total front of)))
