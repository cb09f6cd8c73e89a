-- Which numbers have a meaning, and how long it is. Assumes nothing.
use Rattle.std.specs.Prelude.{Some, None}
use mathlib.Core.Path.{◌≡◌, refl}
use mathlib.Core.Bool.{true}
use mathlib.Core.List.{List, [], ◌∷◌, map}
use Prim.Native.Nat.{ℕ, zero, suc, ◌-◌, ◌≤◌, ◌<◌}
use native.Mathlib.Omega.{arith}
use borrow.Author.Tests.{lt-leb, le-leb, leb-true}
use lib.Dec.{leb}
use lib.ListN.{length, get_or}
use Rattle.answers.specs.Conditions.{all}
use Rattle.answers.specs.Meanings.{meanings, meaning_of, last_number, meaning_fault, most_meaning, MeaningFits}
use Rattle.answers.specs.declared.Refusal.TheVariants.{Limits}
use Rattle.answers.proofs.Conditions.{and_left, and_right}

pub none_below : (n : ℕ) → n < 1 → meaning_fault n ≡ Some Limits
unfolding meaning_fault
none_below n h = rw (lt-leb 1 n h)

pub none_above : (n : ℕ) → 1 ≤ n → last_number < n → meaning_fault n ≡ Some Limits
unfolding meaning_fault
none_above n l h = rw (le-leb 1 n l, lt-leb n last_number h)

pub some_between : (n : ℕ) → 1 ≤ n → n ≤ last_number → meaning_fault n ≡ None
unfolding meaning_fault
some_between n l h = rw (le-leb 1 n l, le-leb n last_number h)

-- each of some texts is short
each_short : (most : ℕ) (texts : List (List ℕ)) → all (map (λ t. leb (length t) most) texts) ≡ true → (n : ℕ) → length (get_or texts n []) ≤ most
each_short most [] t n = omega arith
each_short most (x ∷ texts) t zero = leb-true (length x) most (and_left (leb (length x) most) _ t)
each_short most (x ∷ texts) t (suc n) = each_short most texts (and_right (leb (length x) most) _ t) n

pub meaning_fits : MeaningFits
unfolding meaning_of
meaning_fits n = each_short most_meaning meanings refl (n - 1)
