-- How bytes are written, write by write. Assumes nothing.
use mathlib.Core.Path.{◌≡◌, refl, ◌∙◌}
use mathlib.Core.Bool.{true, false, not}
use Prim.Native.Nat.{ℕ, ◌+◌, ◌-◌, ◌*◌, ◌<◌, ◌≤◌}
use native.Mathlib.Omega.{arith}
use borrow.Author.Tests.{ltb-true, ltb-false, not-true}
use lib.Dec.{ltb}
use Rattle.answers.proofs.Conditions.{and_left, and_right, and_goes}
use Rattle.shell.specs.Tries.{tries, bytes_in}
use Rattle.shell.specs.Writes.{Ended, unwritten, has_failed, is_unwritten, writing_after}
use Rattle.shell.specs.declared.writing.Writing.{Writing}
use Rattle.shell.specs.declared.retries.Outcome.{Outcome}
use Rattle.shell.specs.declared.retries.Outcome.TheVariants.{Bytes, Nothing, Again, Failed}
use Rattle.shell.proofs.Answered.{Fair, above}

-- how far it has come
pub record Held (n : ℕ) (w : Writing) : Type 0 where
  pub inside : w.at ≤ n
  pub few : w.left ≤ tries

-- a number that falls with each write
abbrev pub to_write : ℕ → Writing → ℕ
to_write n w = (n - w.at) * 4294967296 + w.left

pub unwritten_held : {n : ℕ} {w : Writing} → w ≡ unwritten → Held n w
unwritten_held e = rw e (record { inside = omega arith; few = omega arith })

-- while it goes on a try is left, and a byte
pub goes_unwritten : (w : Writing) (n : ℕ) → is_unwritten w n ≡ true → (0 < w.left) × (w.at < n)
unfolding is_unwritten
goes_unwritten w n e =
    let tried = not (has_failed w) in
    let some = ltb w.at n in
    (above w.left (not-true (has_failed w) (and_left tried some e)), ltb-true w.at n (and_right tried some e))

pub taken_fits : (n : ℕ) (w : Writing) (o : Outcome) → w.at < n → Fair (n - w.at) w.left o → w.at + bytes_in o ≤ n
taken_fits n w (Bytes k) h f = omega arith
taken_fits n w Nothing h f = omega arith
taken_fits n w (Again k) h f = omega arith
taken_fits n w Failed h f = omega arith

pub taken_holds : (n : ℕ) (w : Writing) (o : Outcome) → Held n w → w.at < n → Fair (n - w.at) w.left o → Held n (writing_after w o)
taken_holds n w (Bytes k) s h f = record { inside = omega arith; few = omega arith }
taken_holds n w Nothing s h f = record { inside = omega arith; few = omega (arith, s.few) }
taken_holds n w (Again k) s h f = record { inside = omega arith; few = omega (arith, s.few) }
taken_holds n w Failed s h f = record { inside = omega arith; few = omega arith }

pub taken_less : (n : ℕ) (w : Writing) (o : Outcome) → 0 < w.left → w.at < n → Fair (n - w.at) w.left o → to_write n (writing_after w o) < to_write n w
taken_less n w (Bytes k) l h f = omega arith
taken_less n w Nothing l h f = omega arith
taken_less n w (Again k) l h f = omega arith
taken_less n w Failed l h f = omega arith

pub held_ended : (n : ℕ) (w : Writing) → Held n w → is_unwritten w n ≡ false → Ended n w
unfolding is_unwritten
held_ended n w s e =
    let some = ltb w.at n in
    record { all = λ f. omega (arith, s.inside, ltb-false w.at n (and_goes (not (has_failed w)) some some (rw f) refl ∙ e)) }
